-- Signatures of registrations.
use Rattle.std.specs.Prelude.{ℕ, Bool, false, if◌then◌else◌, ◌==◌, List, length, take, drop, bytes_eq, codes, find, option_map, Option, Some, None, is_some}
use Rattle.http_frames.specs.declared.message.Header.{Header}
use Rattle.http_frames.specs.declared.message.Request.{Request}
use Rattle.http_frames.specs.Headers.{count_named, is_named}
use Rattle.shared_key.specs.Signature.{first_signer}
use Rattle.pull_server.specs.declared.signatures.TheConstants.{MOST_KEYS}

-- how many keys of a shelf count
abbrev pub most_keys : ℕ
most_keys = MOST_KEYS

-- the value of the one header of that name
abbrev pub single : List ℕ → List Header → Option (List ℕ)
single name headers =
    if count_named name headers == 1 then option_map (λ header. header.value) (find (is_named name) headers) else None

-- what stands after that front
abbrev pub after_front : List ℕ → List ℕ → Option (List ℕ)
after_front front text = if bytes_eq (take (length front) text) front then Some (drop (length front) text) else None

-- some key gives this signature of the body and the date
abbrev pub is_by : List (List ℕ) → List ℕ → List ℕ → Option (List ℕ) → Bool
is_by keys body date None = false
is_by keys body date (Some signature) = is_some (first_signer (take most_keys keys) body date signature)

abbrev pub is_authorized : List (List ℕ) → List ℕ → List ℕ → Option (List ℕ) → Bool
is_authorized keys body date None = false
is_authorized keys body date (Some value) = is_by keys body date (after_front (codes "Shared ") value)

abbrev pub is_dated : List (List ℕ) → Request → Option (List ℕ) → Bool
is_dated keys request None = false
is_dated keys request (Some date) = is_authorized keys request.body date (single (codes "Authorization") request.headers)

-- one x-ms-date and one Authorization stand in the head, and a key gives the signature after "Shared "
unfoldable pub is_signed : List (List ℕ) → Request → Bool
is_signed keys request = is_dated keys request (single (codes "x-ms-date") request.headers)
