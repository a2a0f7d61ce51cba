-- Headers by their names, which are the same in any case of ASCII letters (RFC 9110, section 5.1).
use Rattle.std.specs.Prelude.{ℕ, Bool, ◌||◌, not, List, bytes_eq, count_by}
use Rattle.std.specs.List.{list_all, list_any}
use Rattle.std.specs.Str.{str_to_ascii_lowercase}
use Rattle.http_frames.specs.declared.message.Header.{Header}

-- a name and a value
abbrev pub header : List ℕ → List ℕ → Header
header name value = record { name = name; value = value }

-- the two are the same but for the case of ASCII letters
abbrev pub is_same : List ℕ → List ℕ → Bool
is_same a b = bytes_eq (str_to_ascii_lowercase a) (str_to_ascii_lowercase b)

-- the header has this name, in any case
abbrev pub is_named : List ℕ → Header → Bool
is_named name header = is_same header.name name

abbrev pub has_named : List ℕ → List Header → Bool
has_named name headers = list_any (is_named name) headers

abbrev pub count_named : List ℕ → List Header → ℕ
count_named name headers = count_by (is_named name) headers

-- each value under this name passes the test
abbrev pub all_named : List ℕ → (List ℕ → Bool) → List Header → Bool
all_named name test headers = list_all (λ header. not (is_named name header) || test header.value) headers
