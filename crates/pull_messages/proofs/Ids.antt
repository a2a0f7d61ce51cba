-- Identifiers come back from their texts.
use Rattle.std.proofs.Common.{◌≡◌, ◌<◌, ◌^◌, ◌/◌, ◌%◌, ℕ, zero, suc, length, All, Some, option_map, refl, sym, ◌∙◌, ap, inl, arith}
use Rattle.std.specs.Int.{w128, to_be_bytes, from_be_bytes, bytes_high_first, byte_at}
use Rattle.std.proofs.lemmas.List.Elements.{All-nil, All-cons}
use Rattle.uuid.specs.Text.{lower}
use Rattle.uuid.proofs.OrderLemmas.{from_be_bytes-to_be_bytes_16}
use Rattle.uuid.proofs.RoundTrips.{parses_hyphenated, parses_hyphenated_text}
use Rattle.pull_messages.specs.Members.{id_of}
use Rattle.pull_messages.specs.Targets.{agent_of}
use Rattle.pull_messages.specs.Writing.{id_text}

byte_small : (i n : ℕ) → byte_at i n < 256
byte_small zero n = omega arith
byte_small (suc i) n = let m = n / 256 ^ suc i in let lt : m % 256 < 256 = omega arith in lt

bytes_small : (k n : ℕ) → All (λ b. b < 256) (bytes_high_first k n)
bytes_small zero n = All-nil (λ b. b < 256)
bytes_small (suc k) n = All-cons (λ b. b < 256) (byte_at k n) (bytes_high_first k n) (byte_small k n) (bytes_small k n)

bytes_length : (k n : ℕ) → length (bytes_high_first k n) ≡ k
bytes_length zero n = refl
bytes_length (suc k) n = ap suc (bytes_length k n)

pub id_back : (id : ℕ) → id < 2 ^ 128 → id_of (id_text id) ≡ Some id
unfolding id_of id_text
id_back id fits =
    ap (option_map (from_be_bytes w128)) (sym (parses_hyphenated lower (to_be_bytes w128 id) (inl refl) (bytes_length 16 id) (bytes_small 16 id)))
    ∙ ap Some (from_be_bytes-to_be_bytes_16 id fits)

pub agent_back : (id : ℕ) → id < 2 ^ 128 → agent_of (id_text id) ≡ Some id
unfolding agent_of id_text
agent_back id fits =
    ap (option_map (from_be_bytes w128)) (sym (parses_hyphenated_text lower (to_be_bytes w128 id) (inl refl) (bytes_length 16 id) (bytes_small 16 id)))
    ∙ ap Some (from_be_bytes-to_be_bytes_16 id fits)
