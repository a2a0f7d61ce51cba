use Rattle.std.proofs.Common.{◌≡◌, ◌≤◌, inl, inr, ℕ, List, [], ◌∷◌, ◌++◌, length, refl, ap, ◌∙◌, codes, arith, length-append}
use Rattle.std.specs.Prelude.{encode_utf8}
use Rattle.std.specs.Char.{IsScalar, len_utf8}
use Rattle.std.proofs.lemmas.Bool.{cases_lt}
use Rattle.std.proofs.lemmas.Bool.Decides.{nat_tests}
use Rattle.std.proofs.lemmas.Str.{encode_ascii, length-encode}
use Rattle.mof_syntax.specs.declared.mof_error.MofError.TheVariants.{TooLong}
use Rattle.mof_syntax.specs.Refusals.{Refuses}
use Rattle.mof_codec.specs.Machine.{begin}
use Rattle.mof_codec.proofs.Searched.{refusal_wins}
use lib.Utf8.{encode}
use Rattle.mof_examples.specs.Placed.{given}
use Rattle.mof_examples.proofs.laws.bytes_are_refused.Goals as goal

longer : (bytes : List ℕ) → length bytes ≡ 8388609 → Refuses bytes TooLong
longer bytes e = omega (arith, e)

longest : (bytes : List ℕ) → length bytes ≡ 8388608 → Refuses bytes TooLong → ⊥
longest bytes e h = omega (arith, e, h)

-- the byte is no character alone
no_char : (c : ℕ) (rest : List ℕ) → IsScalar c → 0xFF ∷ [] ≡ encode_utf8 c ++ rest → ⊥
no_char c rest s e = elim (cases_lt c 128) [
  | inl small ↦
      let head : 255 ≡ c = first c rest (e ∙ ap (λ (bs : List ℕ). bs ++ rest) (encode_ascii c small)) in
      omega (arith, small, head)
  | inr large ↦
      let two : 2 ≤ len_utf8 c = grind (arith, nat_tests) in
      let one = ap (λ (bs : List ℕ). length bs) e in
      omega (arith, two, one, length-append (encode_utf8 c) rest, length-encode c)
]
  where
    first : (c : ℕ) (rest : List ℕ) → 0xFF ∷ [] ≡ c ∷ rest → 255 ≡ c
    first c rest e = cc

pub returns : goal.returns
unfolding begin encode
returns c = record {
  too_long = longer;
  longest = longest;
  after_a_mark = record { within = omega arith; text = given (codes "1.5"); decoded = record { scalars = refl; spelled = refl }; wins = refusal_wins _ _ refl };
  no_character = (omega arith, record { before = codes "instance"; scalars = refl; spelled = refl; within = omega arith; no_char = no_char });
}
