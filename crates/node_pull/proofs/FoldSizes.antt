-- A name and its fold have as many bytes.
use Rattle.std.proofs.Common.{◌≡◌, ◌⊎◌, inl, inr, ℕ, ◌+◌, ◌<◌, ◌≤◌, List, [], ◌∷◌, ◌++◌, length, encode_utf8_all, refl, sym, ap, ◌∙◌, arith, length-append}
use Rattle.std.proofs.lemmas.Bool.{cases_lt, cond_below, cond_above}
use Rattle.std.proofs.lemmas.Str.{length-encode, len_utf8_ascii}
use Rattle.std.specs.Char.{encode_utf8, len_utf8, to_ascii_lowercase}
use Rattle.mof_values.specs.Fold.{SameName, fold_case}

lower_size : (c : ℕ) → len_utf8 (to_ascii_lowercase c) ≡ len_utf8 c
lower_size c = by_first (cases_lt c 65)
  where
    by_last : 65 ≤ c → (c < 91) ⊎ (91 ≤ c) → len_utf8 (to_ascii_lowercase c) ≡ len_utf8 c
    by_last high (inl low) =
        ap len_utf8 (sym (cond_above c 65 c _ (c + 32) high (cond_below c 91 (c + 32) c low)))
        ∙ len_utf8_ascii (c + 32) (omega (arith, low)) ∙ sym (len_utf8_ascii c (omega (arith, low)))
    by_last high (inr above) = ap len_utf8 (sym (cond_above c 65 c _ c high (cond_above c 91 (c + 32) c c above refl)))

    by_first : (c < 65) ⊎ (65 ≤ c) → len_utf8 (to_ascii_lowercase c) ≡ len_utf8 c
    by_first (inl low) = ap len_utf8 (sym (cond_below c 65 c _ low))
    by_first (inr high) = by_last high (cases_lt c 91)

fold_size : (name : List ℕ) → length (encode_utf8_all (fold_case name)) ≡ length (encode_utf8_all name)
fold_size [] = refl
fold_size (c ∷ cs) = omega (
  arith,
  fold_size cs,
  lower_size c,
  length-append (encode_utf8 (to_ascii_lowercase c)) (encode_utf8_all (fold_case cs)),
  length-append (encode_utf8 c) (encode_utf8_all cs),
  length-encode (to_ascii_lowercase c),
  length-encode c,
)

pub same_size : (a b : List ℕ) → SameName a b → length (encode_utf8_all a) ≡ length (encode_utf8_all b)
same_size a b is = sym (fold_size a) ∙ ap (λ (cs : List ℕ). length (encode_utf8_all cs)) is ∙ fold_size b
