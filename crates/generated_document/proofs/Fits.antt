-- Texts of ASCII with a bound on their length.
use Rattle.std.proofs.Common.{◌≡◌, ◌∙◌, ℕ, ◌+◌, ◌<◌, ◌≤◌, true, ◌&&◌, nat_lt, List, [], ◌∷◌, ◌++◌, length, encode_utf8_all, refl, ap, arith, length-append}
use Rattle.std.specs.Char.{is_ascii}
use Rattle.std.specs.List.{list_all}
use Rattle.std.proofs.lemmas.Bool.{and_parts}
use Rattle.std.proofs.lemmas.Bool.Decides.{nat_tests}
use Rattle.std.proofs.lemmas.List.Folds.{list_all-append}
use Rattle.std.proofs.lemmas.Str.{encode_ascii}
use Rattle.std.specs.Str.Parse.{AllDigits}
use Rattle.std.proofs.lemmas.Str.Parse.{digit_from_value}

pub record Fits (bound : ℕ) (text : List ℕ) : Type 0 where
  pub ascii : list_all is_ascii text ≡ true
  pub short : length text ≤ bound

pub fits_joined : (m n : ℕ) (a b : List ℕ) → Fits m a → Fits n b → Fits (m + n) (a ++ b)
fits_joined m n a b first second = record {
  ascii = list_all-append is_ascii a b ∙ (λ i. first.ascii i && second.ascii i);
  short = omega (arith, length-append a b, first.short, second.short);
}

pub fits_more : (m n : ℕ) (text : List ℕ) → m ≤ n → Fits m text → Fits n text
fits_more m n text within fits = record { ascii = fits.ascii; short = omega (arith, within, fits.short) }

below : (c : ℕ) → nat_lt c 128 ≡ true → c < 128
below c is = grind (arith, nat_tests)

-- such a text is written in as many bytes as it has characters
encoded : (text : List ℕ) → list_all is_ascii text ≡ true → encode_utf8_all text ≡ text
encoded [] all = refl
encoded (c ∷ text) all =
    let parts = and_parts (nat_lt c 128) (list_all is_ascii text) all in
    let after : encode_utf8_all text ≡ text = encoded text parts.1 in
    ap (λ bytes. bytes ++ encode_utf8_all text) (encode_ascii c (below c parts.0)) ∙ ap (λ rest. c ∷ rest) after

pub fits_encoded : (bound : ℕ) (text : List ℕ) → Fits bound text → length (encode_utf8_all text) ≤ bound
fits_encoded bound text fits = omega (arith, ap length (encoded text fits.ascii), fits.short)

ascii_digit : (c : ℕ) → c ≤ 57 → nat_lt c 128 ≡ true
ascii_digit c low = grind (arith, nat_tests)

ascii_digits : (ds : List ℕ) → AllDigits 10 ds → list_all is_ascii ds ≡ true
ascii_digits [] all = refl
ascii_digits (d ∷ ds) all =
    let here : nat_lt d 128 ≡ true = ascii_digit d (digit_from_value d all.0).1 in
    let after : list_all is_ascii ds ≡ true = ascii_digits ds all.1 in
    λ i. here i && after i

pub fits_digits : (bound : ℕ) (ds : List ℕ) → AllDigits 10 ds → length ds ≤ bound → Fits bound ds
fits_digits bound ds all short = record { ascii = ascii_digits ds all; short = short }

-- a word, whose length and characters are known
pub fits_word : (bound : ℕ) (word : List ℕ) → list_all is_ascii word ≡ true → length word ≤ bound → Fits bound word
fits_word bound word ascii short = record { ascii = ascii; short = short }
