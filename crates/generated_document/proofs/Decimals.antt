-- The decimal texts of small numbers: a few digits, which are written as they are and have no case.
use Rattle.std.proofs.Common.{◌≡◌, ◌∙◌, ℕ, ◌<◌, ◌≤◌, List, [], ◌∷◌, ◌++◌, length, codes, refl, sym, ap, arith}
use Rattle.std.specs.Char.{to_ascii_lowercase}
use Rattle.std.specs.Fmt.{decimal}
use Rattle.std.specs.List.{flat_map}
use Rattle.std.specs.Str.Parse.{AllDigits}
use Rattle.std.proofs.lemmas.Bool.Decides.{nat_tests}
use Rattle.std.proofs.lemmas.Fmt.{decimal_injective, decimal_is_IsNumeral, length-decimal-le}
use Rattle.std.proofs.lemmas.List.{append_cancel_left}
use Rattle.std.proofs.lemmas.Str.Parse.{digit_from_value}
use Rattle.mof_values.specs.Fold.{fold_case, SameName}
use Rattle.mof_syntax.specs.Canonical.{literal_char}
use Rattle.generated_document.specs.Generated.{id_of_number}
use Rattle.dsc_document.specs.declared.limits.TheConstants.{MAX_RESOURCES}

pub decimal_digits : (n : ℕ) → n < MAX_RESOURCES → AllDigits 10 (decimal n)
decimal_digits n small = (decimal_is_IsNumeral n (omega (arith, small))).0.1

pub decimal_short : (n : ℕ) → n < MAX_RESOURCES → length (decimal n) ≤ 4
decimal_short n small = length-decimal-le 4 n (omega arith) (omega (arith, small)) (omega (arith, small))

-- a digit is written as it is
literal_digit : (c : ℕ) → 48 ≤ c → c ≤ 57 → literal_char c ≡ c ∷ []
literal_digit c low high = grind (arith, nat_tests)

pub literal_digits : (ds : List ℕ) → AllDigits 10 ds → flat_map literal_char ds ≡ ds
literal_digits [] all = refl
literal_digits (d ∷ ds) all =
    let range = digit_from_value d all.0 in
    let here : literal_char d ≡ d ∷ [] = literal_digit d range.0 range.1 in
    let after : flat_map literal_char ds ≡ ds = literal_digits ds all.1 in
    rw (here, after)

-- a digit has no case
lower_digit : (c : ℕ) → 48 ≤ c → c ≤ 57 → to_ascii_lowercase c ≡ c
lower_digit c low high = grind (arith, nat_tests)

fold_digits : (ds : List ℕ) → AllDigits 10 ds → fold_case ds ≡ ds
fold_digits [] all = refl
fold_digits (d ∷ ds) all =
    let range = digit_from_value d all.0 in
    let here : to_ascii_lowercase d ≡ d = lower_digit d range.0 range.1 in
    let after : fold_case ds ≡ ds = fold_digits ds all.1 in
    cc

folded_id : (n : ℕ) → n < MAX_RESOURCES → fold_case (id_of_number n) ≡ codes "[environment]r" ++ decimal n
folded_id n small = ap (λ ds. codes "[environment]r" ++ ds) (fold_digits (decimal n) (decimal_digits n small))

-- ids of different numbers are different names
pub same_number : (i j : ℕ) → i < MAX_RESOURCES → j < MAX_RESOURCES → SameName (id_of_number i) (id_of_number j) → i ≡ j
same_number i j small also same =
    decimal_injective i j (omega (arith, small)) (omega (arith, also))
    (append_cancel_left (codes "[environment]r") (decimal i) (decimal j) (sym (folded_id i small) ∙ same ∙ folded_id j also))
