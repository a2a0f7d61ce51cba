-- The argument that a count is, and what `parse` gives of it.
use Rattle.std.proofs.Common.{◌≡◌, ℕ, ◌<◌, ◌≤◌, ◌^◌, List, length, get_or, Result, Ok, Err, OkIff, is_ok, true≢false, sym, ap, ◌∙◌, arith}
use Rattle.std.specs.Fmt.{decimal}
use Rattle.std.specs.Str.Parse.{AllDigits, ParsesUnsigned, digits_value}
use Rattle.std.proofs.lemmas.Str.Parse.{numerals_by_value, tells_digits, digit_at, parse_plain}
use Rattle.std.proofs.lemmas.Fmt.{decimal_digit, decimal_nonempty, digits_decimal, decimal-digits_value, first_decimal, parse-decimal}
use Rattle.dsc_document.specs.declared.limits.TheConstants.{MAX_RESOURCES}
use Rattle.lcm_program.specs.Words.{IsCount}

ok_value : {E : Type 0} → Result ℕ E → ℕ
ok_value (Ok value) = value
ok_value (Err error) = 0

-- a count begins with a digit that is no zero
pub count_begins : (word : List ℕ) (count : ℕ) → IsCount word count → (0 < length word) × (48 < get_or word 0 0) × (get_or word 0 0 ≤ 57)
count_begins word count counted =
    let small : count < 2 ^ 64 = omega (arith, counted.2) in
    let some : 0 < length (decimal count) = decimal_nonempty count small in
    let digits : AllDigits 10 (decimal count) = digits_decimal (numerals_by_value _ tells_digits) count small in
    rw counted.0 (some, first_decimal count counted.1 small, omega (arith, digit_at (decimal count) 0 digits some))

module _ {E : Type 0} (word : List ℕ) (result : Result ℕ E) (parses : ParsesUnsigned 32 10 word result) where
  parses_plain : 48 < get_or word 0 0 → OkIff result (AllDigits 10 word × (0 < length word) × (digits_value 10 word < 2 ^ 32)) (digits_value 10 word)
  parses_plain first = parse_plain (numerals_by_value _ tells_digits) 32 word result parses (λ plus. omega (arith, plus, first))

  -- what is read of an argument with no zero in front is written so
  written : (count : ℕ) → result ≡ Ok count → 48 < get_or word 0 0 → word ≡ decimal count
  written count is first =
      let read = rw is at (parses_plain first) in
      let same = decimal-digits_value (numerals_by_value _ tells_digits) word read.0.0 read.0.1 (λ zero. absurd (omega (arith, zero, first))) (omega (arith, read.0.2)) in
      sym same ∙ ap decimal (sym read.1)

  pub read_is : (count : ℕ) → result ≡ Ok count → 48 < get_or word 0 0 → count ≤ MAX_RESOURCES → IsCount word count
  read_is count is first within = (written count is first, omega (arith, some), within)
    where
      some : count ≡ 0 → ⊥
      some none = omega (arith, first, ap (λ w. get_or w 0 0) (written count is first ∙ ap decimal none ∙ decimal_digit 0 (omega arith)))

  -- a count is read
  count_read : (count : ℕ) → IsCount word count → result ≡ Ok count
  count_read count counted = parse-decimal 32 count word result (omega (arith, counted.2)) (omega (arith, counted.2)) counted.0 parses

  pub above_is_none : (read : ℕ) → result ≡ Ok read → MAX_RESOURCES < read → (count : ℕ) → IsCount word count → ⊥
  unfolding ok_value
  above_is_none read is above count counted = omega (arith, above, counted.2, ap (λ r. ok_value r) (sym is ∙ count_read count counted))

  pub fault_is_none : (error : E) → result ≡ Err error → (count : ℕ) → IsCount word count → ⊥
  fault_is_none error is count counted = true≢false (sym (ap (λ r. is_ok r) (sym is ∙ count_read count counted)))
