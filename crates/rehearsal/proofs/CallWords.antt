-- The word that the number of a call is, and what `parse` gives of it.
use Rattle.std.proofs.Common.{◌≡◌, ℕ, ◌<◌, ◌≤◌, ◌^◌, List, length, get_or, Result, Ok, Err, OkIff, is_ok, true≢false, sym, ap, ◌∙◌, arith}
use Rattle.std.specs.Fmt.{decimal}
use Rattle.std.specs.Str.Parse.{AllDigits, ParsesUnsigned, digits_value}
use Rattle.std.proofs.lemmas.Str.Parse.{numerals_by_value, tells_digits, digit_at, parse_plain}
use Rattle.std.proofs.lemmas.Fmt.{decimal_digit, decimal_nonempty, digits_decimal, decimal-digits_value, first_decimal, parse-decimal}
use Rattle.rehearsal.specs.Script.{IsCall}

-- a number begins with a digit that is no zero
pub call_begins : (word : List ℕ) (call : ℕ) → IsCall word call → (0 < length word) × (48 < get_or word 0 0) × (get_or word 0 0 ≤ 57)
call_begins word call is =
    let small : call < 2 ^ 64 = omega (arith, is.2) in
    let some : 0 < length (decimal call) = decimal_nonempty call small in
    let digits : AllDigits 10 (decimal call) = digits_decimal (numerals_by_value _ tells_digits) call small in
    rw is.0 (some, first_decimal call is.1 small, omega (arith, digit_at (decimal call) 0 digits some))

module _ {E : Type 0} (word : List ℕ) (result : Result ℕ E) (parses : ParsesUnsigned 32 10 word result) where
  parses_plain : 48 < get_or word 0 0 → OkIff result (AllDigits 10 word × (0 < length word) × (digits_value 10 word < 2 ^ 32)) (digits_value 10 word)
  parses_plain first = parse_plain (numerals_by_value _ tells_digits) 32 word result parses (λ plus. omega (arith, plus, first))

  -- what is read of a word with no zero in front is written so
  written : (call : ℕ) → result ≡ Ok call → 48 < get_or word 0 0 → word ≡ decimal call
  written call is first =
      let read = rw is at (parses_plain first) in
      let same = decimal-digits_value (numerals_by_value _ tells_digits) word read.0.0 read.0.1 (λ zero. absurd (omega (arith, zero, first))) (omega (arith, read.0.2)) in
      sym same ∙ ap decimal (sym read.1)

  pub call_is : (call : ℕ) → result ≡ Ok call → 48 < get_or word 0 0 → IsCall word call
  call_is call is first =
      let read = rw is at (parses_plain first) in
      (written call is first, omega (arith, some), omega (arith, read.0.2, read.1))
    where
      some : call ≡ 0 → ⊥
      some none = omega (arith, first, ap (λ w. get_or w 0 0) (written call is first ∙ ap decimal none ∙ decimal_digit 0 (omega arith)))

  pub fault_is_none : (error : E) → result ≡ Err error → (call : ℕ) → IsCall word call → ⊥
  fault_is_none error is call spelled =
      true≢false (sym (ap (λ r. is_ok r) (sym is ∙ parse-decimal 32 call word result (omega (arith, spelled.2)) (omega (arith, spelled.2)) spelled.0 parses)))
