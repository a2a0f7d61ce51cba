-- The port of a URL.
use Rattle.std.proofs.Common.{◌≡◌, ℕ, ◌+◌, ◌*◌, ◌<◌, ◌≤◌, Bool, true, false, cond, ◌&&◌, ◌==◌, nat_lt, nat_le, List, [], ◌∷◌, get_or, zero, suc, Option, Some, None, refl, sym, ap, subst, ◌∙◌, arith}
use Rattle.std.specs.Char.{digit_value, is_digit}
use Rattle.std.specs.Fmt.{decimal}
use Rattle.std.specs.Str.Parse.{AllDigits, digits_value, digits_value_after}
use Rattle.std.proofs.lemmas.Bool.Decides.{nat_tests}
use Rattle.std.proofs.lemmas.Fmt.{decimal_digit, decimal_is_IsNumeral, decimal-digits_value, first_decimal}
use Rattle.std.proofs.lemmas.Str.Parse.{IsNumeralModel}
use Rattle.meta_config.specs.Urls.{number_after, port_of, port_after, default_port, SpellsPort}
use Rattle.meta_config.specs.Urls.SpellsPort.{default, written}
use Rattle.meta_config.proofs.Pieces.{both}

own : IsNumeralModel (AllDigits 10) (digits_value 10)
own = record { to = λ ds d. d; from = λ ds d. d; same = λ ds d. refl }

below : (a b : ℕ) → nat_lt a b ≡ true → a < b
below a b h = grind (arith, nat_tests)

below_test : (a b : ℕ) → a < b → nat_lt a b ≡ true
below_test a b h = grind (arith, nat_tests)

most : (a b : ℕ) → nat_le a b ≡ true → a ≤ b
most a b h = grind (arith, nat_tests)

most_test : (a b : ℕ) → a ≤ b → nat_le a b ≡ true
most_test a b h = grind (arith, nat_tests)

nothing_some : (p : ℕ) → ◌≡◌ {A = Option ℕ} None (Some p) → ⊥
nothing_some p h = cc

same_some : (m p : ℕ) → Some m ≡ Some p → m ≡ p
same_some m p h = cc

no_48 : (c : ℕ) → (c == 48) ≡ false → c ≡ 48 → ⊥
no_48 c e is = grind (arith, nat_tests)

not_48 : (c : ℕ) → (c ≡ 48 → ⊥) → (c == 48) ≡ false
not_48 c differs = grind (arith, nat_tests)

is_58 : (c : ℕ) → (c == 58) ≡ true → c ≡ 58
is_58 c e = grind (arith, nat_tests)

-- what the digits write
record Writes (n : ℕ) (ds : List ℕ) (p : ℕ) : Type 0 where
  digits : AllDigits 10 ds
  value : digits_value_after 10 n ds ≡ p
  small : p ≤ 65535

writes_at : (n c : ℕ) (cs : List ℕ) (p : ℕ) (b : Bool) → (is_digit c 10 && nat_le (n * 10 + digit_value c) 65535) ≡ b
    → ((n * 10 + digit_value c) ≤ 65535 → number_after (n * 10 + digit_value c) cs ≡ Some p → Writes (n * 10 + digit_value c) cs p)
    → cond b (number_after (n * 10 + digit_value c) cs) None ≡ Some p → Writes n (c ∷ cs) p
writes_at n c cs p true e more h =
    let t = both (is_digit c 10) (nat_le (n * 10 + digit_value c) 65535) e in
    let w = more (most _ _ t.1) h in
    record { digits = (below _ _ t.0, w.digits); value = w.value; small = w.small }
writes_at n c cs p false e more h = absurd (nothing_some p h)

writes : (n : ℕ) (ds : List ℕ) (p : ℕ) → n ≤ 65535 → number_after n ds ≡ Some p → Writes n ds p
writes n [] p small h = record { digits = tt; value = same_some n p h; small = subst (λ m. m ≤ 65535) (same_some n p h) small }
writes n (c ∷ cs) p small h =
    writes_at n c cs p (is_digit c 10 && nat_le (n * 10 + digit_value c) 65535) refl (λ less. writes (n * 10 + digit_value c) cs p less) h

-- a number that digits write is read
le_value : (n : ℕ) (ds : List ℕ) → n ≤ digits_value_after 10 n ds
le_value n [] = omega arith
le_value n (c ∷ cs) = omega (arith, le_value (n * 10 + digit_value c) cs)

read_digits : (n : ℕ) (ds : List ℕ) → AllDigits 10 ds → digits_value_after 10 n ds ≤ 65535 → number_after n ds ≡ Some (digits_value_after 10 n ds)
read_digits n [] digits small = refl
read_digits n (c ∷ cs) digits small =
    let low : (n * 10 + digit_value c) ≤ 65535 = omega (arith, le_value (n * 10 + digit_value c) cs) in
    ap (λ t. cond (t && nat_le (n * 10 + digit_value c) 65535) (number_after (n * 10 + digit_value c) cs) None) (below_test _ _ digits.0)
    ∙ ap (λ t. cond t (number_after (n * 10 + digit_value c) cs) None) (most_test _ _ low)
    ∙ read_digits (n * 10 + digit_value c) cs digits.1 small

-- a port of 1 to 65535 without leading zeros, in decimal
pub record IsPort (ds : List ℕ) (p : ℕ) : Type 0 where
  pub spelled : ds ≡ decimal p
  pub some : 0 < p
  pub small : p ≤ 65535

zero_first : (c : ℕ) (b : Bool) → (c == 48) ≡ b → (ds : List ℕ) (p : ℕ) → cond b None (number_after 0 ds) ≡ Some p → (c ≡ 48 → ⊥) × (number_after 0 ds ≡ Some p)
zero_first c true e ds p h = absurd (nothing_some p h)
zero_first c false e ds p h = (λ is. no_48 c e is, h)

positive_first : (c : ℕ) (cs : List ℕ) (p : ℕ) → c ∷ cs ≡ decimal p → (c ≡ 48 → ⊥) → 0 < p
positive_first c cs zero e differs =
    let zero_is : c ∷ cs ≡ 48 ∷ [] = e ∙ decimal_digit 0 (omega arith) in
    let is : c ≡ 48 = cc in
    absurd (differs is)
positive_first c cs (suc p) e differs = omega arith

pub port_spelled : (ds : List ℕ) (p : ℕ) → port_of ds ≡ Some p → IsPort ds p
port_spelled [] p h = absurd (nothing_some p h)
port_spelled (c ∷ cs) p h =
    let z = zero_first c (c == 48) refl (c ∷ cs) p h in
    let w = writes 0 (c ∷ cs) p (omega arith) z.1 in
    let is : decimal (digits_value 10 (c ∷ cs)) ≡ c ∷ cs = decimal-digits_value own (c ∷ cs) w.digits (omega arith) (λ e. absurd (z.0 e)) (omega (arith, w.value, w.small)) in
    let spelled : c ∷ cs ≡ decimal p = sym is ∙ ap decimal w.value in
    record { spelled = spelled; some = positive_first c cs p spelled z.0; small = w.small }

after_zero : (c : ℕ) (cs : List ℕ) → (c ≡ 48 → ⊥) → port_of (c ∷ cs) ≡ number_after 0 (c ∷ cs)
after_zero c cs differs = ap (λ t. cond t None (number_after 0 (c ∷ cs))) (not_48 c differs)

no_first : (ds : List ℕ) → 48 < get_or ds 0 0 → port_of ds ≡ number_after 0 ds
no_first [] h = absurd (omega arith)
no_first (c ∷ cs) h = after_zero c cs (λ e. omega arith)

pub port_read : (p : ℕ) → 0 < p → p ≤ 65535 → port_of (decimal p) ≡ Some p
port_read p some small =
    let d = decimal_is_IsNumeral p (omega arith) in
    no_first (decimal p) (first_decimal p some (omega arith))
    ∙ read_digits 0 (decimal p) d.0.1 (omega (arith, d.1))
    ∙ ap Some d.1

colon_first : (https : Bool) (c : ℕ) (cs : List ℕ) (p : ℕ) (b : Bool) → (c == 58) ≡ b → cond b (port_of cs) None ≡ Some p → SpellsPort https (c ∷ cs) p
colon_first https c cs p true e h =
    let port = port_spelled cs p h in
    let colon : c ≡ 58 = is_58 c e in
    subst (λ l. SpellsPort https l p) (ap (λ x. x ∷ decimal p) (sym colon) ∙ ap (λ l. c ∷ l) (sym port.spelled)) (written p port.some port.small)
colon_first https c cs p false e h = absurd (nothing_some p h)

pub after_spelled : (https : Bool) (cs : List ℕ) (p : ℕ) → port_after https cs ≡ Some p → SpellsPort https cs p
after_spelled https [] p h = subst (λ q. SpellsPort https [] q) (same_some (default_port https) p h) default
after_spelled https (c ∷ cs) p h = colon_first https c cs p (c == 58) refl h

pub after_read : (https : Bool) (cs : List ℕ) (p : ℕ) → SpellsPort https cs p → port_after https cs ≡ Some p
after_read https cs p default = refl
after_read https cs p (written port some small) = port_read port some small
