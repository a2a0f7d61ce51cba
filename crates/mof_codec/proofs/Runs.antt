-- Runs of the machine, and facts on classes of characters.
use Rattle.std.proofs.Common.{◌≡◌, ◌⊎◌, inl, inr, ℕ, Bool, true, false, cond, List, [], ◌∷◌, Option, Some, None, is_some, refl, arith}
use Rattle.std.specs.Prelude.{◌==◌}
use Rattle.std.proofs.lemmas.Bool.{eqb-true}
use Rattle.std.proofs.lemmas.Bool.Decides.{nat_tests}
use Rattle.mof_values.specs.Ident.{is_first, is_next}
use Rattle.mof_syntax.specs.Characters.{is_blank, digit_of, is_x, is_b, is_sign}
use Rattle.mof_syntax.specs.Strings.{short_escape}
use Rattle.mof_codec.specs.declared.machine.state.Place.{Place}
use Rattle.mof_codec.specs.declared.machine.state.Place.TheVariants.{Start}
use Rattle.mof_codec.specs.declared.machine.characters.Kind.{Kind}
use Rattle.mof_codec.specs.declared.machine.characters.Kind.TheVariants as kinds
use Rattle.mof_codec.specs.declared.machine.state.Half.{Half}
use Rattle.mof_codec.specs.declared.machine.state.State.{State}
use Rattle.mof_codec.specs.declared.machine.state.Event.{Event}
use Rattle.mof_codec.specs.Machine.{kind_of, step, is_whole}
use Rattle.mof_codec.specs.Walked.{tally}

abbrev pub Next : Option State → (Half → Place → Event → Type 0) → Type 0
Next None P = ⊥
Next (Some s) P = P s.half s.place s.begun

abbrev pub Whole : Half → Place → Type 0
Whole h p = (p ≡ Start) × (is_whole h ≡ true)

-- the machine takes these characters, and ends as is wanted
abbrev pub RunsTo : (Half → Place → List Event → Type 0) → List ℕ → Half → Place → List Event → Type 0
RunsTo F [] h p acc = F h p acc
RunsTo F (c ∷ cs) h p acc = Next (step h p c) (λ k q e. RunsTo F cs k q (tally e acc))

abbrev pub Ends : (List Event → Type 0) → Half → Place → List Event → Type 0
Ends E h p acc = Whole h p × E acc

-- the machine takes these characters, they are a whole text, and what was begun in it, before these and by them, is as it says
abbrev pub Runs : (List Event → Type 0) → List ℕ → Half → Place → List Event → Type 0
Runs E cs h p acc = RunsTo (Ends E) cs h p acc

abbrev pub After : (List Event → Type 0) → List ℕ → List Event → Half → Place → Event → Type 0
After E cs acc h p e = Runs E cs h p (tally e acc)

abbrev pub Any : List Event → Type 0
Any acc = Unit {0}

pub split : (b : Bool) (x y : Option State) (P : Half → Place → Event → Type 0) → Next (cond b x y) P → ((b ≡ true) × Next x P) ⊎ ((b ≡ false) × Next y P)
split true x y P h = inl (refl, h)
split false x y P h = inr (refl, h)

pub record NotNext (c : ℕ) : Type 0 where
  pub no_x : is_x c ≡ false
  pub no_b : is_b c ≡ false
  pub no_bit : digit_of 2 c ≡ false
  pub no_octal : digit_of 8 c ≡ false
  pub no_digit : digit_of 10 c ≡ false
  pub no_hex : digit_of 16 c ≡ false

no_x_of : (c : ℕ) → is_next c ≡ false → is_x c ≡ false
no_x_of c h = grind (arith, nat_tests)

no_b_of : (c : ℕ) → is_next c ≡ false → is_b c ≡ false
no_b_of c h = grind (arith, nat_tests)

no_bit_of : (c : ℕ) → is_next c ≡ false → digit_of 2 c ≡ false
no_bit_of c h = grind (arith, nat_tests)

no_octal_of : (c : ℕ) → is_next c ≡ false → digit_of 8 c ≡ false
no_octal_of c h = grind (arith, nat_tests)

no_digit_of : (c : ℕ) → is_next c ≡ false → digit_of 10 c ≡ false
no_digit_of c h = grind (arith, nat_tests)

no_hex_of : (c : ℕ) → is_next c ≡ false → digit_of 16 c ≡ false
no_hex_of c h = grind (arith, nat_tests)

pub not_next : (c : ℕ) → is_next c ≡ false → NotNext c
not_next c h = record { no_x = no_x_of c h; no_b = no_b_of c h; no_bit = no_bit_of c h; no_octal = no_octal_of c h; no_digit = no_digit_of c h; no_hex = no_hex_of c h }

pub octal_no_x : (c : ℕ) → digit_of 8 c ≡ true → is_x c ≡ false
octal_no_x c h = grind (arith, nat_tests)

pub bit_no_x : (c : ℕ) → digit_of 2 c ≡ true → is_x c ≡ false
bit_no_x c h = grind (arith, nat_tests)

pub b_no_x : (c : ℕ) → is_b c ≡ true → is_x c ≡ false
b_no_x c h = grind (arith, nat_tests)

pub b_no_bit : (c : ℕ) → is_b c ≡ true → digit_of 2 c ≡ false
b_no_bit c h = grind (arith, nat_tests)

pub b_no_octal : (c : ℕ) → is_b c ≡ true → digit_of 8 c ≡ false
b_no_octal c h = grind (arith, nat_tests)

pub b_no_digit : (c : ℕ) → is_b c ≡ true → digit_of 10 c ≡ false
b_no_digit c h = grind (arith, nat_tests)

pub bit_digit : (c : ℕ) → digit_of 2 c ≡ true → digit_of 10 c ≡ true
bit_digit c h = grind (arith, nat_tests)

pub bit_octal : (c : ℕ) → digit_of 2 c ≡ true → digit_of 8 c ≡ true
bit_octal c h = grind (arith, nat_tests)

pub first_next : (c : ℕ) → is_first c ≡ true → is_next c ≡ true
first_next c h = grind (arith, nat_tests)

pub digit_no_first : (c : ℕ) → digit_of 10 c ≡ true → is_first c ≡ false
digit_no_first c h = grind (arith, nat_tests)

pub sign_no_first : (c : ℕ) → is_sign c ≡ true → is_first c ≡ false
sign_no_first c h = grind (arith, nat_tests)

pub sign_no_digit : (c : ℕ) → is_sign c ≡ true → digit_of 10 c ≡ false
sign_no_digit c h = grind (arith, nat_tests)

pub short_no_x : (c : ℕ) → is_x c ≡ true → is_some (short_escape c) ≡ false
short_no_x c h = grind (arith, nat_tests)

pub hex_no_quote : (c : ℕ) → digit_of 16 c ≡ true → (c == 34) ≡ false
hex_no_quote c h = grind (arith, nat_tests)

-- what the kind says of the character
abbrev pub Says : Kind → ℕ → Type 0
Says kinds.Letter c = is_first c ≡ true
Says kinds.Digit c = digit_of 10 c ≡ true
Says kinds.Sign c = is_sign c ≡ true
Says kinds.Quote c = c ≡ 34
Says kinds.Dollar c = c ≡ 36
Says kinds.LeftBrace c = c ≡ 123
Says kinds.RightBrace c = c ≡ 125
Says kinds.EqualsSign c = c ≡ 61
Says kinds.Semicolon c = c ≡ 59
Says kinds.Comma c = c ≡ 44
Says kinds.Blank c = is_blank c ≡ true
Says kinds.Slash c = c ≡ 47
Says kinds.Other c = Unit {0}

says_pick : (b : Bool) (k r : Kind) (c : ℕ) → (b ≡ true → Says k c) → Says r c → Says (cond b k r) c
says_pick true k r c f h = f refl
says_pick false k r c f h = h

says_is : (n : ℕ) (k r : Kind) (c : ℕ) → (c ≡ n → Says k c) → Says r c → Says (cond (c == n) k r) c
says_is n k r c f h = says_pick (c == n) k r c (λ e. f (eqb-true c n e)) h

pub kind_says : (c : ℕ) → Says (kind_of c) c
kind_says c =
    says_pick (is_first c) kinds.Letter _ c (λ e. e) (says_pick (digit_of 10 c) kinds.Digit _ c (λ e. e) (says_pick (is_sign c) kinds.Sign _ c (λ e. e)
    (says_is 34 kinds.Quote _ c (λ e. e) (says_is 36 kinds.Dollar _ c (λ e. e) (says_is 123 kinds.LeftBrace _ c (λ e. e) (says_is 125 kinds.RightBrace _ c (λ e. e)
    (says_is 61 kinds.EqualsSign _ c (λ e. e) (says_is 59 kinds.Semicolon _ c (λ e. e) (says_is 44 kinds.Comma _ c (λ e. e)
    (says_pick (is_blank c) kinds.Blank _ c (λ e. e) (says_is 47 kinds.Slash kinds.Other c (λ e. e) tt)))))))))))
