use Rattle.std.proofs.Common.{◌≡◌, ℕ, List, ◌∷◌, ◌≤◌, true, sym, ◌∙◌, subst, arith}
use Rattle.std.specs.Prelude.{nat_le}
use Rattle.std.proofs.lemmas.Bool.Decides.{nat_tests}
use Rattle.mof_values.specs.Ident.{is_first}
use Rattle.mof_codec.specs.Counting.{name_length}
use Rattle.mof_codec.specs.Searching.{BeginsLongName}
use Rattle.mof_codec.proofs.ExcessSearch.{long_name, name_is_long}
use Rattle.mof_values.specs.declared.limits.TheConstants.{MAX_IDENTIFIER}
use Rattle.mof_codec.proofs.refusing.excess.is_long_name.Goals as goal

told : (left rest : List ℕ) (c n : ℕ) → left ≡ c ∷ rest → is_first c ≡ true → n ≡ name_length rest
    → (nat_le MAX_IDENTIFIER n ≡ true → BeginsLongName left) × (BeginsLongName left → nat_le MAX_IDENTIFIER n ≡ true)
told left rest c n is first same = (
  λ big. subst BeginsLongName (sym is) (long_name c rest first (subst (λ (m : ℕ). MAX_IDENTIFIER ≤ m) same (le_of n big))),
  λ long. of_le n (subst (λ (m : ℕ). MAX_IDENTIFIER ≤ m) (sym same) (name_is_long c rest (subst BeginsLongName is long)).1),
)
  where
    le_of : (n : ℕ) → nat_le MAX_IDENTIFIER n ≡ true → MAX_IDENTIFIER ≤ n
    le_of n h = grind (arith, nat_tests)

    of_le : (n : ℕ) → MAX_IDENTIFIER ≤ n → nat_le MAX_IDENTIFIER n ≡ true
    of_le n h = grind (arith, nat_tests)

pub returns-then-may_begin : goal.returns-then-may_begin
returns-then-may_begin c = told _ _ _ _ c.in-Some.ensures.some (sym c.may_begin.ensures ∙ c.if-may_begin.true) c.name_length.ensures
