-- Of the refusals of instances one wins.
use Rattle.std.proofs.Common.{◌≡◌, ℕ, List, Option, Some, None, IsSomeAnd, slice_get, refl, sym, ap, subst, ◌∙◌, inl, inr, ⊎_elim, arith}
use Rattle.std.proofs.lemmas.Bool.{cases_order}
use Rattle.mof_values.specs.declared.instance.Instance.{Instance}
use Rattle.mof_values.specs.declared.instance.Property.{Property}
use Rattle.dsc_document.specs.Declarations.{depends_of}
use Rattle.dsc_document.specs.Names.{IsName}
use Rattle.dsc_document.specs.Rules.{Applies, HasAt, IsFirstUnknown, IsRefusal, RepeatsName, rule_of, id_at, indexes_of, property_name_at}
use Rattle.dsc_document.specs.declared.error.DocError.{DocError}
use Rattle.dsc_document.specs.declared.error.DocError.TheVariants.{DuplicateProperty, TwoAliases, AliasUnknown, NoHeader, TwoHeaders, BadResourceId, DuplicateId, BadDependsOn, DependsUnknown, Memory}
use Rattle.dsc_document.proofs.Firsts.{first_once}

-- a name that is reported is fixed by the properties or by the names

one_repeated : (properties : List Property) (a b : List ℕ) → RepeatsName properties a → RepeatsName properties b → a ≡ b
one_repeated properties a b at_a at_b =
    let least_a = at_a.least at_b.first at_b.second at_b.shared in
    let least_b = at_b.least at_a.first at_a.second at_a.shared in
    let same : at_a.second ≡ at_b.second = omega arith in
    cc (ap (property_name_at properties) same, at_a.spelled, at_b.spelled)

unknown_once : (instances : List Instance) (names : List (List ℕ)) (a b : List ℕ) → IsFirstUnknown instances names a → IsFirstUnknown instances names b → a ≡ b
unknown_once instances names a b at_a at_b =
    first_once (IsName (id_at instances)) at_a.0 at_a.1 at_b.0 at_b.1 a b (sym at_a.2 ∙ at_b.2) at_a.3 at_b.3 at_a.4 at_b.4

-- what two facts say at one place
module _ (P Q : Instance → Type 0) (R : Type 0) (both : (i : Instance) → P i → Q i → R) where
  at_one : (o : Option Instance) → IsSomeAnd o P → IsSomeAnd o Q → R
  at_one None p q = absurd p
  at_one (Some i) p q = both i p q

pair : {a b c d : ℕ} → a ≡ c → b ≡ d → ◌≡◌ {A = ℕ × ℕ} (a, b) (c, d)
pair first second = cc

module _ (instances : List Instance) where
  -- of one rule and at one index there is one refusal
  same_place : (a b : DocError) → rule_of a ≡ rule_of b → indexes_of a ≡ indexes_of b → Applies instances a → Applies instances b → a ≡ b
  same_place (DuplicateProperty i a) (DuplicateProperty j b) same at applies_a applies_b =
      let here : i ≡ j = ap (λ p. p.0) at in
      let named : a ≡ b = at_one (λ x. RepeatsName x.properties a) (λ x. RepeatsName x.properties b) (a ≡ b) (λ x. one_repeated x.properties a b)
      (slice_get instances i) applies_a (subst (λ k. HasAt instances k (λ x. RepeatsName x.properties b)) (sym here) applies_b) in
      cc
  same_place (DuplicateProperty i a) _ same at applies_a applies_b = absurd (omega arith)
  same_place (TwoAliases f s) (TwoAliases g t) same at applies_a applies_b = cc (ap (λ p. p.0) at, ap (λ p. p.1) at)
  same_place (TwoAliases f s) _ same at applies_a applies_b = absurd (omega arith)
  same_place (AliasUnknown i) (AliasUnknown j) same at applies_a applies_b = cc (ap (λ p. p.0) at)
  same_place (AliasUnknown i) _ same at applies_a applies_b = absurd (omega arith)
  same_place NoHeader NoHeader same at applies_a applies_b = refl
  same_place NoHeader _ same at applies_a applies_b = absurd (omega arith)
  same_place (TwoHeaders f s) (TwoHeaders g t) same at applies_a applies_b = cc (ap (λ p. p.0) at, ap (λ p. p.1) at)
  same_place (TwoHeaders f s) _ same at applies_a applies_b = absurd (omega arith)
  same_place (BadResourceId i) (BadResourceId j) same at applies_a applies_b = cc (ap (λ p. p.0) at)
  same_place (BadResourceId i) _ same at applies_a applies_b = absurd (omega arith)
  same_place (DuplicateId f s) (DuplicateId g t) same at applies_a applies_b = cc (ap (λ p. p.0) at, ap (λ p. p.1) at)
  same_place (DuplicateId f s) _ same at applies_a applies_b = absurd (omega arith)
  same_place (BadDependsOn i) (BadDependsOn j) same at applies_a applies_b = cc (ap (λ p. p.0) at)
  same_place (BadDependsOn i) _ same at applies_a applies_b = absurd (omega arith)
  same_place (DependsUnknown i a) (DependsUnknown j b) same at applies_a applies_b =
      let here : i ≡ j = ap (λ p. p.0) at in
      let named : a ≡ b = at_one (λ x. IsFirstUnknown instances (depends_of x) a) (λ x. IsFirstUnknown instances (depends_of x) b) (a ≡ b) (λ x. unknown_once instances (depends_of x) a b)
      (slice_get instances i) applies_a (subst (λ k. HasAt instances k (λ x. IsFirstUnknown instances (depends_of x) b)) (sym here) applies_b) in
      cc
  same_place (DependsUnknown i a) _ same at applies_a applies_b = absurd (omega arith)
  same_place Memory _ same at applies_a applies_b = absurd applies_a

  pub one_wins : (a b : DocError) → IsRefusal instances a → IsRefusal instances b → a ≡ b
  one_wins a b is_a is_b =
      ⊎_elim
      (λ same. ⊎_elim
      (λ second. ⊎_elim
      (λ first. same_place a b same (pair second first) is_a.applies is_b.applies)
      (λ apart. absurd (⊎_elim
      (λ below. is_b.wins a (inr (same, inr (second, below))) is_a.applies)
      (λ above. is_a.wins b (inr (sym same, inr (sym second, above))) is_b.applies)
      apart))
      (cases_order (indexes_of a).1 (indexes_of b).1))
      (λ apart. absurd (⊎_elim
      (λ below. is_b.wins a (inr (same, inl below)) is_a.applies)
      (λ above. is_a.wins b (inr (sym same, inl above)) is_b.applies)
      apart))
      (cases_order (indexes_of a).0 (indexes_of b).0))
      (λ apart. absurd (⊎_elim (λ below. is_b.wins a (inl below) is_a.applies) (λ above. is_a.wins b (inl above) is_b.applies) apart))
      (cases_order (rule_of a) (rule_of b))
