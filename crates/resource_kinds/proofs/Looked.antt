-- Answers by the value of a variable that was looked up.
use Rattle.std.proofs.Common.{◌≡◌, ◌↔◌, ℕ, List, Bool, IsTrue, Option, Some, None, Ok, sym, subst, ◌∙◌}
use Rattle.dsc_outside.specs.Host.{HostState, Tells}
use Rattle.dsc_outside.specs.declared.host.HostError.{HostError}

pub has_answered : {A : Type 0} (shown : Option HostState) (a : A) (b : Bool) (name : List ℕ) (value : A → Option (List ℕ)) (P : Option (List ℕ) → List ℕ → Type 0) (found wanted bytes : List ℕ)
    → value a ≡ Some found → bytes ≡ wanted → Tells {E = HostError} shown (Ok a) (λ state x. value x ≡ state.variable name)
    → (IsTrue b ↔ P (Some found) bytes) → Tells {E = HostError} shown (Ok b) (λ state y. IsTrue y ↔ P (state.variable name) wanted)
has_answered None a b name value P found wanted bytes is same known answer = tt
has_answered (Some state) a b name value P found wanted bytes is same known answer =
    subst (λ v. IsTrue b ↔ P v wanted) (sym is ∙ known) (subst (λ w. IsTrue b ↔ P (Some found) w) same answer)
