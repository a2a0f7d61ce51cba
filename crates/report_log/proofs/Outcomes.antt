-- What a run came to.
use Rattle.resource_kinds.specs.Trace.{EndsInReboot}
use Rattle.std.proofs.Common.{◌≡◌, inl, inr, ◌↔◌, ℕ, Bool, true, false, if◌then◌else◌, List, IsTrue, refl, sym, subst, arith}
use Rattle.std.proofs.lemmas.Bool.Decides.{eqb_tells}
use Rattle.resource_kinds.specs.declared.entry.Entry.{Entry}
use Rattle.report_log.specs.declared.report.Outcome.TheVariants.{Success, Failure}
use Rattle.report_log.specs.Marks.{outcome_of}
use Rattle.report_log.specs.Report.{IsOutcome}

pub is_outcome : (t : List Entry) (rebooting : Bool) → (IsTrue rebooting ↔ EndsInReboot t) → (missed : ℕ) → IsOutcome t missed (outcome_of rebooting missed)
is_outcome t true says missed = says.0 refl
is_outcome t false says missed =
    let goes_on : EndsInReboot t → ⊥ = λ ends. absurd (let not : false ≡ true = says.1 ends in cc) in
    elim (eqb_tells missed 0) [
      | inl same ↦ subst (λ (b : Bool). IsOutcome t missed (if b then Success else Failure)) (sym same.0) (goes_on, same.1)
      | inr apart ↦ subst (λ (b : Bool). IsOutcome t missed (if b then Success else Failure)) (sym apart.0) (goes_on, omega (arith, apart.1))
    ]
