-- A script is read in one way.
use Rattle.std.specs.Prelude.{◌≡◌, ℕ, List}
use Rattle.rehearsal.specs.declared.step.Step.{Step}
use Rattle.rehearsal.specs.Script.{FailsAt, IsScript}

-- to one list of steps
abbrev pub StepsAreOne : Type 0
StepsAreOne = (script : List ℕ) (one other : List Step) → IsScript script one → IsScript script other → one ≡ other

-- or it fails at one line
abbrev pub FailuresAreOne : Type 0
FailuresAreOne = (script : List ℕ) (one other : ℕ) → FailsAt script one → FailsAt script other → one ≡ other

-- and never both
abbrev pub NeverBoth : Type 0
NeverBoth = (script : List ℕ) (steps : List Step) (line : ℕ) → IsScript script steps → FailsAt script line → ⊥
