use Rattle.std.proofs.Common.{◌≡◌, ◌≤◌, ◌<◌, ℕ, List, Option, IfSome, take, slice_index}
use Rattle.dsc_outside.specs.Host.{HostState}
use Rattle.resource_kinds.specs.Holds.{BarsFolder}
use Rattle.resource_kinds.proofs.obstacles.is_barred.Given as goal

-- the host is as it was, and nothing above the path bars it as far as it was looked at
pub record Looked (path : List ℕ) (far : ℕ) (told_before told_now : Option HostState) (faults_before faults_now : ℕ) : Type 0 where
  pub shown : told_now ≡ told_before
  pub later : faults_before ≤ faults_now
  pub clear : IfSome told_before (λ state. (k : ℕ) → k < far → slice_index path k ≡ 47 → BarsFolder (state.path (take k path)) → ⊥)

abbrev pub invariant-loop-at : goal.invariant-loop-at
invariant-loop-at g l =
    Looked l.path l.at (g.H.Host.shown l.initial.host) (g.H.Host.shown l.host) (g.H.Host.faults l.initial.host) (g.H.Host.faults l.host)
