-- Sound nodes.
use Rattle.std.specs.Prelude.{◌≡◌, ℕ, ◌<◌, ◌≤◌, true, false, List, [], length, None, All, AllPairs, IfSome, IsSome}
use Rattle.report_log.specs.Sizes.{ReportInSize}
use Rattle.node_state.specs.declared.node.Kept.{Kept}
use Rattle.node_state.specs.declared.node.Node.{Node}
use Rattle.node_state.specs.declared.event.Event.{Event}
use Rattle.node_state.specs.Lists.{IsStaged}
use Rattle.node_state.specs.Metas.{IsNodeMeta}
use Rattle.node_state.specs.Table.{Step}
use Rattle.node_state.specs.declared.limits.TheConstants.{MAX_REPORTS}

-- it has no parts, no mark and no reports, and is not registered
pub record IsBare (node : Node) : Type 0 where
  pub pending : node.pending ≡ None
  pub current : node.current ≡ None
  pub previous : node.previous ≡ None
  pub reboot : node.reboot ≡ false
  pub reports : node.reports ≡ []
  pub registered : node.registered ≡ false

-- the jobs rise and are below the next one, and the reports are few and in size
pub record AreKept (next_job : ℕ) (reports : List Kept) : Type 0 where
  pub rise : AllPairs (λ earlier later. earlier.report.job < later.report.job) reports
  pub below : All (λ kept. kept.report.job < next_job) reports
  pub few : length reports ≤ MAX_REPORTS
  pub sizes : All (λ kept. ReportInSize kept.report) reports

pub record Sound (node : Node) : Type 0 where
  pub pending : IfSome node.pending IsStaged
  pub current : IfSome node.current IsStaged
  pub previous : IfSome node.previous IsStaged
  pub reports : AreKept node.next_job node.reports
  pub meta : IsNodeMeta node.meta
  pub bare : node.agent ≡ None → IsBare node
  pub server : node.registered ≡ true → IsSome node.meta.server

-- a step leads from a sound node to a sound node
abbrev pub StepsAreSound : Type 0
StepsAreSound = (old : Node) (event : Event) (new : Node) → Sound old → Step old event new → Sound new

-- after a step a sound node has an agent
abbrev pub StepsHaveAgents : Type 0
StepsHaveAgents = (old : Node) (event : Event) (new : Node) → Sound old → Step old event new → IsSome new.agent
