-- A whole start, and what a next one may begin with.
use Rattle.std.proofs.Common.{ℕ, ◌≤◌, List, subst}
use Rattle.dsc_outside.specs.declared.disk.Disk as disks
use Rattle.gate_log.specs.Standing.{AllStand, Any, StandsAtAnyMoment, StoodFor}
use Rattle.node_state.specs.declared.node.Node.{Node}
use Rattle.node_store.specs.Stands.{Stands}
use Rattle.dsc_node.specs.declared.command.Command.{Command}
use Rattle.dsc_node.specs.declared.status.Status.{Status}
use Rattle.dsc_node.specs.Path.{IsOnTheWay}
use Rattle.dsc_node.specs.Commits.{all_of}
use Rattle.dsc_node.specs.Start.{Outside, Start, opened, refused, unopened}
use Rattle.dsc_node.specs.Work.{Known}
use Rattle.dsc_node.proofs.Way.{stands_map}

-- what holds at any moment holds at the end
at_the_end : {D : Type 0} (d : disks.Ghosts D) (old now : D) (P : Node → Type 0) → ((t : ℕ) (c : List ℕ) → t ≤ d.moment now → d.images now c → d.left_since now t c)
    → StandsAtAnyMoment d old now Stands P → AllStand d now Stands P
at_the_end d old now P counts moments = λ c there. moments.each c (counts (d.moment old) c moments.later there)

-- what a start leaves a next start may begin with
pub begins_again : {D S C : Type 0} (o : Known D S C) (command : Command) (before after : Outside D S C) (status : Status) (lines : List ℕ)
    → ((t : ℕ) (c : List ℕ) → t ≤ o.disk.moment after.disk → o.disk.images after.disk c → o.disk.left_since after.disk t c)
    → Start o command before after status lines → AllStand o.disk before.disk Stands Any → AllStand o.disk after.disk Stands Any
begins_again o command before after status lines counts (refused error unmerged same ends) all =
    λ c there. all c (subst (λ x. o.disk.images x.disk c) same there)
begins_again o command before after status lines counts (unopened plan error is count cause quiet moments ends) all =
    λ c there. stands_map (StoodFor o.disk before.disk Stands) Any (λ node stood. tt) c
    (at_the_end o.disk before.disk after.disk (StoodFor o.disk before.disk Stands) counts (moments all) c there)
begins_again o command before after status lines counts (opened o_) all =
    λ c there. stands_map (IsOnTheWay o.disk before.disk o_.from (all_of o_.ended.committed o_.ended.broken)) Any (λ node way. tt) c
    (at_the_end o.disk before.disk after.disk (IsOnTheWay o.disk before.disk o_.from (all_of o_.ended.committed o_.ended.broken)) counts (o_.ended.passes all) c there)
