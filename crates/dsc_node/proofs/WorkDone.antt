-- The node that a start leaves by its work.
use Rattle.std.proofs.Common.{◌≡◌, ◌⊎◌, inl, inr, ℕ, ◌≤◌, List, [], Option, Some, None, refl, sym, subst}
use Rattle.std.specs.Prelude.{IfSome}
use Rattle.dsc_terms.specs.Counts.{Rose}
use Rattle.gate_log.specs.Standing.{ReadsAs, StoodFor}
use Rattle.node_state.specs.declared.event.Event.{Event}
use Rattle.node_state.specs.declared.node.Node.{Node}
use Rattle.node_state.specs.Table.{Steps}
use Rattle.node_store.specs.Stands.{Stands}
use Rattle.dsc_node.specs.declared.command.Command.{Command}
use Rattle.dsc_node.specs.declared.status.Status.{Status}
use Rattle.dsc_node.specs.Commits.{all_of}
use Rattle.dsc_node.specs.Headline.{HasHeadline}
use Rattle.dsc_node.specs.Path.{AfterPrefix, IsOnTheWay}
use Rattle.dsc_node.specs.Start.{Outside, Start, opened, refused, unopened}
use Rattle.dsc_node.specs.Starts.{IsLeftAnywhere, IsLeftAtTheEnd, Leaves, MayLeave}
use Rattle.dsc_node.specs.Work.{Known}
use Rattle.dsc_node.specs.WorkDone.{StartsDoPrefixes, StartsDoAllWork, work_by}
use Rattle.dsc_node.proofs.Joining.{has_it, leaves, left_anywhere}

-- after no event a node is what it was
nothing_done : (from : Node) (work : List Event) → AfterPrefix from work from
nothing_done from work = record { front = []; rest = work; is = refl; steps = refl }

-- where no event is broken, what was committed is all
all_steps : (from node : Node) (committed : List Event) (broken : Option Event) → broken ≡ None → Steps from committed node ⊎ Steps from (all_of committed broken) node
    → Steps from (all_of committed broken) node
all_steps from node committed broken none (inl steps) = subst (λ (b : Option Event). Steps from (all_of committed b) node) (sym none) steps
all_steps from node committed broken none (inr steps) = steps

unbroken : {A : Type 0} (broken : Option Event) (before now : ℕ) → (Rose before now → ⊥) → (broken ≡ None) ⊎ (Rose before now × A) → broken ≡ None
unbroken broken before now still (inl none) = none
unbroken broken before now still (inr rose) = absurd (still rose.0)

module _ {D S C : Type 0} (o : Known D S C) (counts_now : (disk : D) (t : ℕ) (c : List ℕ) → t ≤ o.disk.moment disk → o.disk.images disk c → o.disk.left_since disk t c)
    (only_now : (disk : D) (c : List ℕ) → o.disk.left_since disk (o.disk.moment disk) c → o.disk.images disk c)
    (honest : (disk : D) (held : List ℕ) → o.disk.shown disk ≡ Some held → o.disk.images disk held) where
  -- the node that was opened is found
  opened_found : (begin : D) → ((held : List ℕ) × (o.disk.shown begin ≡ Some held)) → (from : Node) → ReadsAs o.disk begin Stands from → StoodFor o.disk begin Stands from
  opened_found begin exposed from reads = record {
    image = exposed.0;
    there = honest begin exposed.0 exposed.1;
    stands = subst (λ (shown : Option (List ℕ)). IfSome shown (λ held. Stands held from)) exposed.1 reads;
  }

  after_all : (command : Command) (before after : Outside D S C) (status : Status) (lines : List ℕ) (start : Start o command before after status lines) → HasHeadline o command before after status lines
      → ((held : List ℕ) × (o.disk.shown before.disk ≡ Some held)) → (Rose (o.disk.faults before.disk) (o.disk.faults after.disk) → ⊥) → (node : Node)
      → Leaves o command before after status lines start node
      → (from : Node) × StoodFor o.disk before.disk Stands from × Steps from (work_by o command before after status lines start) node
  after_all command before after status lines (refused error unmerged same ends) headline exposed still node found = (node, found, refl)
  after_all command before after status lines (unopened plan error is count cause quiet moments ends) headline exposed still node found = (node, found, refl)
  after_all command before after status lines (opened s) headline exposed still node left = (
    s.from,
    opened_found before.disk exposed s.from s.reads,
    all_steps s.from node s.ended.committed s.ended.broken
        (unbroken s.ended.broken (o.disk.faults before.disk) (o.disk.faults after.disk) still (headline s).a_prefix_of_the_steps.unbroken) left,
  )

  by_way : (begin : D) (from : Node) (work : List Event) → StoodFor o.disk begin Stands from → (node : Node) → IsOnTheWay o.disk begin from work node
      → (first : Node) × StoodFor o.disk begin Stands first × AfterPrefix first work node
  by_way begin from work found node (inl stood) = (node, stood, nothing_done node work)
  by_way begin from work found node (inr part) = (from, found, part)

  after_part : (command : Command) (before after : Outside D S C) (status : Status) (lines : List ℕ) (start : Start o command before after status lines)
      → ((held : List ℕ) × (o.disk.shown before.disk ≡ Some held)) → (node : Node) → MayLeave o command before after status lines start node
      → (from : Node) × StoodFor o.disk before.disk Stands from × AfterPrefix from (work_by o command before after status lines start) node
  after_part command before after status lines (refused error unmerged same ends) exposed node found = (node, found, nothing_done node [])
  after_part command before after status lines (unopened plan error is count cause quiet moments ends) exposed node found = (node, found, nothing_done node [])
  after_part command before after status lines (opened s) exposed node way =
      by_way before.disk s.from (all_of s.ended.committed s.ended.broken) (opened_found before.disk exposed s.from s.reads) node way

  pub starts_do_all_work : StartsDoAllWork o
  starts_do_all_work one exposed whole still image node there stands =
      after_all one.command one.before one.after one.status one.lines one.start one.headline exposed still node
      (has_it (IsLeftAtTheEnd o one) image node (leaves o counts_now only_now honest one.command one.before one.after one.status one.lines one.start whole image there) stands)

  pub starts_do_prefixes : StartsDoPrefixes o
  starts_do_prefixes one exposed whole image node left stands =
      after_part one.command one.before one.after one.status one.lines one.start exposed node
      (has_it (IsLeftAnywhere o one) image node (left_anywhere o counts_now only_now honest one whole image left) stands)
