-- Over a whole start the exchanges of its link are only added, and its count of faults does not fall.
use Rattle.std.proofs.Common.{ℕ, List, [], ◌++◌, Option, Result, Err, Ok, Some, ap}
use Rattle.resource_kinds.specs.declared.machine.Machine as machines
use Rattle.resource_kinds.specs.declared.resources.Resources as resources
use Rattle.node_state.specs.declared.node.Node.{Node}
use Rattle.node_state.specs.declared.event.Event.{Event}
use Rattle.node_pull.proofs.GoingOn.{on_and_on, pulled_goes_on, registers_goes_on, stays_at}
use Rattle.dsc_outside.specs.Link.{GoesOn, LinkView}
use Rattle.dsc_node.specs.declared.bringing.Unbrought.{Unbrought}
use Rattle.dsc_node.specs.declared.command.Command.{Command}
use Rattle.dsc_node.specs.declared.plan.Bring.{Bring}
use Rattle.dsc_node.specs.declared.plan.Bring.TheVariants as bring
use Rattle.dsc_node.specs.declared.plan.Plan.{Plan}
use Rattle.dsc_node.specs.declared.status.Status.{Status}
use Rattle.dsc_node.specs.Bringing.{Brought, events_of}
use Rattle.dsc_node.specs.Runs.{Run}
use Rattle.dsc_node.specs.Start.{Outside, Start, opened, refused, unopened}
use Rattle.dsc_node.specs.Work.{Beside, Known, StartTable, clock_failed, finished, first_refused, not_allowed, not_brought, settled, waiting}
use Rattle.dsc_node.proofs.WorkEvents.{finish_goes_on}

brought_goes_on : {S : Type 0} (runs_on : resources.Ghosts S) (machine : machines.Ghosts S) (node : Node) (brings : Bring) (start : ℕ) (asked heard : LinkView) (before after : S)
    (result : Result (Option Event) Unbrought) → Brought runs_on machine node brings start asked heard before after result → GoesOn asked heard
brought_goes_on runs_on machine node bring.Nothing start asked heard before after result is = stays_at asked heard is.unasked
brought_goes_on runs_on machine node (bring.Event event) start asked heard before after result is = stays_at asked heard is.unasked
brought_goes_on runs_on machine node (bring.Push staged document) start asked heard before after result is = stays_at asked heard is.unasked
brought_goes_on runs_on machine node (bring.PushPart name bytes) start asked heard before after result is = stays_at asked heard is.1
brought_goes_on runs_on machine node bring.Boot start asked heard before after result is = stays_at asked heard is.unasked
brought_goes_on runs_on machine node bring.Pull start asked heard before after result is = pulled_goes_on is.pulled
brought_goes_on runs_on machine node (bring.Registration name) start asked heard before after result is =
    registers_goes_on node.meta is.1.server is.1.agent name start asked heard is.1.answer is.1.registers

table_goes_on : {D S C : Type 0} (o : Known D S C) (plan : Plan) (from : Node) (counts : ℕ × ℕ) (work : List Event) (node : Node) (before after : Beside S C) (status : Status) (lines : List ℕ)
    (ready : S) (run : Option Run) (committed : List Event) (broken : Option Event)
    → StartTable o plan from counts work node before after status lines ready run committed broken → GoesOn before.link after.link
table_goes_on o plan from counts work node before after status lines _ _ _ _ (not_allowed why is idle ends) = stays_at before.link after.link (ap (λ b. b.link) idle)
table_goes_on o plan from counts work node before after status lines _ _ _ _ (waiting none is idle ends) = stays_at before.link after.link (ap (λ b. b.link) idle)
table_goes_on o plan from counts work node before after status lines _ _ _ _ (clock_failed allowed reads gave took rose machine link ends) = stays_at before.link after.link link
table_goes_on o plan from counts work node before after status lines _ _ _ _ (not_brought start error allowed reads brought ends) =
    brought_goes_on o.resources o.machine node plan.brings start before.link after.link before.machine after.machine (Err error) brought
table_goes_on o plan from counts work node before after status lines _ _ _ _ (first_refused start event error committed broken allowed reads brought denied ends) =
    brought_goes_on o.resources o.machine node plan.brings start before.link after.link before.machine after.machine (Ok (Some event)) brought
table_goes_on o plan from counts work node before after status lines _ _ _ _ (settled start first mid text allowed ends reads brought steps answers) =
    brought_goes_on o.resources o.machine node plan.brings start before.link after.link before.machine after.machine (Ok first) brought
table_goes_on o plan from counts work node before after status lines _ _ _ _ (finished start readings heard ready first mid run committed broken allowed other gave took brought steps f) =
    on_and_on before.link heard after.link (brought_goes_on o.resources o.machine node plan.brings start before.link heard before.machine ready (Ok first) brought)
    (finish_goes_on o from counts (work ++ events_of first) mid _ readings _ start heard after.link ready after.machine status lines run committed broken f)

pub start_goes_on : {D S C : Type 0} (o : Known D S C) (command : Command) (before after : Outside D S C) (status : Status) (lines : List ℕ)
    → Start o command before after status lines → GoesOn before.beside.link after.beside.link
start_goes_on o command before after status lines (refused error unmerged same ends) = stays_at before.beside.link after.beside.link (ap (λ x. x.beside.link) same)
start_goes_on o command before after status lines (unopened plan error is count cause same moments ends) = stays_at before.beside.link after.beside.link (ap (λ b. b.link) same)
start_goes_on o command before after status lines (opened op) =
    table_goes_on o op.plan op.from _ [] op.from before.beside after.beside status lines op.ready op.run op.ended.committed op.ended.broken op.ended.table
