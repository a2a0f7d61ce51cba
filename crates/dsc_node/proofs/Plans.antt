-- What is said of a plan and of the node of a store, and what holds of the plan of each command.
use Rattle.std.proofs.Common.{◌≡◌, ◌≢◌, ℕ, Bool, true, false, not, ◌||◌, is_some, List, [], ◌∷◌, Option, Some, None, Result, Ok, Err, refl, sym, ap, subst, ◌∙◌}
use Rattle.std.specs.Prelude.{IfSome}
use Rattle.dsc_terms.specs.Counts.{Rose}
use Rattle.dsc_outside.specs.declared.clock.Clock as clocks
use Rattle.meta_config.specs.declared.meta.Meta.{Meta as MetaTerm}
use Rattle.meta_config.specs.declared.meta.Partial.{Partial}
use Rattle.partial_merge.specs.declared.part.Part.{Part}
use Rattle.partial_merge.specs.Merged.{IsDocumentOf}
use Rattle.partial_merge.specs.Parts.{unnamed_part}
use Rattle.report_log.specs.declared.report.Report.{Report}
use Rattle.node_state.specs.declared.list.Staged.{Staged}
use Rattle.node_state.specs.declared.node.Node.{Node}
use Rattle.node_state.specs.declared.event.Event.{Event}
use Rattle.node_state.specs.declared.event.Event.TheVariants as events
use Rattle.node_state.specs.declared.event.Stage.{Stage}
use Rattle.node_state.specs.declared.event.Stage.TheVariants as slots
use Rattle.node_state.specs.declared.event.Why.{Why}
use Rattle.node_state.specs.declared.event.Why.TheVariants.{NoAgent, Disabled, NotPull, NoServer, NotRegistered, NoName}
use Rattle.node_state.specs.Slots.{StagesPart}
use Rattle.node_state.specs.StagedParts.{parts_of}
use Rattle.node_state.specs.Table.{IsWithin, check}
use Rattle.node_state.specs.Table.{after as after_of}
use Rattle.node_pull.specs.Names.{CanAsk, CanAskOf, HasOneName}
use Rattle.dsc_node.specs.declared.command.Command.{Command}
use Rattle.dsc_node.specs.declared.command.Command.TheVariants as commands
use Rattle.dsc_node.specs.declared.plan.Bring.{Bring}
use Rattle.dsc_node.specs.declared.plan.Bring.TheVariants as bring
use Rattle.dsc_node.specs.declared.plan.Follows.{Follows}
use Rattle.dsc_node.specs.declared.plan.Follows.TheVariants as follows
use Rattle.dsc_node.specs.declared.plan.Needs.{Needs}
use Rattle.dsc_node.specs.declared.plan.Needs.TheVariants as need
use Rattle.dsc_node.specs.declared.plan.Plan.{Plan}
use Rattle.dsc_node.specs.declared.plan.Printed.{Printed}
use Rattle.dsc_node.specs.declared.plan.Printed.TheVariants as print
use Rattle.dsc_node.specs.Bringing.{boot_of}
use Rattle.dsc_node.specs.Commands.{IsPlanOf, IsTaken, has_names, has_source, is_any, is_disabled, is_one, pulls_of, pulls_some, stops, waits, why_no_pull, why_not}
use Rattle.dsc_node.specs.Headline.{KeepsReport}
use Rattle.dsc_node.specs.Plans.{CanBring, IsPlan}
use Rattle.dsc_node.specs.Readings.{Gave, StartsAt, Took}
use Rattle.dsc_node.specs.Work.{ReadsBefore}

-- what was said of the state is said of the store's node
pub said_why : (node shown : Node) (needs : Needs) (answer other : Option Why) → shown ≡ node → answer ≡ why_not shown needs → answer ≡ other → why_not node needs ≡ other
said_why node shown needs answer other same is was = ap (λ (n : Node). why_not n needs) (sym same) ∙ sym is ∙ was

pub said_waits : (node shown : Node) (plan : Plan) (answer other : Bool) → shown ≡ node → answer ≡ waits shown plan → answer ≡ other → waits node plan ≡ other
said_waits node shown plan answer other same is was = ap (λ (n : Node). waits n plan) (sym same) ∙ sym is ∙ was

pub said_stops : (node shown : Node) (plan : Plan) (answer : Bool) → shown ≡ node → answer ≡ stops shown plan → answer ≡ stops node plan
said_stops node shown plan answer same is = is ∙ ap (λ (n : Node). stops n plan) same

-- the reading before the first event
pub starts_before : {E C : Type 0} (clock : clocks.Ghosts C) (reads : Bool) (result : Result ℕ E) (start : ℕ) (first last : C) → result ≡ Ok start → StartsAt clock reads result first last
    → ReadsBefore clock reads start first last
starts_before {E} clock true result start first last is starts = subst (λ (r : Result ℕ E). StartsAt clock true r first last) is starts
starts_before {E} clock false result start first last is starts = subst (λ (r : Result ℕ E). StartsAt clock false r first last) is starts

-- a reading that failed was taken
pub failed_reads : {E C : Type 0} (clock : clocks.Ghosts C) (reads : Bool) (result : Result ℕ E) (error : E) (first last : C) → result ≡ Err error → StartsAt clock reads result first last
    → (reads ≡ true) × Gave (clock.coming first) None × Took 1 (clock.coming first) (clock.coming last) × Rose (clock.faults first) (clock.faults last)
failed_reads {E} clock true result error first last is starts =
    let failed = subst (λ (r : Result ℕ E). StartsAt clock true r first last) is starts in
    (refl, failed.0, failed.1, failed.2)
failed_reads {E} clock false result error first last is starts = absurd (subst (λ (r : Result ℕ E). StartsAt clock false r first last) is starts)

-- a boot's event is within
pub boot_within : (marked : Bool) → IfSome (boot_of marked) IsWithin
boot_within true = tt
boot_within false = tt

-- ---- a pull that is allowed

checked : (holds : Bool) (why : Why) (rest : Option Why) → check holds why rest ≡ None → (holds ≡ true) × (rest ≡ None)
checked true why rest is = (refl, is)
checked false why rest is = absurd (cc is)

one_name : (names : List (List ℕ)) → is_one names ≡ true → HasOneName names
one_name [] is = absurd (cc is)
one_name (name ∷ []) is = tt
one_name (name ∷ second ∷ names) is = absurd (cc is)

names_of : (meta : MetaTerm) (partials : List Partial) → pulls_of meta partials ≡ true → (is_any partials || is_one meta.names) ≡ true → CanAskOf meta partials
names_of meta [] pulls is = one_name meta.names is
names_of meta (partial ∷ partials) pulls is = pulls

-- there are names to ask for
pub can_ask : (node : Node) → why_not node need.Pull ≡ None → CanAsk node.meta
can_ask node allowed =
    let enabled = checked (is_some node.agent) NoAgent (check (not (is_disabled node.meta.refresh)) Disabled (why_no_pull node)) allowed in
    let pulls = checked (not (is_disabled node.meta.refresh)) Disabled (why_no_pull node) enabled.1 in
    let served = checked (pulls_some node.meta) NotPull (check (has_source node) NoServer (check node.registered NotRegistered (check (has_names node) NoName None))) pulls.1 in
    let registered = checked (has_source node) NoServer (check node.registered NotRegistered (check (has_names node) NoName None)) served.1 in
    let named = checked node.registered NotRegistered (check (has_names node) NoName None) registered.1 in
    names_of node.meta node.meta.partials served.0 (checked (has_names node) NoName None named.1).0

-- ---- the plan of each command

-- the event leaves the next job, and before a run the meta-configuration; and keeps no report
pub record IsQuiet (next : Follows) (event : Event) : Type 0 where
  pub job : (node : Node) → (after_of node event).next_job ≡ node.next_job
  pub meta : next ≡ follows.Run → (node : Node) → (after_of node event).meta ≡ node.meta
  pub report : (report : Report) → KeepsReport event report → ⊥

text_runs : {A : Type 0} (text : Printed) → follows.Text text ≡ follows.Run → A
text_runs text is = absurd (cc is)

without_job : (stage : Stage) (node : Node) → (after_of node (events.Remove stage)).next_job ≡ node.next_job
without_job slots.Pending node = refl
without_job slots.Current node = refl
without_job slots.Previous node = refl

pub quiet_stage : (next : Follows) (staged : Staged) → IsQuiet next (events.Stage staged)
quiet_stage next staged = record { job = λ node. refl; meta = λ runs node. refl; report = λ report none. none }

pub quiet_boot : (next : Follows) → IsQuiet next events.Boot
quiet_boot next = record { job = λ node. refl; meta = λ runs node. refl; report = λ report none. none }

pub quiet_registered : (next : Follows) → IsQuiet next events.Registered
quiet_registered next = record { job = λ node. refl; meta = λ runs node. refl; report = λ report none. none }

-- what a command brings: an event is quiet, within and stages no part; the part of a push is its bytes; and a pull alone is a pull
abbrev pub IsBringOf : Command → Follows → Bring → Type 0
IsBringOf command next bring.Nothing = command ≢ commands.Pull
IsBringOf command next (bring.Event event) = (command ≢ commands.Pull) × IsQuiet next event × ((part : Part) → StagesPart event part → ⊥) × (IsTaken command → IsWithin event)
IsBringOf command next (bring.Push staged document) =
    (bytes : List ℕ) × (command ≡ commands.Push None bytes) × (parts_of staged ≡ unnamed_part bytes ∷ []) × IsDocumentOf (parts_of staged) document
IsBringOf command next (bring.PushPart name bytes) = command ≡ commands.Push (Some name) bytes
IsBringOf command next bring.Boot = command ≢ commands.Pull
IsBringOf command next bring.Pull = command ≡ commands.Pull
IsBringOf command next (bring.Registration name) = command ≢ commands.Pull

-- where the server is asked, or a part is pushed, what that needs is needed
abbrev IsNeeded : Needs → Bring → Type 0
IsNeeded needs (bring.PushPart name bytes) = needs ≡ need.PushedPartial name
IsNeeded needs bring.Pull = needs ≡ need.Pull
IsNeeded needs (bring.Registration name) = needs ≡ need.Server
IsNeeded needs _ = Unit {0}

pub record PlanFacts (command : Command) (plan : Plan) : Type 0 where
  -- before a run the clock is read
  pub reads : plan.follows ≡ follows.Run → plan.reads_clock ≡ true
  pub brings : IsBringOf command plan.follows plan.brings
  pub needed : IsNeeded plan.needs plan.brings

-- the row of each command
pub plan_facts : (command : Command) (plan : Plan) → IsPlanOf command plan → PlanFacts command plan
plan_facts (commands.Init agent) plan is = subst (PlanFacts (commands.Init agent)) (sym is) (record {
  reads = text_runs print.Done;
  brings = (λ pull. cc pull, record { job = λ node. refl; meta = text_runs print.Done; report = λ report none. none }, λ part none. none, λ taken. tt);
  needed = tt;
})
plan_facts (commands.Meta meta) plan is = subst (PlanFacts (commands.Meta meta)) (sym is) (record {
  reads = text_runs print.Done;
  brings = (λ pull. cc pull, record { job = λ node. refl; meta = text_runs print.Done; report = λ report none. none }, λ part none. none, λ taken. taken);
  needed = tt;
})
plan_facts (commands.Register name) plan is = subst (PlanFacts (commands.Register name)) (sym is) (record { reads = text_runs print.Done; brings = λ pull. cc pull; needed = refl })
plan_facts commands.Pull plan is = subst (PlanFacts commands.Pull) (sym is) (record { reads = λ runs. refl; brings = refl; needed = refl })
plan_facts (commands.Push None bytes) plan is =
    subst (PlanFacts (commands.Push None bytes)) (sym is.is) (record { reads = λ runs. refl; brings = (bytes, refl, is.parts, is.merged); needed = tt })
plan_facts (commands.Push (Some name) bytes) plan is =
    subst (PlanFacts (commands.Push (Some name) bytes)) (sym is.is) (record { reads = λ runs. refl; brings = refl; needed = refl })
plan_facts commands.Consistency plan is = subst (PlanFacts commands.Consistency) (sym is) (record { reads = λ runs. refl; brings = λ pull. cc pull; needed = tt })
plan_facts commands.Boot plan is = subst (PlanFacts commands.Boot) (sym is) (record { reads = λ runs. refl; brings = λ pull. cc pull; needed = tt })
plan_facts commands.Get plan is = subst (PlanFacts commands.Get) (sym is) (record { reads = text_runs print.Node; brings = λ pull. cc pull; needed = tt })
plan_facts commands.Restore plan is = subst (PlanFacts commands.Restore) (sym is) (record {
  reads = λ runs. refl;
  brings = (λ pull. cc pull, record { job = λ node. refl; meta = λ runs node. refl; report = λ report none. none }, λ part none. none, λ taken. tt);
  needed = tt;
})
plan_facts (commands.Remove stage) plan is = subst (PlanFacts (commands.Remove stage)) (sym is) (record {
  reads = text_runs print.Done;
  brings = (λ pull. cc pull, record { job = without_job stage; meta = text_runs print.Done; report = λ report none. none }, λ part none. none, λ taken. tt);
  needed = tt;
})
plan_facts commands.Reports plan is = subst (PlanFacts commands.Reports) (sym is) (record { reads = text_runs print.Reports; brings = λ pull. cc pull; needed = tt })

-- ---- what a start needs of its plan

pub facts_of : (plan : Plan) (p : IsPlan plan) → PlanFacts p.command plan
facts_of plan p = plan_facts p.command plan p.is

can_be : (node : Node) (command : Command) (needs : Needs) (brings : Bring) (next : Follows) → IsTaken command → IsBringOf command next brings → IsNeeded needs brings → why_not node needs ≡ None
    → CanBring node brings
can_be node command needs bring.Nothing next taken is needed allowed = tt
can_be node command needs (bring.Event event) next taken is needed allowed = is.3 taken
can_be node command needs (bring.Push staged document) next taken is needed allowed = is.3
can_be node command needs (bring.PushPart name bytes) next taken is needed allowed = subst (λ (n : Needs). why_not node n ≡ None) needed allowed
can_be node command needs bring.Boot next taken is needed allowed = tt
can_be node command needs bring.Pull next taken is needed allowed = subst (λ (n : Needs). why_not node n ≡ None) needed allowed
can_be node command needs (bring.Registration name) next taken is needed allowed = subst (λ (n : Needs). why_not node n ≡ None) needed allowed

-- what a node that has what is needed can be brought
pub can_bring : (node : Node) (plan : Plan) → IsPlan plan → why_not node plan.needs ≡ None → CanBring node plan.brings
can_bring node plan p allowed =
    let facts = facts_of plan p in
    can_be node p.command plan.needs plan.brings plan.follows p.taken facts.brings facts.needed allowed
