-- The event that a command brings: what it leaves of a node, which parts it stages, and that it keeps no report.
use Rattle.std.proofs.Common.{◌≡◌, ◌≢◌, ◌⊎◌, inl, inr, ⊎_elim, ℕ, Bool, true, false, List, [], ◌∷◌, Option, Some, None, Result, Ok, Err, refl, sym, ap, subst, ◌∙◌, arith}
use Rattle.std.specs.Prelude.{All, Contains, IfSome}
use Rattle.std.proofs.lemmas.List.Elements.{All-contains, All-from_recursion}
use Rattle.dsc_outside.specs.declared.disk.Disk as disks
use Rattle.dsc_document.specs.declared.document.Document.{Document}
use Rattle.meta_config.specs.declared.meta.Meta.{Meta as MetaTerm}
use Rattle.meta_config.specs.declared.server.Server.{Server}
use Rattle.partial_merge.specs.declared.part.Part.{Part}
use Rattle.partial_merge.specs.Merged.{Merged}
use Rattle.partial_merge.specs.Parts.{text_part, unnamed_part}
use Rattle.resource_kinds.specs.declared.machine.Machine as machines
use Rattle.resource_kinds.specs.declared.resources.Resources as resources
use Rattle.report_log.specs.declared.report.Report.{Report}
use Rattle.node_state.specs.declared.error.StageError.{StageError}
use Rattle.node_state.specs.declared.list.Staged.{Staged}
use Rattle.node_state.specs.declared.node.Node.{Node}
use Rattle.node_state.specs.declared.event.Event.{Event}
use Rattle.node_state.specs.declared.event.Event.TheVariants as events
use Rattle.node_state.specs.Slots.{IsIn, Stages, StagesPart}
use Rattle.node_state.specs.StagedParts.{parts_of}
use Rattle.node_state.specs.Staging.{AreFitting}
use Rattle.node_state.specs.Table.{Steps}
use Rattle.node_state.proofs.SoundSteps.{only_one}
use Rattle.node_pull.specs.declared.error.PullFault.{PullFault}
use Rattle.node_pull.specs.declared.error.PullFault.TheVariants as pulls
use Rattle.node_pull.specs.Errors.{error_of, staging_error}
use Rattle.node_pull.specs.Contents.{IsHeldOrAccepted}
use Rattle.node_pull.specs.Laying.{AreLaid, laid_over}
use Rattle.node_pull.specs.Listing.{Listed}
use Rattle.node_pull.specs.Packages.{HasAll, Packages, modules_of}
use Rattle.node_pull.specs.Pulling as pulling
use Rattle.node_pull.specs.Pulling.{Pulled}
use Rattle.dsc_outside.specs.Link.{GoesOn, LinkView}
use Rattle.node_pull.specs.Views.{Accepts}
use Rattle.node_pull.proofs.AddedPackages.{adds_on, packages_are_accepted, packages_are_there}
use Rattle.node_pull.proofs.AcceptedParts.{pulled_accepted}
use Rattle.node_pull.proofs.GoingOn.{on_and_on, packages_go_on}
use Rattle.node_pull.proofs.LaidParts.{laid_all}
use Rattle.node_pull.proofs.Since.{since_then}
use Rattle.pull_client.specs.Content.{GivesPart}
use Rattle.pull_client.specs.Requests.{content_request}
use Rattle.dsc_node.specs.declared.command.Command.{Command}
use Rattle.dsc_node.specs.declared.command.Command.TheVariants as commands
use Rattle.dsc_node.specs.declared.status.Status.{Status}
use Rattle.dsc_node.specs.declared.plan.Bring.{Bring}
use Rattle.dsc_node.specs.declared.plan.Bring.TheVariants as bring
use Rattle.dsc_node.specs.declared.plan.Follows.{Follows}
use Rattle.dsc_node.specs.declared.plan.Follows.TheVariants as follows
use Rattle.dsc_node.specs.declared.plan.Plan.{Plan}
use Rattle.dsc_node.specs.declared.bringing.Unbrought.{Unbrought}
use Rattle.dsc_node.specs.declared.bringing.Unbrought.TheVariants.{Pull as PullError, Staging}
use Rattle.dsc_node.specs.Bringing.{Brought, IsPull, IsPushedPart, Lays, boot_of, events_of, held_among, held_of, pushed_by, registered_by, staged_by, status_of_pull}
use Rattle.dsc_node.specs.Commands.{IsAllowed, IsPlanOf}
use Rattle.dsc_node.specs.Headline.{AddsPackages, AllowsPull, IsBrought, IsPullFault, Keeps, PulledPackages, WasPushed}
use Rattle.dsc_node.proofs.Found.{WasSlot}
use Rattle.dsc_node.proofs.Plans.{IsBringOf, IsQuiet, plan_facts, quiet_boot, quiet_registered, quiet_stage}

-- ---- which event it is

abbrev pub IsFirst : Node → Bring → Option Event → Type 0
IsFirst node bring.Nothing first = first ≡ None
IsFirst node (bring.Event event) first = first ≡ Some event
IsFirst node (bring.Push staged document) first = first ≡ Some (events.Stage staged)
IsFirst node (bring.PushPart name bytes) first = (staged : Staged) × (first ≡ Some (events.Stage staged))
IsFirst node bring.Boot first = first ≡ boot_of node.reboot
IsFirst node bring.Pull first = (first ≡ None) ⊎ ((staged : Staged) × (first ≡ Some (events.Stage staged)))
IsFirst node (bring.Registration name) first = first ≡ Some events.Registered

some_ok : {A E : Type 0} (a b : A) → (let x : Result A E = Ok a in x) ≡ Ok b → a ≡ b
some_ok a b is = cc is

no_ok : {A B E : Type 0} (a : A) (e : E) → (let x : Result A E = Ok a in x) ≡ Err e → B
no_ok a e is = absurd (cc is)

pub pushed_first : (first : Option Event) (answer : Result Staged StageError) → Ok first ≡ pushed_by answer → (staged : Staged) × (answer ≡ Ok staged) × (first ≡ Some (events.Stage staged))
pushed_first first (Ok staged) is = (staged, refl, some_ok first (Some (events.Stage staged)) is)
pushed_first first (Err error) is = no_ok first (Staging error) is

registered_first : (first : Option Event) (answer : Result (Unit {0}) PullFault) → Ok first ≡ registered_by answer → first ≡ Some events.Registered
registered_first first (Ok done) is = some_ok first (Some events.Registered) is
registered_first first (Err error) is = no_ok first (PullError error) is

pulled_first : (first : Option Event) (answer : Result (Option Staged) PullFault) → Ok first ≡ staged_by answer → (first ≡ None) ⊎ ((staged : Staged) × (first ≡ Some (events.Stage staged)))
pulled_first first (Ok None) is = inl (some_ok first None is)
pulled_first first (Ok (Some staged)) is = inr (staged, some_ok first (Some (events.Stage staged)) is)
pulled_first first (Err error) is = no_ok first (PullError error) is

module _ {S : Type 0} (runs_on : resources.Ghosts S) (machine : machines.Ghosts S) (node : Node) (start : ℕ) (asked heard : LinkView) (before after : S) (first : Option Event) where
  pub is_first : (brings : Bring) → Brought runs_on machine node brings start asked heard before after (Ok first) → IsFirst node brings first
  is_first bring.Nothing b = some_ok first None b.is
  is_first (bring.Event event) b = some_ok first (Some event) b.is
  is_first (bring.Push staged document) b = some_ok first (Some (events.Stage staged)) b.is
  is_first (bring.PushPart name bytes) b = let at = pushed_first first b.2.answer b.2.is in (at.0, at.2)
  is_first bring.Boot b = some_ok first (boot_of node.reboot) b.is
  is_first bring.Pull b = pulled_first first b.answer b.is
  is_first (bring.Registration name) b = registered_first first b.1.answer b.1.is

-- ---- that it is quiet

module _ (next : Follows) (first : Option Event) where
  none_quiet : first ≡ None → IfSome first (IsQuiet next)
  none_quiet is = subst (λ (f : Option Event). IfSome f (IsQuiet next)) (sym is) tt

  some_quiet : (event : Event) → IsQuiet next event → first ≡ Some event → IfSome first (IsQuiet next)
  some_quiet event quiet is = subst (λ (f : Option Event). IfSome f (IsQuiet next)) (sym is) quiet

  marked_quiet : (marked : Bool) → first ≡ boot_of marked → IfSome first (IsQuiet next)
  marked_quiet true is = some_quiet events.Boot (quiet_boot next) is
  marked_quiet false is = none_quiet is

  quiet_by : (command : Command) (node : Node) (brings : Bring) → IsBringOf command next brings → IsFirst node brings first → IfSome first (IsQuiet next)
  quiet_by command node bring.Nothing facts is = none_quiet is
  quiet_by command node (bring.Event event) facts is = some_quiet event facts.1 is
  quiet_by command node (bring.Push staged document) facts is = some_quiet (events.Stage staged) (quiet_stage next staged) is
  quiet_by command node (bring.PushPart name bytes) facts is = some_quiet (events.Stage is.0) (quiet_stage next is.0) is.1
  quiet_by command node bring.Boot facts is = marked_quiet node.reboot is
  quiet_by command node bring.Pull facts (inl is) = none_quiet is
  quiet_by command node bring.Pull facts (inr (staged, is)) = some_quiet (events.Stage staged) (quiet_stage next staged) is
  quiet_by command node (bring.Registration name) facts is = some_quiet events.Registered (quiet_registered next) is

-- what the plan of a command brings first is quiet
pub first_quiet : {S : Type 0} (runs_on : resources.Ghosts S) (machine : machines.Ghosts S) (node : Node) (start : ℕ) (asked heard : LinkView) (before after : S) (first : Option Event)
    (command : Command) (plan : Plan) → IsPlanOf command plan → Brought runs_on machine node plan.brings start asked heard before after (Ok first) → IfSome first (IsQuiet plan.follows)
first_quiet runs_on machine node start asked heard before after first command plan is b =
    quiet_by plan.follows first command node plan.brings (plan_facts command plan is).brings (is_first runs_on machine node start asked heard before after first plan.brings b)

-- the next job
pub first_job : (node mid : Node) (first : Option Event) (next : Follows) → Steps node (events_of first) mid → IfSome first (IsQuiet next) → mid.next_job ≡ node.next_job
first_job node mid None next steps quiet = ap (λ (n : Node). n.next_job) steps
first_job node mid (Some event) next steps quiet = ap (λ (n : Node). n.next_job) (steps.2 ∙ steps.1.is) ∙ quiet.job node

-- and before a run the meta-configuration
pub first_meta : (node mid : Node) (first : Option Event) (next : Follows) → next ≡ follows.Run → Steps node (events_of first) mid → IfSome first (IsQuiet next) → mid.meta ≡ node.meta
first_meta node mid None next runs steps quiet = ap (λ (n : Node). n.meta) steps
first_meta node mid (Some event) next runs steps quiet = ap (λ (n : Node). n.meta) (steps.2 ∙ steps.1.is) ∙ quiet.meta runs node

-- it keeps no report
pub first_keeps : (report : Report) (first : Option Event) (next : Follows) → IfSome first (IsQuiet next) → Keeps (events_of first) report → ⊥
first_keeps report None next quiet k = k
first_keeps report (Some event) next quiet (inl k) = quiet.report report k
first_keeps report (Some event) next quiet (inr more) = more

-- ---- parts

module _ (part : Part) (first : Option Event) (stages : Stages (events_of first) part) where
  none_stages : {A : Type 0} → first ≡ None → A
  none_stages is = absurd (subst (λ (f : Option Event). Stages (events_of f) part) is stages)

  some_stages : (event : Event) → first ≡ Some event → StagesPart event part
  some_stages event is = one (subst (λ (f : Option Event). Stages (events_of f) part) is stages) where
    one : Stages (event ∷ []) part → StagesPart event part
    one (inl it) = it
    one (inr more) = absurd more

  boot_stages : {A : Type 0} (b : Bool) → first ≡ boot_of b → A
  boot_stages true is = absurd (some_stages events.Boot is)
  boot_stages false is = none_stages is

only : (part : Part) (bytes : List ℕ) (parts : List Part) → parts ≡ unnamed_part bytes ∷ [] → Contains parts part → part ≡ unnamed_part bytes
only part bytes parts is there =
    let P : Part → Type 0 = λ p. p ≡ unnamed_part bytes in
    All-contains P parts part (subst (λ (ps : List Part). All P ps) (sym is) (only_one P (unnamed_part bytes) refl)) there

-- what a node holds is in a stage of it
held_slot : (pending current previous : Option (List Part)) (part : Part) → Contains (held_among pending current) part → IsIn pending part ⊎ IsIn current part ⊎ IsIn previous part
held_slot (Some parts) current previous part there = inl there
held_slot None (Some parts) previous part there = inr (inl there)
held_slot None None previous part there = absurd (omega (arith, there.1))

-- a part of a list that one part is laid to is that part, or is held
laid_part : (meta : MetaTerm) (one : Part) (held parts : List Part) (part : Part) → AreLaid meta (one ∷ []) held parts → Contains parts part → (part ≡ one) ⊎ Contains held part
laid_part meta one held parts part laid there =
    let P : Part → Type 0 = λ p. (p ≡ one) ⊎ Contains held p in
    All-contains P parts part
    (subst (λ (ps : List Part). All P ps) (sym laid.laid)
    (All-from_recursion P (laid_over laid.names (one ∷ []) held)
    (laid_all P (one ∷ []) held (λ p new. inl (All-contains (λ (q : Part). q ≡ one) (one ∷ []) p (only_one (λ (q : Part). q ≡ one) one refl) new)) (λ p old. inr old) laid.names))) there

module _ {D S : Type 0} (d : disks.Ghosts D) (begin : D) (runs_on : resources.Ghosts S) (machine : machines.Ghosts S) (node : Node) (start : ℕ) (asked heard end : LinkView) (later : GoesOn heard end) (before after : S)
    (part : Part) (first : Option Event) (stages : Stages (events_of first) part) where
  held_or_accepted : (server : Server) → node.meta.server ≡ Some server → (agent : ℕ) → node.agent ≡ Some agent → IsHeldOrAccepted server agent (held_of node) asked heard part
      → WasSlot d begin node part ⊎ IsBrought commands.Pull node asked end part
  held_or_accepted server is_server agent is_agent (inl held) = inl (inl (held_slot node.pending node.current node.previous part held))
  held_or_accepted server is_server agent is_agent (inr accepted) =
      inr (record {
        server = server;
        is_server = is_server;
        agent = agent;
        is_agent = is_agent;
        accepted = since_then (Accepts server (content_request server agent part.name) (GivesPart part.name) part) asked heard end accepted later;
      })

  -- the part of a list that a push under a name came to
  push_brings : (name bytes : List ℕ) (command : Command) → command ≡ commands.Push (Some name) bytes → IsPushedPart node name bytes (Ok first)
      → WasSlot d begin node part ⊎ IsBrought command node asked end part
  push_brings name bytes command is p =
      let at = pushed_first first p.answer p.is in
      let lays : Lays node (text_part p.partial.name bytes) (Ok at.0) = subst (Lays node (text_part p.partial.name bytes)) at.1 p.lays in
      let pushed : part ≡ text_part p.partial.name bytes → WasPushed node name bytes part = λ new. record { partial = p.partial; is_partial = p.is_partial; is = new } in
      ⊎_elim
      (λ new. inr (subst (λ (c : Command). IsBrought c node asked end part) (sym is) (pushed new)))
      (λ held. inl (inl (held_slot node.pending node.current node.previous part held)))
      (laid_part node.meta (text_part p.partial.name bytes) (held_of node) (parts_of at.0) part lays.0 (some_stages part first stages (events.Stage at.0) at.2))

  pull_brings : (answer : Result (Option Staged) PullFault) (server : Server) → node.meta.server ≡ Some server → (agent : ℕ) → node.agent ≡ Some agent
      → Pulled machine.packages runs_on.faults node.meta server agent (held_of node) asked heard before after answer
      → Ok first ≡ staged_by answer → WasSlot d begin node part ⊎ IsBrought commands.Pull node asked end part
  pull_brings (Ok None) server is_server agent is_agent pulled is = none_stages part first stages (some_ok first None is)
  pull_brings (Ok (Some staged)) server is_server agent is_agent pulled is =
      held_or_accepted server is_server agent is_agent (All-contains (IsHeldOrAccepted server agent (held_of node) asked heard) (parts_of staged) part (pulled_accepted pulled)
      (some_stages part first stages (events.Stage staged) (some_ok first (Some (events.Stage staged)) is)))
  pull_brings (Err error) server is_server agent is_agent pulled is = no_ok first (PullError error) is

  brings_by : (command : Command) (next : Follows) (brings : Bring) → IsBringOf command next brings → Brought runs_on machine node brings start asked heard before after (Ok first)
      → WasSlot d begin node part ⊎ IsBrought command node asked end part
  brings_by command next bring.Nothing facts b = none_stages part first stages (some_ok first None b.is)
  brings_by command next (bring.Event event) facts b = absurd (facts.2 part (some_stages part first stages event (some_ok first (Some event) b.is)))
  brings_by command next (bring.Push staged document) facts b =
      let is = only part facts.0 (parts_of staged) facts.2 (some_stages part first stages (events.Stage staged) (some_ok first (Some (events.Stage staged)) b.is)) in
      inr (subst (λ (c : Command). IsBrought c node asked end part) (sym facts.1) is)
  brings_by command next (bring.PushPart name bytes) facts b = push_brings name bytes command facts b.2
  brings_by command next bring.Boot facts b = boot_stages part first stages node.reboot (some_ok first (boot_of node.reboot) b.is)
  brings_by command next bring.Pull facts b =
      subst (λ (c : Command). WasSlot d begin node part ⊎ IsBrought c node asked end part) (sym facts) (pull_brings b.answer b.server b.is_server b.agent b.is_agent b.pulled b.is)
  brings_by command next (bring.Registration name) facts b = absurd (some_stages part first stages events.Registered (registered_first first b.1.answer b.1.is))

  -- each part that is staged was there, or was brought
  pub brings : (command : Command) (plan : Plan) → IsPlanOf command plan → Brought runs_on machine node plan.brings start asked heard before after (Ok first)
      → WasSlot d begin node part ⊎ IsBrought command node asked end part
  brings command plan is b = brings_by command plan.follows plan.brings (plan_facts command plan is).brings b

-- ---- packages

pub fault_error : (error : PullFault) → IsPullFault (status_of_pull error)
fault_error pulls.Link = tt
fault_error pulls.Host = tt
fault_error (pulls.Refused fault) = tt
fault_error pulls.Memory = tt

-- what a pull came to
module _ {S : Type 0} (runs_on : resources.Ghosts S) (machine : machines.Ghosts S) (node : Node) (end : LinkView) (status : Status) (allowed : AllowsPull node) where
  -- a list that fits, and the packages of its document as far as they came
  came_adds : (server : Server) → node.meta.server ≡ Some server → (agent : ℕ) → node.agent ≡ Some agent → (asked listing heard : LinkView) (before after : S) (staged : Staged) (document : Document)
      (result : Result (Unit {0}) PullFault) → Listed node.meta server agent (held_of node) asked listing (Ok (parts_of staged)) → AreFitting node.meta (parts_of staged) → Merged (parts_of staged) document
      → Packages machine.packages runs_on.faults server (modules_of document) listing heard before after result → GoesOn heard end
      → ((IsPullFault status → ⊥) → HasAll (modules_of document) (machine.packages after)) → PulledPackages node asked end status (machine.packages before) (machine.packages after)
  came_adds server is_server agent is_agent asked listing heard before after staged document result listed fitting merged came later there = record {
    allowed = allowed;
    server = server;
    is_server = is_server;
    agent = agent;
    is_agent = is_agent;
    staged = staged;
    listing = listing;
    listed = listed;
    fitting = fitting;
    document = document;
    merged = merged;
    on = on_and_on listing heard end (packages_go_on came) later;
    added =
        adds_on server (modules_of document) listing heard end (machine.packages before) (machine.packages after) later
        (packages_are_accepted machine.packages runs_on.faults server (modules_of document) listing heard before after result came);
    there = there;
  }

  pulled_adds : (server : Server) → node.meta.server ≡ Some server → (agent : ℕ) → node.agent ≡ Some agent → (asked heard : LinkView) (before after : S) (answer : Result (Option Staged) PullFault)
      → GoesOn heard end → ((error : PullFault) → answer ≡ Err error → IsPullFault status)
      → Pulled machine.packages runs_on.faults node.meta server agent (held_of node) asked heard before after answer
      → AddsPackages commands.Pull node asked end status (machine.packages before) (machine.packages after)
  pulled_adds server is_server agent is_agent _ _ _ _ _ later fault (pulling.not_listed asked heard state error listed) = inl (inr (fault (error_of error) refl), refl)
  pulled_adds server is_server agent is_agent _ _ _ _ _ later fault (pulling.not_staged asked heard state parts error listed unfit) = inl (inr (fault (staging_error error) refl), refl)
  pulled_adds server is_server agent is_agent _ _ _ _ _ later fault (pulling.no_package asked listing heard before after staged document error listed fitting merged came) = inr
      (came_adds server is_server agent is_agent asked listing heard before after staged document (Err error) listed fitting merged came later (λ fine. absurd (fine (fault error refl))))
  pulled_adds server is_server agent is_agent _ _ _ _ _ later fault (pulling.brought asked listing heard before after staged document brings listed fitting merged came is) = inr
      (came_adds server is_server agent is_agent asked listing heard before after staged document (Ok tt) listed fitting merged came later
      (λ fine. packages_are_there machine.packages runs_on.faults server (modules_of document) listing heard before after came))

module _ {S : Type 0} (runs_on : resources.Ghosts S) (machine : machines.Ghosts S) (node : Node) (start : ℕ) (asked heard end : LinkView) (later : GoesOn heard end) (before after : S)
    (result : Result (Option Event) Unbrought) (status : Status) (fault : (error : PullFault) → result ≡ Err (PullError error) → IsPullFault status) where
  abbrev pub Adds : Command → Type 0
  Adds command = AddsPackages command node asked end status (machine.packages before) (machine.packages after)

  pull_adds : AllowsPull node → IsPull machine runs_on.faults node asked heard before after result → Adds commands.Pull
  pull_adds allowed p =
      pulled_adds runs_on machine node end status allowed p.server p.is_server p.agent p.is_agent asked heard before after p.answer later
      (λ error is. fault error (p.is ∙ ap staged_by is)) p.pulled

  -- what is no pull leaves the machine
  leaves_machine : (command : Command) (next : Follows) (brings : Bring) → command ≢ commands.Pull → IsBringOf command next brings
      → Brought runs_on machine node brings start asked heard before after result → machine.packages after ≡ machine.packages before
  leaves_machine command next bring.Nothing other facts b = ap machine.packages b.machine
  leaves_machine command next (bring.Event event) other facts b = ap machine.packages b.machine
  leaves_machine command next (bring.Push staged document) other facts b = ap machine.packages b.machine
  leaves_machine command next (bring.PushPart name bytes) other facts b = ap machine.packages b.0
  leaves_machine command next bring.Boot other facts b = ap machine.packages b.machine
  leaves_machine command next bring.Pull other facts b = absurd (other facts)
  leaves_machine command next (bring.Registration name) other facts b = ap machine.packages b.0

  -- what a command adds before its run
  pub command_adds : (command : Command) (plan : Plan) → IsPlanOf command plan → IsAllowed node plan → Brought runs_on machine node plan.brings start asked heard before after result → Adds command
  command_adds commands.Pull plan is allowed b =
      pull_adds (subst (IsAllowed node) is allowed) (subst (λ (p : Plan). Brought runs_on machine node p.brings start asked heard before after result) is b)
  command_adds command plan is allowed b = leaves_machine command plan.follows plan.brings (λ pull. cc pull) (plan_facts command plan is).brings b
