-- The commands that start the node.
use Rattle.std.specs.Prelude.{◌≡◌, ◌⊎◌, ◌≤◌, ℕ, List, Option, Some, None, Ok}
use Rattle.std.specs.Str.{chars}
use Rattle.dsc_outside.specs.declared.ends.Ends as ends
use Rattle.gate_log.specs.Standing.{AllStand, Any}
use Rattle.node_store.specs.Stands.{Stands}
use Rattle.dsc_outside.specs.LinkView.{view_of}
use Rattle.dsc_node.specs.declared.command.Command.{Command}
use Rattle.dsc_node.specs.declared.command.Command.TheVariants as commands
use Rattle.dsc_node.specs.declared.status.Status.{Status}
use Rattle.dsc_node.specs.Headline.{HasHeadline}
use Rattle.dsc_node.specs.Start.{Outside, Start, outside}
use Rattle.dsc_node.specs.Work as starts
use Rattle.lcm_program.specs.declared.input.Unread.{Unread}
use Rattle.lcm_program.specs.Endings.{EndsSilent, StartEnds, UnreadEnds}
use Rattle.lcm_program.specs.Input.{IsInput, IsUnread, Reading, ReadsBytes, ReadsMeta, input_limit}
use Rattle.lcm_program.specs.Objects.{Known, Objects}
use Rattle.lcm_program.specs.Further.{Further}

-- A start of the node by the command: it ended so, with these lines, by the table of starts; it has the headline, and the further fact of
-- starts holds; where every image of the store stands for a node before it, so it does after it; the clock's count of faults does not fall;
-- and its end is printed.
pub record IsStart {K D M C : Type 0} (sink : ends.Ghosts K) (o : starts.Known D M C) (further : Further D M C)
    (command : Command) (status : Status) (old new : K) (before after : Outside D M C) : Type 0 where
  pub ended : Status
  pub lines : List ℕ
  pub start : Start o command before after ended lines
  pub headline : HasHeadline o command before after ended lines
  pub more : further.start command before after ended lines
  pub again : AllStand o.disk before.disk Stands Any → AllStand o.disk after.disk Stands Any
  pub later : o.clock.faults before.beside.clock ≤ o.clock.faults after.beside.clock
  pub prints : StartEnds sink ended lines status old new

-- A start with what the whole input is read as; an input that was not read is refused, and nothing else was touched.
pub data InputEnds {A S K D M C : Type 0} (reads : Reading A) (command_of : A → Command) (source : ends.Ghosts S) (sink : ends.Ghosts K) (o : starts.Known D M C) (further : Further D M C)
    (status : Status) (input input_after : S) (old new : K) (before after : Outside D M C) : Type 0 where
  started : (value : A) → IsInput reads (source.left input) (Ok value)
      → IsStart sink o further (command_of value) status old new before after
      → InputEnds reads command_of source sink o further status input input_after old new before after
  unread : (cause : Unread) → IsUnread reads cause (source.left input) (source.faults input) (source.faults input_after)
      → UnreadEnds sink cause status old new → after ≡ before
      → InputEnds reads command_of source sink o further status input input_after old new before after

-- the input is the document that is pushed, under this name, or under none
abbrev pub PushEnds : {S K D M C : Type 0} → ends.Ghosts S → ends.Ghosts K → starts.Known D M C → Further D M C → Option (List ℕ) → Status → S → S → K → K → Outside D M C → Outside D M C → Type 0
PushEnds source sink o further name status input input_after old new before after =
    InputEnds (ReadsBytes input_limit) (commands.Push name) source sink o further status input input_after old new before after

-- The input is pushed under this name; or memory ran out for the name, and nothing was touched, nor the input.
abbrev pub PartEnds : {S K D M C : Type 0} → ends.Ghosts S → ends.Ghosts K → starts.Known D M C → Further D M C → List ℕ → Status → S → S → K → K → Outside D M C → Outside D M C → Type 0
PartEnds source sink o further name status input input_after old new before after =
    PushEnds source sink o further (Some (chars name)) status input input_after old new before after
    ⊎ (EndsSilent status old new × (after ≡ before) × (input_after ≡ input))

-- it declares the meta-configuration
abbrev pub MetaEnds : {S K D M C : Type 0} → ends.Ghosts S → ends.Ghosts K → starts.Known D M C → Further D M C → Status → S → S → K → K → Outside D M C → Outside D M C → Type 0
MetaEnds source sink o further status input input_after old new before after =
    InputEnds ReadsMeta commands.Meta source sink o further status input input_after old new before after

-- A start with the registration under this name; or memory ran out for the name, and nothing was touched.
abbrev pub RegisterEnds : {K D M C : Type 0} → ends.Ghosts K → starts.Known D M C → Further D M C → List ℕ → Status → K → K → Outside D M C → Outside D M C → Type 0
RegisterEnds sink o further name status old new before after =
    IsStart sink o further (commands.Register (chars name)) status old new before after ⊎ (EndsSilent status old new × (after ≡ before))

-- ---- the rows of the table

-- what a start works with of a command's objects; of its link, what that shows
abbrev pub outside_of : {S K D M L C : Type 0} → Known S K D M L C → Objects S K D M L C → Outside D M C
outside_of o objects = outside objects.disk objects.machine (view_of o.link objects.link) objects.clock

-- a command without an input
pub record Started {S K D M L C : Type 0} (command : Command) (o : Known S K D M L C) (further : Further D M C) (status : Status) (before after : Objects S K D M L C) : Type 0 where
  pub input : after.input ≡ before.input
  pub start : IsStart o.sink o.outside further command status before.output after.output (outside_of o before) (outside_of o after)

-- `register`
pub record Registered {S K D M L C : Type 0} (name : List ℕ) (o : Known S K D M L C) (further : Further D M C) (status : Status) (before after : Objects S K D M L C) : Type 0 where
  pub input : after.input ≡ before.input
  pub ends : RegisterEnds o.sink o.outside further name status before.output after.output (outside_of o before) (outside_of o after)

-- `meta`
abbrev pub Configured : {S K D M L C : Type 0} → Known S K D M L C → Further D M C → Status → Objects S K D M L C → Objects S K D M L C → Type 0
Configured o further status before after =
    MetaEnds o.source o.sink o.outside further status before.input after.input before.output after.output (outside_of o before) (outside_of o after)

-- `push` without a name
abbrev pub Pushed : {S K D M L C : Type 0} → Known S K D M L C → Further D M C → Status → Objects S K D M L C → Objects S K D M L C → Type 0
Pushed o further status before after =
    PushEnds o.source o.sink o.outside further None status before.input after.input before.output after.output (outside_of o before) (outside_of o after)

-- and under a name
abbrev pub PushedPart : {S K D M L C : Type 0} → List ℕ → Known S K D M L C → Further D M C → Status → Objects S K D M L C → Objects S K D M L C → Type 0
PushedPart name o further status before after =
    PartEnds o.source o.sink o.outside further name status before.input after.input before.output after.output (outside_of o before) (outside_of o after)
