-- What a command comes to: it starts the node, or leaves the disk as it was.
use Rattle.std.proofs.Common.{◌≡◌, ◌⊎◌, inl, inr, ℕ, List, Option, Some, None, Ok, refl, sym, ap, subst}
use Rattle.std.specs.Prelude.{IfSome}
use Rattle.std.specs.Str.{chars}
use Rattle.dsc_node.specs.declared.command.Command.{Command as StartCommand}
use Rattle.dsc_node.specs.declared.command.Command.TheVariants as commands
use Rattle.dsc_node.specs.declared.status.Status.{Status}
use Rattle.dsc_node.specs.Start.{Outside}
use Rattle.lcm_program.specs.declared.words.Command.{Command}
use Rattle.lcm_program.specs.declared.words.Command.TheVariants.{Test, Check, Order, Canon, Checksum, Compile, Generate, Init, Meta, Register, Pull, Push, Consistency, Boot, Get, Restore, Remove, Reports}
use Rattle.lcm_program.specs.Complete.{StartsBy}
use Rattle.lcm_program.specs.Did.{Did}
use Rattle.lcm_program.specs.Further.{Further}
use Rattle.lcm_program.specs.Input.{Reading, ReadsBytes, input_limit}
use Rattle.lcm_program.specs.Objects.{IsUntouched, Known, Objects}
use Rattle.lcm_program.specs.Started.{InputEnds, IsStart, PartEnds, RegisterEnds, outside_of, started, unread}
use Rattle.lcm_program.specs.StartsOrRests.{IsNodeStart, IsStartBy, WordsStartOrRest}
use Rattle.lcm_program.specs.Test.{Tested}

-- what is read of an input is so where that is shown
read_as : (left : Option (List ℕ)) (P : List ℕ → Type 0) (all : List ℕ) → IfSome left (λ shown. shown ≡ all) → P all → IfSome left P
read_as None P all is p = tt
read_as (Some shown) P all is p = subst P (sym is) p

unread_as : (left : Option (List ℕ)) (P : List ℕ → Type 0) → ((all : List ℕ) → P all) → IfSome left P
unread_as None P p = tt
unread_as (Some shown) P p = p shown

module _ {S K D M L C : Type 0} (o : Known S K D M L C) (further : Further D M C) (status : Status) (before after : Objects S K D M L C) where
  abbrev By : Command → StartCommand → List ℕ → Type 0
  By command start all = StartsBy (Some all) command start

  -- what a command comes to: a start of the node, a run of the input's document, or neither, and then the disk and the machine are as they were
  pub data Comes (command : Command) : Type 0 where
    starts : (start : StartCommand) → IfSome (o.source.left before.input) (By command start)
        → IsStart o.sink o.outside further start status before.output after.output (outside_of o before) (outside_of o after) → Comes command
    tests : command ≡ Test → Tested o further status before after → Comes command
    rests : after.disk ≡ before.disk → after.machine ≡ before.machine → Comes command

  -- by a command without an input
  by_words : (command : Command) (start : StartCommand) → ((all : List ℕ) → By command start all)
      → IsStart o.sink o.outside further start status before.output after.output (outside_of o before) (outside_of o after) → Comes command
  by_words command start by is = starts start (unread_as (o.source.left before.input) (By command start) by) is

  untouched : (command : Command) → IsUntouched before after → Comes command
  untouched command same = rests same.offline.disk same.machine

  unchanged : (command : Command) → outside_of o after ≡ outside_of o before → Comes command
  unchanged command same = rests (ap (λ (x : Outside D M C). x.disk) same) (ap (λ (x : Outside D M C). x.beside.machine) same)

  by_input : (command : Command) {A : Type 0} (reads : Reading A) (command_of : A → StartCommand) → ((value : A) (all : List ℕ) → reads all (Ok value) → By command (command_of value) all)
      → InputEnds reads command_of o.source o.sink o.outside further status before.input after.input before.output after.output (outside_of o before) (outside_of o after)
      → Comes command
  by_input command reads command_of by (started value is start) =
      starts (command_of value) (read_as (o.source.left before.input) (By command (command_of value)) is.all is.input_is (by value is.all is.is_answer)) start
  by_input command reads command_of by (unread cause is ends same) = unchanged command same

  by_register : (command : Command) (name : List ℕ) → ((all : List ℕ) → By command (commands.Register (chars name)) all)
      → RegisterEnds o.sink o.outside further name status before.output after.output (outside_of o before) (outside_of o after) → Comes command
  by_register command name by (inl start) = by_words command (commands.Register (chars name)) by start
  by_register command name by (inr silent) = unchanged command silent.1

  by_part : (command : Command) (name : List ℕ) → ((bytes all : List ℕ) → ReadsBytes input_limit all (Ok bytes) → By command (commands.Push (Some (chars name)) bytes) all)
      → PartEnds o.source o.sink o.outside further name status before.input after.input before.output after.output (outside_of o before) (outside_of o after) → Comes command
  by_part command name by (inl ends) = by_input command _ _ by ends
  by_part command name by (inr silent) = unchanged command silent.1

  pub comes : (command : Command) → Did o further command status before after → Comes command
  comes Test row = tests refl row
  comes Check row = untouched Check row.untouched
  comes Order row = untouched Order row.untouched
  comes Canon row = untouched Canon row.untouched
  comes Checksum row = untouched Checksum row.tool.untouched
  comes (Compile node) row = untouched (Compile node) row.untouched
  comes (Generate count) row = untouched (Generate count) row.untouched
  comes (Init agent) row = by_words (Init agent) _ (λ all. refl) row.start
  comes Meta row = by_input Meta _ _ (λ meta all reads. (meta, reads, refl)) row
  comes (Register name) row = by_register (Register name) name.now (λ all. refl) row.ends
  comes Pull row = by_words Pull _ (λ all. refl) row.start
  comes (Push None) row = by_input (Push None) _ _ (λ bytes all reads. (bytes, reads, refl)) row
  comes (Push (Some name)) row = by_part (Push (Some name)) name.now (λ bytes all reads. (bytes, reads, refl)) row
  comes Consistency row = by_words Consistency _ (λ all. refl) row.start
  comes Boot row = by_words Boot _ (λ all. refl) row.start
  comes Get row = by_words Get _ (λ all. refl) row.start
  comes Restore row = by_words Restore _ (λ all. refl) row.start
  comes (Remove stage) row = by_words (Remove stage) _ (λ all. refl) row.start
  comes Reports row = by_words Reports _ (λ all. refl) row.start

  abbrev Goes : Command → Type 0
  Goes command = IsStartBy o command status before after ⊎ (after.disk ≡ before.disk)

  goes_by : (command : Command) → Comes command → Goes command
  goes_by command (starts start by is) = inl (record {
    start = record {
      one = record {
        command = start;
        before = outside_of o before;
        after = outside_of o after;
        status = is.ended;
        lines = is.lines;
        start = is.start;
        headline = is.headline;
      };
      begins = refl;
      ends = refl;
    };
    by = by;
    prints = is.prints;
  })
  goes_by command (tests same row) = inr row.offline.disk
  goes_by command (rests disk machine) = inr disk

  pub goes : (command : Command) → Did o further command status before after → Goes command
  goes command row = goes_by command (comes command row)

  started_or_rests : (command : Command) → Goes command → IsNodeStart o before after ⊎ (after.disk ≡ before.disk)
  started_or_rests command (inl is) = inl is.start
  started_or_rests command (inr same) = inr same

pub words_start_or_rest : {S K D M L C : Type 0} (o : Known S K D M L C) (further : Further D M C) → WordsStartOrRest o further
words_start_or_rest o further arguments status before after words = record {
  form = λ command is. started_or_rests o further status before after command (goes o further status before after command (words.did command is));
  none = λ no. (words.nothing no).untouched.offline.disk;
}
