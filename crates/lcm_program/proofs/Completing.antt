-- A command that starts the node, of valid input, in which nothing failed, is not refused.
use Rattle.std.proofs.Common.{◌≡◌, ◌∙◌, ◌⊎◌, inl, inr, ℕ, List, Option, Some, None, Ok, Err, sym, subst, arith}
use Rattle.std.specs.Str.{chars}
use Rattle.dsc_terms.specs.Counts.{Rose}
use Rattle.meta_config.specs.declared.meta.Meta as declared
use Rattle.meta_config.specs.Laws.{BytesMeanOne}
use Rattle.meta_config.specs.Parts.{IsOrderOfParts}
use Rattle.dsc_node.specs.declared.command.Command.{Command as StartCommand}
use Rattle.dsc_node.specs.declared.command.Command.TheVariants as commands
use Rattle.dsc_node.specs.declared.status.InputError.{InputError}
use Rattle.dsc_node.specs.declared.status.InputError.TheVariants.{TooLong, Mof, Merge, Meta, Parts, Fit, ListTooLong, Compile, Script}
use Rattle.dsc_node.specs.declared.status.Status.{Status}
use Rattle.dsc_node.specs.declared.status.Status.TheVariants as statuses
use Rattle.dsc_node.specs.Complete.{IsEndOf, IsEndOfRun, IsValid, ValidStartsComplete}
use Rattle.lcm_program.specs.declared.input.Unread.TheVariants as unread_by
use Rattle.lcm_program.specs.declared.words.Command.{Command}
use Rattle.lcm_program.specs.declared.words.Command.TheVariants as words
use Rattle.lcm_program.specs.Complete.{Completes, IsReadAs, NothingFailed, StartsBy}
use Rattle.lcm_program.specs.Did.{Did}
use Rattle.lcm_program.specs.Endings.{StartEnds}
use Rattle.lcm_program.specs.Further.{Further}
use Rattle.lcm_program.specs.Input.{IsInput, Reading, ReadsBytes, ReadsMeta, input_limit}
use Rattle.lcm_program.specs.Objects.{Known, Objects}
use Rattle.lcm_program.specs.Started.{InputEnds, IsStart, PartEnds, PushEnds, RegisterEnds, Started, outside_of, started, unread}
use Rattle.lcm_program.proofs.Readings.{bytes_decide}

-- ---- inputs

-- what is read as a value is read as that one alone, and is not refused
pub record IsOneValue {A : Type 0} (reads : Reading A) : Type 0 where
  pub same : (all : List ℕ) (value other : A) → reads all (Ok value) → reads all (Ok other) → other ≡ value
  pub never : (all : List ℕ) (value : A) (error : InputError) → reads all (Ok value) → reads all (Err error) → ⊥

bytes_are_one : (limit : ℕ) → IsOneValue (ReadsBytes limit)
bytes_are_one limit = record {
  same = λ all value other is also. also.0 ∙ sym is.0;
  never = λ all value error is refused. bytes_decide limit all (Ok value) (Err error) is refused;
}

module _ (one : BytesMeanOne) where
  never_refused : (all : List ℕ) (meta : declared.Meta) (error : InputError) → ReadsMeta all (Ok meta) → ReadsMeta all (Err error) → ⊥
  never_refused all meta TooLong is refused = omega (arith, is.fits, refused)
  never_refused all meta (Mof error) is refused = refused
  never_refused all meta (Merge error) is refused = refused
  never_refused all meta (Meta error) is refused = refused.none meta is.means
  never_refused all meta (Parts walk) is refused =
      refused.none is.ordered.0
      (subst (λ (m : declared.Meta). IsOrderOfParts m is.ordered.0) (one all meta refused.meta is.means refused.means) is.ordered.1)
  never_refused all meta (Fit error) is refused = refused
  never_refused all meta (ListTooLong bytes) is refused = refused
  never_refused all meta (Compile reason) is refused = refused
  never_refused all meta (Script line) is refused = refused

  meta_is_one : IsOneValue ReadsMeta
  meta_is_one = record {
    same = λ all value other is also. one all other value also.means is.means;
    never = never_refused;
  }

-- an input that is shown, and is read as a value, has no other answer
module _ {A : Type 0} (reads : Reading A) (one : IsOneValue reads) (value : A) where
  value_read : (left : Option (List ℕ)) (other : A) → IsReadAs reads left value → IsInput reads left (Ok other) → other ≡ value
  value_read None other read is = absurd read
  value_read (Some all) other read is = one.same all value other read (subst (λ (b : List ℕ). reads b (Ok other)) (sym is.input_is) is.is_answer)

  not_refused : (left : Option (List ℕ)) (error : InputError) → IsReadAs reads left value → IsInput reads left (Err error) → ⊥
  not_refused None error read is = read
  not_refused (Some all) error read is = one.never all value error read (subst (λ (b : List ℕ). reads b (Err error)) (sym is.input_is) is.is_answer)

-- ---- starts

-- each end of a start that was not refused is one of a run
end_of_run : (command : StartCommand) (ended : Status) → IsEndOf command ended → IsEndOfRun ended
end_of_run (commands.Init agent) ended is = subst IsEndOfRun (sym is) tt
end_of_run (commands.Meta meta) ended is = subst IsEndOfRun (sym is) tt
end_of_run (commands.Register name) ended is = subst IsEndOfRun (sym is) tt
end_of_run commands.Pull ended is = is
end_of_run (commands.Push name bytes) ended is = is
end_of_run commands.Consistency ended is = is
end_of_run commands.Boot ended is = is
end_of_run commands.Get ended is = subst IsEndOfRun (sym is) tt
end_of_run commands.Restore ended is = is
end_of_run (commands.Remove stage) ended is = subst IsEndOfRun (sym is) tt
end_of_run commands.Reports ended is = subst IsEndOfRun (sym is) tt

module _ {S K D M L C : Type 0} (o : Known S K D M L C) (further : Further D M C) (law : ValidStartsComplete o.outside) (one : BytesMeanOne)
    (status : Status) (before after : Objects S K D M L C) where
  abbrev Ended : StartCommand → Type 0
  Ended start = IsEndOf start status ⊎ (status ≡ statuses.Memory)

  abbrev IsGood : StartCommand → Type 0
  IsGood start = IsValid o.outside start (outside_of o before) (outside_of o after) × NothingFailed o start before after

  -- such an end is printed, and stays
  printed : (ended : Status) (lines : List ℕ) → (Rose (o.sink.faults before.output) (o.sink.faults after.output) → ⊥) → IsEndOfRun ended
      → StartEnds o.sink ended lines status before.output after.output → status ≡ ended
  printed statuses.Done lines still is (inl prints) = prints.0
  printed statuses.Done lines still is (inr cut) = absurd (still cut.1.rose)
  printed (statuses.NotCompliant count) lines still is (inl prints) = prints.0
  printed (statuses.NotCompliant count) lines still is (inr cut) = absurd (still cut.1.rose)
  printed (statuses.RebootAsked place now) lines still is (inl prints) = prints.0
  printed (statuses.RebootAsked place now) lines still is (inr cut) = absurd (still cut.1.rose)
  printed _ lines still is ends = absurd is

  start_completes : (start : StartCommand) → IsGood start
      → IsStart o.sink o.outside further start status before.output after.output (outside_of o before) (outside_of o after) → Ended start
  start_completes start good s = elim (law start (outside_of o before) (outside_of o after) s.ended s.lines s.start good.0 good.1.node) [
    | inl is ↦ inl (subst (IsEndOf start) (sym (printed s.ended s.lines good.1.output (end_of_run start s.ended is) s.prints)) is)
    | inr memory ↦ inr (subst (λ (e : Status). StartEnds o.sink e s.lines status before.output after.output) memory s.prints).0
  ]

  -- a command without an input
  row_completes : (command start : StartCommand) → start ≡ command → IsGood start → Started command o further status before after → Ended start
  row_completes command start is good row =
      subst Ended (sym is) (start_completes command (subst IsGood is good) row.start)

  -- and one with an input, with what that is read as
  input_completes : {A : Type 0} (reads : Reading A) (command_of : A → StartCommand) → IsOneValue reads → (value : A) → IsReadAs reads (o.source.left before.input) value
      → IsGood (command_of value)
      → InputEnds reads command_of o.source o.sink o.outside further status before.input after.input before.output after.output (outside_of o before) (outside_of o after)
      → Ended (command_of value)
  input_completes {A} reads command_of only value read good (started other is s) =
      start_completes (command_of value) good
      (subst (λ (x : A). IsStart o.sink o.outside further (command_of x) status before.output after.output (outside_of o before) (outside_of o after))
      (value_read reads only value (o.source.left before.input) other read is) s)
  input_completes reads command_of only value read good (unread (unread_by.Refused error) is ends same) =
      absurd (not_refused reads only value (o.source.left before.input) error read is)
  input_completes reads command_of only value read good (unread unread_by.ReadFault is ends same) = absurd (good.1.input is)
  input_completes reads command_of only value read good (unread unread_by.Memory is ends same) = inr ends.0

  push_completes : (name : Option (List ℕ)) (bytes : List ℕ) (start : StartCommand) → IsReadAs (ReadsBytes input_limit) (o.source.left before.input) bytes
      → start ≡ commands.Push name bytes → IsGood start
      → PushEnds o.source o.sink o.outside further name status before.input after.input before.output after.output (outside_of o before) (outside_of o after) → Ended start
  push_completes name bytes start read is good ends =
      subst Ended (sym is)
      (input_completes (ReadsBytes input_limit) (commands.Push name) (bytes_are_one input_limit) bytes read (subst IsGood is good) ends)

  part_completes : (name bytes : List ℕ) (start : StartCommand) → IsReadAs (ReadsBytes input_limit) (o.source.left before.input) bytes
      → start ≡ commands.Push (Some (chars name)) bytes → IsGood start
      → PartEnds o.source o.sink o.outside further name status before.input after.input before.output after.output (outside_of o before) (outside_of o after) → Ended start
  part_completes name bytes start read is good (inl ends) = push_completes (Some (chars name)) bytes start read is good ends
  part_completes name bytes start read is good (inr silent) = inr silent.0.0

  register_completes : (name : List ℕ) (start : StartCommand) → start ≡ commands.Register (chars name) → IsGood start
      → RegisterEnds o.sink o.outside further name status before.output after.output (outside_of o before) (outside_of o after) → Ended start
  register_completes name start is good (inl s) = subst Ended (sym is) (start_completes (commands.Register (chars name)) (subst IsGood is good) s)
  register_completes name start is good (inr silent) = inr silent.0.0

  good_completes : (command : Command) → Did o further command status before after → (start : StartCommand) → StartsBy (o.source.left before.input) command start
      → IsGood start → Ended start
  good_completes words.Test row start by good = absurd by
  good_completes words.Check row start by good = absurd by
  good_completes words.Order row start by good = absurd by
  good_completes words.Canon row start by good = absurd by
  good_completes words.Checksum row start by good = absurd by
  good_completes (words.Compile node) row start by good = absurd by
  good_completes (words.Generate count) row start by good = absurd by
  good_completes (words.Init agent) row start by good = row_completes (commands.Init agent) start by good row
  good_completes words.Meta row start by good =
      subst Ended (sym by.2) (input_completes ReadsMeta commands.Meta (meta_is_one one) by.0 by.1 (subst IsGood by.2 good) row)
  good_completes (words.Register name) row start by good = register_completes name.now start by good row.ends
  good_completes words.Pull row start by good = row_completes commands.Pull start by good row
  good_completes (words.Push None) row start by good = push_completes None by.0 start by.1 by.2 good row
  good_completes (words.Push (Some name)) row start by good = part_completes name.now by.0 start by.1 by.2 good row
  good_completes words.Consistency row start by good = row_completes commands.Consistency start by good row
  good_completes words.Boot row start by good = row_completes commands.Boot start by good row
  good_completes words.Get row start by good = row_completes commands.Get start by good row
  good_completes words.Restore row start by good = row_completes commands.Restore start by good row
  good_completes (words.Remove stage) row start by good = row_completes (commands.Remove stage) start by good row
  good_completes words.Reports row start by good = row_completes commands.Reports start by good row

  pub completes : (command : Command) → Did o further command status before after → Completes o command status before after
  completes command row start by valid still = good_completes command row start by (valid, still)
