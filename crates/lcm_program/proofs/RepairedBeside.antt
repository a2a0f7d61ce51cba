-- Why, beside commands, a resource without a fault of its own ends with a Test that answered yes: its entries are of no command, and so true of
-- the host.
use Rattle.std.proofs.Common.{◌≡◌, ℕ, ◌<◌, true, false, not, List, length, slice_get, Option, Some, None, Result, option_and_then, inl, inr, refl, sym, ◌∙◌, ap}
use Rattle.std.specs.Option.{option_map_or}
use Rattle.std.specs.Result.{result_ok}
use Rattle.std.proofs.lemmas.Bool.{cases_Bool}
use Rattle.std.proofs.lemmas.Option.{none-some}
use Rattle.dsc_outside.specs.Host.{HostState}
use Rattle.dsc_document.specs.declared.document.Document.{Document}
use Rattle.dsc_document.specs.declared.document.Resource.{Resource}
use Rattle.depend_order.specs.Documents.{IsOrderOfDocument}
use Rattle.resource_kinds.specs.declared.entry.Failure.{Failure}
use Rattle.resource_kinds.specs.declared.entry.Entry.{Entry}
use Rattle.resource_kinds.specs.declared.wanted.Wanted.{Wanted}
use Rattle.resource_kinds.specs.Apart.{wanted_at}
use Rattle.resource_kinds.specs.Laws.{SetMakesHold}
use Rattle.resource_kinds.specs.Trace.{Succeeded, place_of}
use Rattle.resource_kinds.specs.True.{True}
use Rattle.resource_kinds.specs.Wanted.{wanted_of}
use Rattle.lcm_core.specs.declared.modes.RunMode.TheVariants.{Repair}
use Rattle.lcm_core.specs.Legal.{GoesOn, Legal}
use Rattle.lcm_core.specs.RepairLaws.{ComesTo, IsSound, IsSpared}
use Rattle.lcm_core.specs.Whole.{Whole}
use Rattle.lcm_core.proofs.Repaired.{known_entries}
use Rattle.lcm_core.proofs.WellAnswered.{well_answered_succeed}
use Rattle.command_kind.specs.Laws.{others}
use Rattle.command_kind.specs.Runs.{is_of_command}
use Rattle.command_kind.specs.Tables.{is_command}
use Rattle.command_kind.proofs.Classes.{commands_of_no_kind}

-- ---- a command asks nothing of the host

known_other : (found : Option Resource) (wanted : Wanted) → option_and_then (λ (r : Resource). result_ok (wanted_of r)) found ≡ Some wanted
    → option_map_or (λ (r : Resource). is_command r.instance) found false ≡ false
known_other None wanted is = refl
known_other (Some r) wanted is = elim (cases_Bool (is_command r.instance)) [
  | inl command ↦ absurd (none-some wanted (sym (ap (λ (asks : Result Wanted Failure). result_ok asks) (commands_of_no_kind r command)) ∙ is))
  | inr other ↦ other
]

-- an entry of a resource without a fault of its own is of no command
pub not_of_command : (document : Document) (r : ℕ) (wanted : Wanted) → wanted_at document r ≡ Some wanted → (e : Entry) → place_of e ≡ r → not (is_of_command document e) ≡ true
not_of_command document r wanted asks e of = ap not (known_other (slice_get document.resources (place_of e)) wanted (ap (wanted_at document) of ∙ asks))

-- ---- a repair

-- a repair that came to its last resource, of which the entries of no command are true of a host that shows what it holds
pub record IsRepairBeside (document : Document) (order : List ℕ) (before : HostState) (trace : List Entry) (after : HostState) : Type 0 where
  pub ordered : IsOrderOfDocument document order
  pub legal : Legal document Repair order trace
  pub whole : Whole document Repair order trace
  pub finished : GoesOn trace
  pub is_true : True document before (others document trace) after

-- a sound resource ends with a Test that answered yes, where no entry of it, or of one that it comes to, has a fault of the machine
pub succeeds_beside : (makes : SetMakesHold) (document : Document) (order : List ℕ) (before after : HostState) (trace : List Entry) → IsRepairBeside document order before trace after
    → (r : ℕ) → r < length document.resources → IsSound document r → ((q : ℕ) → ComesTo document r q → IsSpared trace q) → Succeeded trace r
succeeds_beside makes document order before after trace run r is_place sound spared =
    well_answered_succeed document order trace r (record { ordered = run.ordered; legal = run.legal; whole = run.whole; finished = run.finished })
    (λ q comes.
    let known = sound q comes in
    known_entries makes document (λ e. not (is_of_command document e)) before after trace q run.is_true known (not_of_command document q known.0 known.1) (spared q comes))
    is_place
