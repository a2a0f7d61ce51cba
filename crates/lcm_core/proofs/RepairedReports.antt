-- Why the trace of a run that was never out of memory can be reported.
use Rattle.std.proofs.Common.{◌≡◌, inl, inr, ℕ, ◌+◌, ◌<◌, List, [], ◌∷◌, ◌++◌, length, take, drop, get_or, Some, refl, sym, ◌∙◌, ap, subst}
use Rattle.std.specs.Prelude.{◌≢◌}
use Rattle.std.proofs.lemmas.Option.{none-some, same_Some}
use Rattle.dsc_terms.specs.Lists.{Precedes}
use Rattle.dsc_terms.proofs.Splits.{split_at, split_push}
use Rattle.dsc_document.specs.declared.document.Document.{Document}
use Rattle.resource_kinds.specs.declared.entry.TestAnswer.TheVariants as tests
use Rattle.resource_kinds.specs.declared.entry.SetAnswer.{SetAnswer}
use Rattle.resource_kinds.specs.declared.entry.SetAnswer.TheVariants as sets
use Rattle.resource_kinds.specs.declared.entry.Entry.{Entry}
use Rattle.resource_kinds.specs.declared.entry.Entry.TheVariants.{Tested, Set}
use Rattle.resource_kinds.specs.Trace.{EndsInMemory, HasEntry, IsFinal, WantsMemory, last_entry, place_of}
use Rattle.lcm_core.specs.declared.modes.RunMode.{RunMode}
use Rattle.lcm_core.specs.declared.modes.RunEnd.{RunEnd}
use Rattle.lcm_core.specs.declared.modes.RunEnd.TheVariants as ends
use Rattle.lcm_core.specs.Ends.{IsEnd}
use Rattle.lcm_core.specs.Legal.{Legal}
use Rattle.lcm_core.specs.RepairLaws.{RunsAreReportable, TracesAreReportable}
use Rattle.lcm_core.specs.Whole.{IsReached, Whole}
use Rattle.lcm_core.proofs.OneTurn.{has_split}
use Rattle.lcm_core.proofs.Traces.{ends_with_push, legal_places}
use Rattle.lcm_core.proofs.RepairedEntries.{IsLastOf, final_ends, last_is, last_of, last_over, set_split, test_has}

wants_final : (e : Entry) → WantsMemory e → IsFinal e
wants_final (Tested place answer) wants = wants
wants_final (Set place answer) wants = subst (λ (given : SetAnswer). IsFinal (Set place given)) (sym wants) tt

module _ (document : Document) (mode : RunMode) (order : List ℕ) (trace : List Entry) (legal : Legal document mode order trace) (fed : EndsInMemory trace → ⊥) where
  no_memory : (k : ℕ) (d : Entry) → k < length trace → WantsMemory (get_or trace k d) → ⊥
  no_memory k d lt wants =
      let e = get_or trace k d in
      fed (e, final_ends document mode order trace (take k trace) e (drop (k + 1) trace) legal (split_at trace k d lt) (wants_final e wants), wants)

  module _ (front : List Entry) (r : ℕ) (rest : List Entry) (is : trace ≡ front ++ Set r sets.Done ∷ rest) where
    done_before : (w : List Entry) (p : ℕ) → trace ≡ w ++ Set p sets.Reboot ∷ [] → Precedes order r p
    done_before w p ends =
        let (v, before, first) = set_split document mode order trace legal w p sets.Reboot [] ends in
        elim (split_push w (Set p sets.Reboot) front (Set r sets.Done) rest (sym ends ∙ is)) [
          | inl same ↦ absurd (other same.1)
          | inr more ↦ elim (split_push v (Tested p tests.No) front (Set r sets.Done) more.0 (sym before ∙ more.1)) [
            | inl same ↦ absurd (no_set same.1)
            | inr earlier ↦ first.in_order r (has_split v front (Set r sets.Done) earlier.0 earlier.1)
          ]
        ]
      where
        other : Set p sets.Reboot ≡ Set r sets.Done → ⊥
        other same = absurd cc

        no_set : Tested p tests.No ≡ Set r sets.Done → ⊥
        no_set same = absurd cc

    done_reached : IsReached order trace r
    done_reached (Tested p answer) ends final = absurd (fed (Tested p answer, ends, final))
    done_reached (Set p sets.Done) ends final = absurd final
    done_reached (Set p sets.Reboot) ends final = done_before ends.0 p ends.1
    done_reached (Set p (sets.Fault failure)) ends final = absurd final
    done_reached (Set p sets.Memory) ends final = absurd (fed (Set p sets.Memory, ends, refl))

  module _ (whole : Whole document mode order trace) where
    not_last : (r place : ℕ) (l : IsLastOf trace r) → l.entry ≡ Set place sets.Done → ⊥
    not_last r place l same =
        let is = l.is ∙ ap (λ (e : Entry). l.front ++ e ∷ l.rest) same in
        let here : place ≡ r = ap place_of (sym same) ∙ l.of in
        let again = test_has l.rest place (whole.again l.front place l.rest (done_reached l.front place l.rest is) is) in
        l.last (subst (HasEntry l.rest) here again)

    settled : (r place : ℕ) → last_entry trace r ≡ Some (Set place sets.Done) → ⊥
    settled r place says = elim (last_of trace r) [
      | inl l ↦ not_last r place l (same_Some l.entry (Set place sets.Done) (sym (last_is trace r l) ∙ says))
      | inr none ↦ none-some (Set place sets.Done) (sym (last_over [] trace r none) ∙ says)
    ]

pub traces_reportable : TracesAreReportable
traces_reportable document mode order trace legal whole fed = record {
  known = legal_places document mode order trace legal;
  memory = no_memory document mode order trace legal fed;
  settled = settled document mode order trace legal fed whole;
}

-- the end of a run says whether its last entry is out of memory
end_tells : (mode : RunMode) (end : RunEnd) (trace : List Entry) → end ≢ ends.Memory → IsEnd mode end trace → EndsInMemory trace → ⊥
end_tells mode ends.Finished trace other goes_on (e, last, wants) = goes_on e last (wants_final e wants)
end_tells mode (ends.RebootAsked r) trace other (front, is) (e, last, wants) =
    let same = ends_with_push front (Set r sets.Reboot) e (last.0, sym is ∙ last.1) in
    absurd (no_reboot (subst WantsMemory (sym same) wants))
  where
    no_reboot : sets.Reboot ≡ sets.Memory → ⊥
    no_reboot p = absurd cc
end_tells mode ends.Memory trace other is_end in_memory = absurd (other refl)

pub runs_reportable : RunsAreReportable
runs_reportable document mode order end trace other legal (inl whole) is_end = traces_reportable document mode order trace legal whole (end_tells mode end trace other is_end)
runs_reportable document mode order end trace other legal (inr unbegun) is_end = absurd (other unbegun.ended)
