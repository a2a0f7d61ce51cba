-- Over any machine, where no answer is a fault and what Sets make lasts: a start makes Pending Current or asks for a reboot, and of a list of
-- them that is long enough one makes it Current.
use Rattle.std.proofs.Common.{◌≡◌, ◌⊎◌, inl, inr, ℕ, ◌<◌, List, [], ◌∷◌, length, map, Option, Some, refl, sym, ◌∙◌, ap, subst, arith}
use Rattle.std.specs.Prelude.{IfSome}
use Rattle.std.specs.List.{AllByRecursion}
use Rattle.std.proofs.lemmas.List.{length-map}
use Rattle.dsc_document.specs.declared.document.Document.{Document}
use Rattle.gate_log.specs.Standing.{StandsFor}
use Rattle.meta_config.specs.declared.meta.Meta.{Meta}
use Rattle.partial_merge.specs.declared.part.Part.{Part}
use Rattle.resource_kinds.specs.Trace.{Compliant}
use Rattle.lcm_core.specs.declared.modes.RunEnd.{RunEnd}
use Rattle.lcm_core.specs.declared.modes.RunEnd.TheVariants as ends
use Rattle.lcm_core.specs.declared.modes.RunMode.TheVariants.{Repair}
use Rattle.lcm_core.specs.LastingRuns.{IsRepairToReboot, Lasts, LastingRepairsComply, RebootsAreFew}
use Rattle.lcm_core.specs.Legal.{Legal}
use Rattle.node_state.specs.declared.node.Node.{Node}
use Rattle.node_store.specs.Stands.{Stands}
use Rattle.dsc_node.specs.Complete.{ValidStartsComplete}
use Rattle.dsc_node.specs.LastingStarts.{LastingPremises, LastingStartsConverge, LastingStartsGoOn, Promotes, Reboots, SomePromotes, entries_of}
use Rattle.dsc_node.specs.Ran.{EndsAs}
use Rattle.dsc_node.specs.RepairStarts.{IsPromotedTo, WaitsForBoot}
use Rattle.dsc_node.specs.Starts.{OneStart}
use Rattle.dsc_node.specs.Work.{Known}
use Rattle.dsc_node.proofs.RepairStarts.{PendingRan, RanPending, all_stand, document_is, is_asked, is_done, legal, next_node, promoted_to, ran_pending, waits_on, whole}

module _ {D S C : Type 0} (o : Known D S C) (comply : LastingRepairsComply) (few : RebootsAreFew) (complete : ValidStartsComplete o) where
  -- ---- one start

  module _ (parts : List Part) (document : Document) (node : Node) (one : OneStart o) (p : LastingPremises o parts document node one []) where
    ran : PendingRan o parts node one
    ran = ran_pending o complete parts node one (record {
      tells = p.disk_tells.0;
      reads = p.reads;
      pending = p.pending;
      continues = p.continues;
      enabled = p.enabled;
      repairs = p.repairs.0;
      number = p.numbers.0;
      disk = p.faultless.0.disk;
      clock = p.faultless.0.clock;
      memory = p.faultless.0.memory;
    })

    abbrev r : RanPending o node parts one.before.beside.machine one.after.beside.machine one.status ran.committed
    r = ran.ran

    is_its : document ≡ r.run.document
    is_its = document_is o node parts p.pending one.before.beside.machine one.after.beside.machine one.status ran.committed r document p.merged

    -- a run that came to its last resource
    compliant : r.run.end ≡ ends.Finished → Compliant r.run.document (entries_of o one)
    compliant finished_it = comply r.run.document r.run.order (entries_of o one) (record {
      ordered = r.ran.is_order;
      legal = legal o node parts p.pending one.before.beside.machine one.after.beside.machine one.status ran.committed r;
      whole = whole o node parts p.pending one.before.beside.machine one.after.beside.machine one.status ran.committed r;
      finished = subst (λ (e : RunEnd). EndsAs e (entries_of o one)) finished_it r.ran.ended;
    }) p.faultless.0.entries (subst (λ (x : Document). (q : ℕ) → q < length x.resources → Lasts q (entries_of o one ∷ [])) is_its p.lasts)

    -- a run that ended with a reboot
    abbrev to_reboot : (place : ℕ) → r.run.end ≡ ends.RebootAsked place → IsRepairToReboot document (entries_of o one)
    to_reboot place asked = record {
      order = r.run.order;
      legal = subst (λ (x : Document). Legal x Repair r.run.order (entries_of o one)) (sym is_its)
          (legal o node parts p.pending one.before.beside.machine one.after.beside.machine one.status ran.committed r);
      place = place;
      ends = subst (λ (e : RunEnd). EndsAs e (entries_of o one)) asked r.ran.ended;
    }

    goes_on : Promotes o parts document one ⊎ Reboots o document node one
    goes_on = by r.run.end refl where
      by : (end : RunEnd) → r.run.end ≡ end → Promotes o parts document one ⊎ Reboots o document node one
      by ends.Finished is = inl (record {
        done = is_done o node parts p.pending one.before.beside.machine one.after.beside.machine one.status ran.committed r is (compliant is);
        promoted = all_stand o parts node one ran (IsPromotedTo parts)
            (promoted_to o node parts p.pending one.before.beside.machine one.after.beside.machine one.status ran.committed r is (compliant is));
        compliant = subst (λ (x : Document). Compliant x (entries_of o one)) (sym is_its) (compliant is);
      })
      by (ends.RebootAsked place) is = inr (record {
        repair = to_reboot place is;
        asked = is_asked o node parts p.pending one.before.beside.machine one.after.beside.machine one.status ran.committed r place is;
        waits = all_stand o parts node one ran (WaitsForBoot node)
            (waits_on o node parts p.pending one.before.beside.machine one.after.beside.machine one.status ran.committed r place is);
      })
      by ends.Memory is = absurd (r.goes_on is)

  pub lasting_starts_go_on : LastingStartsGoOn o
  lasting_starts_go_on parts document node one p = goes_on parts document node one p

  -- ---- a list of starts

  -- what is asked of the first alone
  first_alone : (parts : List Part) (document : Document) (node : Node) (first : OneStart o) (starts : List (OneStart o)) → LastingPremises o parts document node first starts
      → LastingPremises o parts document node first []
  first_alone parts document node first starts p = record {
    merged = p.merged;
    disk_tells = (p.disk_tells.0, tt);
    reads = p.reads;
    pending = p.pending;
    continues = p.continues;
    enabled = p.enabled;
    repairs = (p.repairs.0, tt);
    numbers = (p.numbers.0, tt);
    faultless = (p.faultless.0, tt);
    lasts = λ q is_place. (λ front answer rest is. (((p.lasts q is_place).0 front answer rest is).0, tt), tt);
    unchanged = tt;
  }

  module _ (honest : (disk : D) (held : List ℕ) → o.disk.shown disk ≡ Some held → o.disk.images disk held) where
    -- what is asked of the starts after one that asked for a reboot
    module _ (parts : List Part) (document : Document) (node : Node) (one next : OneStart o) (starts : List (OneStart o))
        (p : LastingPremises o parts document node one (next ∷ starts)) (reboots : Reboots o document node one) where
      left_node : StandsFor Stands (WaitsForBoot node) p.disk_tells.1.0.0
      left_node = next_node o honest node one next reboots.waits p.unchanged.0 p.disk_tells.1.0

      next_premises : LastingPremises o parts document left_node.value next starts
      next_premises = record {
        merged = p.merged;
        disk_tells = p.disk_tells.1;
        reads = subst (λ (shown : Option (List ℕ)). IfSome shown (λ h. Stands h left_node.value)) (sym p.disk_tells.1.0.1) left_node.stands;
        pending = left_node.has.pending ∙ p.pending;
        continues = ap (λ (m : Meta). m.after) left_node.has.meta ∙ p.continues;
        enabled = λ disabled. p.enabled (ap (λ (m : Meta). m.refresh) (sym left_node.has.meta) ∙ disabled);
        repairs = p.repairs.1;
        numbers = p.numbers.1;
        faultless = p.faultless.1;
        lasts = λ q is_place. (p.lasts q is_place).1;
        unchanged = p.unchanged.1;
      }

    -- one of them makes Pending Current, or each asks for a reboot
    in_turn : (parts : List Part) (document : Document) (node : Node) (one : OneStart o) (starts : List (OneStart o)) → LastingPremises o parts document node one starts
        → SomePromotes o parts document one starts ⊎ AllByRecursion (IsRepairToReboot document) (map (entries_of o) (one ∷ starts))
    in_turn parts document node one [] p = elim (goes_on parts document node one p) [
      | inl made ↦ inl made
      | inr reboots ↦ inr (reboots.repair, tt)
    ]
    in_turn parts document node one (next ∷ starts) p = elim (goes_on parts document node one (first_alone parts document node one (next ∷ starts) p)) [
      | inl made ↦ inl (inl made)
      | inr reboots ↦
          elim (in_turn parts document (left_node parts document node one next starts p reboots).value next starts (next_premises parts document node one next starts p reboots)) [
            | inl some ↦ inl (inr some)
            | inr all ↦ inr (reboots.repair, all)
          ]
    ]

    pub lasting_starts_converge : LastingStartsConverge o
    lasting_starts_converge parts document node first starts p enough = elim (in_turn parts document node first starts p) [
      | inl some ↦ some
      | inr all ↦
          absurd (omega (arith, few document (map (entries_of o) (first ∷ starts)) all p.lasts, length-map (first ∷ starts) (entries_of o), enough))
    ]
