-- What a link to a server may become is a relation that stays and chains.
use Rattle.std.specs.Prelude.{◌≡◌, ℕ, ◌≤◌, ◌+◌, ◌-◌, ◌^◌, Bool, true, false, List, [], ◌∷◌, ◌++◌, Option}
use Rattle.std.proofs.Common.{refl, ap, sym, subst, ◌∙◌, append_assoc, append-nil}
use Rattle.std.proofs.lemmas.Bool.{false≢true}
use Rattle.std.proofs.Math.Nat.{add-le-add, le-min, le_refl, le_trans, min-le_left, min-le_right}
use Rattle.dsc_terms.specs.Counts.{Rose}
use Rattle.dsc_outside.specs.declared.disk.Disk as disks
use Rattle.dsc_outside.specs.declared.exchange.Exchange.{Exchange}
use Rattle.pull_outside.specs.Shelf.{Contents}
use Rattle.pull_outside.specs.declared.shelf.Shelf as shelves
use Rattle.pull_store.specs.Store.{is_spent}
use Rattle.pull_serving.specs.ServerLink.{Answers, Becomes, ServerInMemory, state_of}
use Rattle.pull_serving.specs.Turn.{State}

answers_both : (shelf : Option Contents) (first mid last : State) (es more : List Exchange) → Answers shelf first es mid → Answers shelf mid more last → Answers shelf first (es ++ more) last
answers_both shelf first mid last [] more here next = subst (λ (s : State). Answers shelf s more last) here next
answers_both shelf first mid last (e ∷ es) more here next = (here.0, here.1, here.2, here.3, answers_both shelf here.0.after mid last es more here.4 next)

module _ (before mid after : ℕ) (first : before ≤ mid) (second : mid ≤ after) where
  rose_before : Rose before mid → Rose before after
  rose_before rose = le_trans rose second

  rose_after : Rose mid after → Rose before after
  rose_after rose =
      let most = 2 ^ 64 - 1 in
      le_trans (le-min (le_trans (min-le_left (before + 1) most) (add-le-add first (le_refl 1))) (min-le_right (before + 1) most)) rose

  rose_by_way : (spent : Bool) → (spent ≡ true → Rose before mid) → (spent ≡ false → Rose mid after) → Rose before after
  rose_by_way true early late = rose_before (early refl)
  rose_by_way false early late = rose_after (late refl)

module _ {D F : Type 0} (d : disks.Ghosts D) (f : shelves.Ghosts F) where
  pub server_stays : (link : ServerInMemory D F) → Becomes d f link link
  server_stays link = record {
    shelf = refl;
    more = [];
    added = sym (append-nil link.exchanges);
    answers = refl;
    disk_count = le_refl (d.faults link.disk);
    shelf_count = le_refl (f.faults link.shelf);
    spent = λ fresh over. absurd (false≢true (sym fresh ∙ over));
  }

  pub server_becomes_on : (before mid after : ServerInMemory D F) → Becomes d f before mid → Becomes d f mid after → Becomes d f before after
  server_becomes_on before mid after first second = record {
    shelf = second.shelf ∙ first.shelf;
    more = first.more ++ second.more;
    added = second.added ∙ ap (λ (all : List Exchange). all ++ second.more) first.added ∙ append_assoc before.exchanges first.more second.more;
    answers = answers_both (f.holds before.shelf) (state_of d f before) (state_of d f mid) (state_of d f after) first.more second.more first.answers
        (subst (λ (s : Option Contents). Answers s (state_of d f mid) second.more (state_of d f after)) first.shelf second.answers);
    disk_count = le_trans first.disk_count second.disk_count;
    shelf_count = le_trans first.shelf_count second.shelf_count;
    spent = λ fresh over.
        rose_by_way (d.faults before.disk) (d.faults mid.disk) (d.faults after.disk) first.disk_count second.disk_count (is_spent mid.store)
        (λ early. first.spent fresh early) (λ late. second.spent late over);
  }
