use Rattle.std.proofs.Common.{◌≡◌, ℕ, ◌+◌, ◌<◌, true, false, List, [], ◌∷◌, ◌++◌, length, get_or, drop, Bor, refl, sym, ◌∙◌, ap, subst, map}
use Rattle.std.proofs.lemmas.List.{drop_more}
use Rattle.resource_kinds.specs.Entries.{each_once, is_among}
use Rattle.resource_kinds.specs.EntrySets.{IsSetOf, is_in}
use Rattle.resource_kinds.proofs.SetsOfEntries.{not_false, not_true, takes_again, takes_more}
use Rattle.resource_kinds.proofs.EntryLists.{to_come, to_come-all, to_come-there, to_come-new}
use Rattle.resource_kinds.proofs.entries.each_once.Goals as goal
use Rattle.resource_kinds.proofs.entries.each_once.Goals.{then-branch+in_ok-push, else-branch}

abbrev texts : List (Bor (List ℕ)) → List (List ℕ)
texts = map (λ e. e.now)

texts-push : (xs : List (Bor (List ℕ))) (x : Bor (List ℕ)) → texts xs ++ x.now ∷ [] ≡ texts (xs ++ x ∷ [])
texts-push [] x = refl
texts-push (y ∷ ys) x = ap (λ (l : List (List ℕ)). y.now ∷ l) (texts-push ys x)

module _ (xs once : List (Bor (List ℕ))) (i : ℕ) (d : Bor (List ℕ)) (lt : i < length xs) (so_far : each_once (texts xs) ≡ texts once ++ to_come (texts once) (texts (drop i xs))) where
  next : each_once (texts xs) ≡ texts once ++ to_come (texts once) ((get_or xs i d).now ∷ texts (drop (i + 1) xs))
  next = so_far ∙ ap (λ (l : List (Bor (List ℕ))). texts once ++ to_come (texts once) (texts l)) (drop_more xs i d lt)

  turn-there : is_among (texts once) (get_or xs i d).now ≡ true → each_once (texts xs) ≡ texts once ++ to_come (texts once) (texts (drop (i + 1) xs))
  turn-there there = next ∙ ap (λ (l : List (List ℕ)). texts once ++ l) (to_come-there (texts once) (get_or xs i d).now (texts (drop (i + 1) xs)) there)

  turn-new : is_among (texts once) (get_or xs i d).now ≡ false → each_once (texts xs) ≡ texts (once ++ get_or xs i d ∷ []) ++ to_come (texts (once ++ get_or xs i d ∷ [])) (texts (drop (i + 1) xs))
  turn-new other =
      next ∙ to_come-new (texts once) (get_or xs i d).now (texts (drop (i + 1) xs)) other
      ∙ ap (λ (l : List (List ℕ)). l ++ to_come l (texts (drop (i + 1) xs))) (texts-push once (get_or xs i d))

pub loop-entry-init : goal.loop-entry-init
loop-entry-init c = rw c.new-once.ensures.items (sym (to_come-all (map (λ e. e.now) c.args.entries.now)), c.new-seen.ensures)

pub loop-entry-preserved : goal.loop-entry-preserved
loop-entry-preserved c =
    let first : Bor (List ℕ) = record { ref_ptr = (0, 0); now = [] } in
    let item = get_or c.args.entries.now c.loop-entry.entry-index first in
    let pieces = texts c.loop-entry.once.items in
    let seen = c.loop-entry.invariant.1 in
    let asked = sym (seen item.now) in
    elim c.if-branch.branch [
      | then-branch+in_ok-push w ↦
          let other = asked ∙ not_true (is_in c.loop-entry.seen item.now) (sym c.in_ok-insert.ensures.new ∙ w.if-branch.true) in
          rw (w.once-is, w.in_ok-push.ensures.items) (
            turn-new c.args.entries.now c.loop-entry.once.items c.loop-entry.entry-index first c.loop-entry-test.true c.loop-entry.invariant.0 other,
            subst (IsSetOf c.insert.new.self) (texts-push c.loop-entry.once.items item) (takes_more c.loop-entry.seen c.insert.new.self pieces item.now seen c.in_ok-insert.ensures.put),
          )
      | else-branch w ↦
          let there = asked ∙ not_false (is_in c.loop-entry.seen item.now) (sym c.in_ok-insert.ensures.new ∙ w.if-branch.false) in
          rw w.once-is (
            turn-there c.args.entries.now c.loop-entry.once.items c.loop-entry.entry-index first c.loop-entry-test.true c.loop-entry.invariant.0 there,
            takes_again c.loop-entry.seen c.insert.new.self pieces item.now seen c.in_ok-insert.ensures.put there,
          )
    ]
