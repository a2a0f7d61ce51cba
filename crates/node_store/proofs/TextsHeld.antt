-- The texts of a node that was opened are held.
use Rattle.std.proofs.Common.{◌≡◌, ℕ, Bool, true, false, Some, List, ◌++◌, sym, ap, refl, subst}
use Rattle.node_state.specs.declared.node.Node.{Node}
use Rattle.node_store.specs.Bank.{blobs_as}
use Rattle.node_store.specs.Digests.{Blobs, texts_in, texts_of_node}
use Rattle.node_store.specs.Growing.{AllAmong}
use Rattle.node_store.proofs.Lacking.{all_both, all_more}

-- those of a slot are there then, after those that were there
abbrev pub IsHeld : Blobs → List (List ℕ) → Blobs → Type 0
IsHeld old texts new = AllAmong new texts × ((more : Blobs) × (new ≡ old ++ more))

still_there : (old new : Blobs) (texts : List (List ℕ)) → (more : Blobs) × (new ≡ old ++ more) → AllAmong old texts → AllAmong new texts
still_there old new texts (more, is) all = subst (λ (b : Blobs). AllAmong b texts) (sym is) (all_more old more texts all)

module _ (none first second third : Blobs) (node : Node) where
  pub all_held : IsHeld none (texts_in node.pending) first → IsHeld first (texts_in node.current) second → IsHeld second (texts_in node.previous) third → AllAmong third (texts_of_node node)
  all_held pending current previous =
      all_both third (texts_in node.pending) _ (still_there second third (texts_in node.pending) previous.1 (still_there first second (texts_in node.pending) current.1 pending.0))
      (all_both third (texts_in node.current) (texts_in node.previous) (still_there second third (texts_in node.current) previous.1 current.0) previous.0)

-- in format 2 they are the Blobs
pub same_blobs : (by_digests : Bool) (all texts : Blobs) → (by_digests ≡ true → all ≡ texts) → blobs_as by_digests texts ≡ blobs_as by_digests all
same_blobs true all texts same = ap (λ (b : Blobs). Some b) (sym (same refl))
same_blobs false all texts same = refl
