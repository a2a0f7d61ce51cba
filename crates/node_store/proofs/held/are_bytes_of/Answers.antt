use Rattle.std.proofs.Common.{◌≡◌, ◌∷◌, ◌++◌, ◌-◌, ℕ, List, Bor, take, drop, length, sym, subst}
use Rattle.std.specs.List.{AllByRecursion}
use Rattle.std.proofs.lemmas.Option.{MatchOption-at_some}
use Rattle.partial_merge.specs.declared.part.Part.{Part}
use Rattle.node_store.specs.Held.{AreBytesOf}
use Rattle.node_store.specs.Parts.{bytes_of_part, FitsPart, IsPart}
use Rattle.node_store.proofs.HeldLists.{left_is, more_bytes}
use Rattle.node_store.proofs.held.are_bytes_of.Goals as goal

pub loop-left-preserved : goal.loop-left-preserved
loop-left-preserved c =
    let l = c.loop-left in
    let left : List Part = l.left.now in
    let after : List ℕ = l.after.now in
    let part : Part = c.part-item.result in
    let rest : List Part = take (length left - 1) (drop 1 left) in
    let is : left ≡ part ∷ rest = left_is left part c.in-len1-up.len_at_least c.part-item.is in
    let stands = MatchOption-at_some _ (λ (more : Bor (List ℕ)). IsPart part × (after ≡ bytes_of_part part ++ more.now)) c.in-Some.more c.in-Some.is c.in_ok-more.ensures in
    let step = more_bytes part rest after c.in-Some.more.now stands.0 stands.1 in (
      (
        λ are. step.0 (subst (λ (parts : List Part). AreBytesOf parts after) is (l.invariant.0.0 are)),
        λ are. l.invariant.0.1 (subst (λ (parts : List Part). AreBytesOf parts after) (sym is) (step.1 are)),
      ),
      (subst (λ (parts : List Part). AllByRecursion FitsPart parts) is l.invariant.1).1,
    )
