use Rattle.std.proofs.Common.{ℕ, List, ◌≡◌, ◌∷◌, [], ◌++◌, refl, sym, subst, arith, length-append, true}
use Rattle.pull_messages.specs.Cells.{is_cell}
use Rattle.pull_messages.proofs.Agents.{agent_stops, cells_more, no_cells}
use Rattle.pull_messages.proofs.Escaped.{more_front}
use Rattle.pull_messages.proofs.parts.agent_cells.Goals as goal

pub loop-place-init : goal.loop-place-init
loop-place-init c = ([], refl, no_cells, refl)

pub loop-place-preserved : goal.loop-place-preserved
loop-place-preserved c =
    let before = c.loop-place.invariant in
    let next = c.in-Some.ensures.some in (
      before.0 ++ next.0 ∷ [],
      more_front c.args.chars.now before.0 c.loop-place.left.now (next.0 ∷ []) c.in-Some.rest.now before.1 next.1,
      cells_more before.0 next.0 before.2 (subst (λ (i : ℕ). is_cell i next.0 ≡ true) (sym before.3) next.2),
      omega (arith, before.3, length-append before.0 (next.0 ∷ [])),
    )

pub returns-in-None-clause-stop : goal.returns-in-None-clause-stop
returns-in-None-clause-stop c =
    let before = c.loop-place.invariant in
    agent_stops c.args.chars.now before.0 c.loop-place.left.now before.1 before.2 (omega (arith, before.3, c.loop-place-test.true))
    (subst (λ (i : ℕ). (x : ℕ) (rest : List ℕ) → c.loop-place.left.now ≡ x ∷ rest → is_cell i x ≡ true → ⊥) (sym before.3) c.in-None.ensures.none)
