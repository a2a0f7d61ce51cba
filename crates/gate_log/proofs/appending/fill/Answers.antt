use Rattle.std.proofs.Common.{◌≡◌, ◌++◌, [], ◌∷◌, List, ℕ, length, refl, ◌∙◌, ap}
use Rattle.gate_log.specs.Text.{after_gate}
use Rattle.std.specs.Int.{w32, to_be_bytes}
use Rattle.gate_log.proofs.appending.fill.Goals as goal

is_after : (body : List ℕ) → (to_be_bytes w32 (length body) ++ body) ++ 0 ∷ [] ≡ after_gate body ++ 0 ∷ []
unfolding after_gate
is_after body = refl

pub returns-clause-cell : goal.returns-clause-cell
returns-clause-cell c =
    c.join.ensures.cell ∙ ap (λ (l : List ℕ). (l ++ c.args.body.now) ++ 0 ∷ []) c.to_be_bytes.ensures ∙ is_after c.args.body.now
