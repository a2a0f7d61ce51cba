use Rattle.std.proofs.Common.{◌≡◌, ◌∙◌, List, ℕ, sym, ap, subst}
use Rattle.store_fields.specs.Writing.{Writes}
use Rattle.partial_merge.specs.declared.part.Part.{Part}
use Rattle.node_state.specs.declared.event.Event.{Event}
use Rattle.node_store.specs.Digests.{stage_body}
use Rattle.node_store.specs.Growing.{event_body}
use Rattle.node_store.proofs.ByDigests.{stage_is}
use Rattle.node_store.proofs.spelling.put_event.Goals as goal

pub returns-in-Stage-clause-writes : goal.returns-in-Stage-clause-writes
returns-in-Stage-clause-writes c =
    let body : stage_body c.parts.result.now ≡ event_body c.args.event.now =
    ap (λ (parts : List Part). stage_body parts) c.parts.ensures ∙ ap (λ (event : Event). event_body event) (sym c.in-Stage.is) in
    subst (λ (bytes : List ℕ). Writes bytes c.args.into.now c.put_stage_by_digests.new.into c.put_stage_by_digests.result) (stage_is c.parts.result.now ∙ body)
    c.put_stage_by_digests.ensures.writes
