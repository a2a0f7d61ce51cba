use Rattle.std.proofs.Common.{◌≡◌, ◌∙◌, ◌++◌, ◌∷◌, ℕ, List, length, ap, sym, subst}
use Rattle.partial_merge.specs.declared.part.Part.{Part}
use Rattle.node_state.specs.Lists.{IsStaged}
use Rattle.node_store.specs.Digests.{stage_body}
use Rattle.node_store.specs.Growing.{marks_of}
use Rattle.node_store.proofs.ByDigests.{stage_is}
use Rattle.node_store.proofs.lists.keep.Goals as goal

pub invariant_of-push : goal.invariant_of-push
invariant_of-push c =
    let parts : List Part = c.as_slice.result.now in
    let same : c.args.parts.now ≡ c.in_ok-parts.parts = sym c.in_ok-parts.ensures in
    record {
      staged = subst (λ (l : List Part). IsStaged l) same c.requires;
      is = c.in_ok-put_stage_by_digests.ensures.writes.items ∙ ap (λ (l : List ℕ). l ++ (17 ∷ length parts ∷ marks_of parts)) c.new-stage.ensures.items ∙ stage_is parts ∙ ap stage_body (c.as_slice.ensures ∙ same);
    }
