use Rattle.std.proofs.Common.{◌∙◌, ◌++◌, ℕ, List, sym, ap}
use Rattle.std.specs.Prelude.{⊤}
use Rattle.node_store.specs.Bodies.{bytes_of_stage}
use Rattle.node_store.proofs.Resolved.{no_slot_body, no_slot_said}
use Rattle.node_store.proofs.Wholes.{no_front}
use Rattle.node_store.proofs.resolving.slot_named.Goals as goal

pub returns-in-Err-clause-wrong : goal.returns-in-Err-clause-wrong
returns-in-Err-clause-wrong c = λ same.
    no_slot_body c.args.blobs.now c.args.body.now c.requires.kind (λ stage rest is.
    no_front bytes_of_stage (λ stage. ⊤) _ _ c.in-Err.error stage rest same c.in-Err.ensures tt (c.of-fields.ensures ∙ c.after_kind.ensures ∙ is))

pub returns-in-Err-staged_by-clause-wrong : goal.returns-in-Err-staged_by-clause-wrong
returns-in-Err-staged_by-clause-wrong c = λ same.
    let start = c.of-fields.ensures ∙ c.after_kind.ensures in
    let stage = c.in-Ok.stage in
    let reads = c.in-Ok.ensures in
    no_slot_said c.args.blobs.now c.args.body.now stage c.rest.result.now (sym start ∙ reads.found.1 ∙ ap (λ (l : List ℕ). bytes_of_stage stage ++ l) (sym c.rest.ensures)) c.requires.kind
    (λ other rest is. c.rest.ensures ∙ (reads.only other rest tt (start ∙ is)).1) (c.in-Err-staged_by.ensures.wrong same)
