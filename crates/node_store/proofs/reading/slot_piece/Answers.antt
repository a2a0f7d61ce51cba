use Rattle.std.proofs.Common.{◌∙◌}
use Rattle.std.specs.Prelude.{⊤}
use Rattle.node_store.specs.Bodies.{bytes_of_stage}
use Rattle.node_store.proofs.ByKind.{Slotted, of_kind}
use Rattle.node_store.proofs.Wholes.{no_front}
use Rattle.node_store.proofs.reading.slot_piece.Goals as goal

pub returns-in-Err-clause-wrong : goal.returns-in-Err-clause-wrong
returns-in-Err-clause-wrong c = λ same read is.
    let p : Slotted c.args.rest.now read = of_kind 13 c.args.rest.now read is in
    no_front bytes_of_stage (λ stage. ⊤) _ _ c.in-Err.error p.0 p.1.1.0 same c.in-Err.ensures tt (c.of-fields.ensures ∙ p.1.1.1.0)
