use Rattle.std.proofs.Common.{◌∙◌}
use Rattle.store_fields.specs.Fields.{bytes_of_flag, IsFlag}
use Rattle.node_store.proofs.ByKind.{WasKept, of_kind}
use Rattle.node_store.proofs.Wholes.{no_front}
use Rattle.node_store.proofs.reading.kept_piece.Goals as goal

pub returns-in-Err-clause-wrong : goal.returns-in-Err-clause-wrong
returns-in-Err-clause-wrong c = λ same read is.
    let p : WasKept c.args.rest.now read = of_kind 14 c.args.rest.now read is in
    no_front bytes_of_flag IsFlag _ _ c.in-Err.error p.0 p.1.1.0 same c.in-Err.ensures.reads tt (c.of-fields.ensures ∙ p.1.1.1.0)
