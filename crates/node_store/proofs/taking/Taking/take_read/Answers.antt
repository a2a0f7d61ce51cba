use Rattle.node_store.specs.declared.body.Body.TheVariants as kinds
use Rattle.node_store.proofs.Runs.{body_is, took_body}
use Rattle.node_store.proofs.taking.Taking.take_read.Goals as goal

pub returns-in-Ok-Event : goal.returns-in-Ok-Event
returns-in-Ok-Event c =
    took_body _ _ _ _ _ (kinds.Event c.in-Ok-Event.event) _ c.take_event.ensures
    (body_is c.args.body.now c.read_body.result c.in-Ok-Event.field-0 (kinds.Event c.in-Ok-Event.event) c.in-Ok-Event.is c.in-Ok-Event.field-0-is c.read_body.ensures.found)

pub returns-in-Ok-Piece : goal.returns-in-Ok-Piece
returns-in-Ok-Piece c =
    took_body _ _ _ _ _ (kinds.Piece c.in-Ok-Piece.piece) _ c.take_piece.ensures
    (body_is c.args.body.now c.read_body.result c.in-Ok-Piece.field-0 (kinds.Piece c.in-Ok-Piece.piece) c.in-Ok-Piece.is c.in-Ok-Piece.field-0-is c.read_body.ensures.found)
