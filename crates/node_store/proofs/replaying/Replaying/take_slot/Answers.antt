use Rattle.std.proofs.Common.{arith}
use Rattle.node_state.specs.declared.piece.Piece.TheVariants as pieces
use Rattle.node_store.specs.declared.body.Body.TheVariants as kinds
use Rattle.node_store.proofs.BankWritten.{on_ok}
use Rattle.node_store.proofs.KnownLists.{known_more}
use Rattle.node_store.proofs.TakenSo.{body_refused, body_took}
use Rattle.node_store.proofs.replaying.Replaying.take_slot.Goals as goal

pub returns-in-Ok-keep-clause-took : goal.returns-in-Ok-keep-clause-took
returns-in-Ok-keep-clause-took c =
    let old = c.args.self.now.taking in
    let new = c.take_piece.new.self in
    body_took old.node old.begun c.args.self.now.blobs c.args.body.now (kinds.Piece (pieces.Slot c.in-Ok.stage c.in-Ok.parts)) new.node new.begun c.take_piece.result c.requires.apart c.in-Ok.ensures.says c.take_piece.ensures

pub returns-in-Ok-keep-clause-known : goal.returns-in-Ok-keep-clause-known
returns-in-Ok-keep-clause-known c =
    let among = c.in-Ok.ensures.among in
    on_ok c.take_piece.result (known_more c.args.self.now.blobs c.args.self.now.known.items c.keep.new.lists.items c.in-Ok.parts c.requires.known (among.1, among.2) c.in-Ok-keep.ensures)

pub returns-in-Err-Wrong-clause-took : goal.returns-in-Err-Wrong-clause-took
returns-in-Err-Wrong-clause-took c =
    let old = c.args.self.now.taking in
    body_refused old.node old.begun c.args.self.now.blobs c.args.body.now (λ blob. omega (arith, blob, c.requires.kind)) (c.in-Err-Wrong.ensures.wrong c.in-Err-Wrong.field-0-is)
