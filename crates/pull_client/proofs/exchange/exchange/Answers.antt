use Rattle.std.proofs.Common.{subst, sym}
use Rattle.dsc_outside.specs.declared.link.LinkError.{LinkError}
use Rattle.pull_client.proofs.Hearing.{asks_failed}
use Rattle.pull_client.proofs.exchange.exchange.Goals as goal

pub returns-in-Err-Failed-clause-asks : goal.returns-in-Err-Failed-clause-asks
returns-in-Err-Failed-clause-asks g c =
    let ensures = rw c.in-Err-Failed.field-0-is at c.in-Err-Failed.ensures in
    asks_failed c.args.request.now _ _ _ _ _ c.args.server.now c.requires ensures.shown ensures.cause

pub returns-in-Err-TooLong-clause-asks : goal.returns-in-Err-TooLong-clause-asks
returns-in-Err-TooLong-clause-asks g c =
    let ensures = rw c.in-Err-TooLong.field-0-is at c.in-Err-TooLong.ensures in
    asks_failed c.args.request.now _ _ _ _ _ c.args.server.now c.requires ensures.shown ensures.cause

pub returns-clause-asks : goal.returns-clause-asks
returns-clause-asks g c =
    let ensures = rw c.in-Err-Memory.field-0-is at c.in-Err-Memory.ensures in
    asks_failed c.args.request.now _ _ _ _ _ c.args.server.now c.requires ensures.shown ensures.cause
