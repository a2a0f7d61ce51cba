use Rattle.std.proofs.Common.{◌∙◌}
use Rattle.http_frames.proofs.PassedOn.{passed_on}
use Rattle.pull_client.proofs.Hearing.{asks_carried, asks_raised}
use Rattle.pull_client.proofs.fetching.fetch.Goals as goal

pub returns-clause-asks : goal.returns-clause-asks
returns-clause-asks g c =
    asks_carried c.args.server.now c.if-server.false (c.deref.ensures.value ∙ c.in_ok-request.ensures) c.in_ok-reply.ensures.asks c.part_in.ensures.says

pub returns-in_err-reply-clause-asks : goal.returns-in_err-reply-clause-asks
returns-in_err-reply-clause-asks g c = rw (passed_on c.in_err-reply.field-0.0 c.from_residual-in_err-reply.result c.from_residual-in_err-reply.ensures.1)
    (asks_raised c.args.server.now c.if-server.false (c.deref.ensures.value ∙ c.in_ok-request.ensures) c.in_err-reply.ensures.asks)
