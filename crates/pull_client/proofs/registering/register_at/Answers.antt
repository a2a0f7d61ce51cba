use Rattle.std.proofs.Common.{◌∙◌, inl, refl}
use Rattle.http_frames.proofs.PassedOn.{passed_on}
use Rattle.pull_client.proofs.Hearing.{asks_carried, asks_raised}
use Rattle.pull_client.proofs.registering.register_at.Goals as goal

pub returns-clause-asks : goal.returns-clause-asks
returns-clause-asks g c =
    asks_carried c.args.server.now c.if-server.false (c.deref.ensures.value ∙ c.in_ok-request.ensures) c.in_ok-exchange.ensures.asks (inl refl, tt)

pub returns-in_err-exchange-clause-asks : goal.returns-in_err-exchange-clause-asks
returns-in_err-exchange-clause-asks g c = rw (passed_on c.in_err-exchange.field-0.0 c.from_residual-in_err-exchange.result c.from_residual-in_err-exchange.ensures.1)
    (asks_raised c.args.server.now c.if-server.false (c.deref.ensures.value ∙ c.in_ok-request.ensures) c.in_err-exchange.ensures.asks)
