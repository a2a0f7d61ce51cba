use Rattle.std.proofs.Common.{refl, sym, ◌∙◌}
use Rattle.pull_client.specs.Heard.{accepted, not_accepted}
use Rattle.pull_client.proofs.Hearing.{refused_answer}
use Rattle.pull_client.proofs.exchange.accepted.Goals as goal

pub returns-then-is_accepted-clause-heard : goal.returns-then-is_accepted-clause-heard
returns-then-is_accepted-clause-heard c =
    accepted c.args.bytes.items c.in-Ok.reply _ c.in-Ok.ensures.whole (sym c.is_accepted.ensures ∙ c.if-is_accepted.true) refl

pub returns-else-is_accepted-clause-heard : goal.returns-else-is_accepted-clause-heard
returns-else-is_accepted-clause-heard c =
    not_accepted c.args.bytes.items c.in-Ok.reply c.in-Ok.ensures.whole (sym c.is_accepted.ensures ∙ c.if-is_accepted.false)

pub returns-in-Err : goal.returns-in-Err
returns-in-Err c =
    let heard = rw (sym c.frame_fault.ensures) at (refused_answer c.args.bytes.items c.in-Err.error c.in-Err.ensures.refused) in
    record { heard = heard.0; answered = heard.1 }
