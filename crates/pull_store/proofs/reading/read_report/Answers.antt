use Rattle.std.proofs.Common.{◌∙◌, length, ap, arith}
use Rattle.pull_store.specs.Bodies.{bytes_of_ids}
use Rattle.pull_store.specs.Sound.{AreIds}
use Rattle.pull_store.proofs.BodiesRead.{none_read, passed_on, report_at}
use Rattle.pull_store.proofs.reading.read_report.Goals as goal

pub returns-in_err-agent-clause-wrong : goal.returns-in_err-agent-clause-wrong
returns-in_err-agent-clause-wrong c = rw (passed_on c.in_err-agent.field-0.0 c.from_residual.result c.from_residual.ensures.1) (λ same change is.
    let p = report_at c.args.rest.now change is in
    none_read bytes_of_ids AreIds c.of-fields.result c.read_ids.new.fields c.in_err-agent.field-0.0 (p.agent, p.job) p.body same c.in_err-agent.ensures p.ids (c.of-fields.ensures ∙ p.spells))

pub returns-then-body-gt-MAX_BYTES-clause-wrong : goal.returns-then-body-gt-MAX_BYTES-clause-wrong
returns-then-body-gt-MAX_BYTES-clause-wrong c = λ same change is.
    let p = report_at c.args.rest.now change is in
    let found = c.in_ok-agent.ensures.only (p.agent, p.job) p.body p.ids (c.of-fields.ensures ∙ p.spells) in
    omega (arith, p.short, ap length found.1, ap length c.rest-body.ensures, c.if-body-gt-MAX_BYTES.true)
