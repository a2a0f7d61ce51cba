use Rattle.std.proofs.Common.{length, ap, arith}
use Rattle.pull_store.proofs.Sizes.{reports_need}
use Rattle.pull_store.proofs.need.+need_of_reports.Goals as goal

pub returns-in-len1-up-clause-need : goal.returns-in-len1-up-clause-need
returns-in-len1-up-clause-need t c =
    omega (arith, reports_need c.args.agent c.args.reports.now c.first-item.result c.in-len1-up.len_at_least c.first-item.is, ap length c.as_slice.ensures, c.need_of_reports.ensures.need)
