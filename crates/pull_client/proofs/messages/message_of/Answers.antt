use Rattle.std.proofs.Common.{List, subst}
use Rattle.std.specs.List.{All}
use Rattle.report_log.specs.declared.report.PartMark.{PartMark}
use Rattle.pull_client.specs.Fitting.{IsMark}
use Rattle.pull_client.proofs.MessagesFit.{fits_if_made}
use Rattle.pull_client.proofs.messages.message_of.Goals as goal

pub returns-clause-fits : goal.returns-clause-fits
returns-clause-fits c =
    fits_if_made c.args.agent c.args.report.now c.made.result (subst (λ (parts : List PartMark). All IsMark parts) c.as_slice.ensures c.look_at_marks.ensures) c.requires c.made.ensures
