use Rattle.std.proofs.Common.{◌∙◌}
use Rattle.store_fields.proofs.Composing.{exit}
use Rattle.node_store.specs.Reports.{bytes_of_outcome, bytes_of_result, IsResult}
use Rattle.node_store.proofs.Reported.{result_opened}
use Rattle.node_store.proofs.reports.read_result.Goals as goal

pub returns-in_err-outcome : goal.returns-in_err-outcome
returns-in_err-outcome c =
    exit bytes_of_result IsResult bytes_of_outcome _ _ _ _ _ _ _ c.from_residual.ensures.1 c.in_err-outcome.ensures.reads (λ result rest range is.
    (result.0, (_, (tt, is ∙ result_opened result rest))))
