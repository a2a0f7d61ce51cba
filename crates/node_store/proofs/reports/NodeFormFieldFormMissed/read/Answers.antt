use Rattle.std.proofs.Common.{◌∙◌, append_assoc}
use Rattle.store_fields.specs.Fields.{bytes_of_text}
use Rattle.store_fields.proofs.Composing.{exit}
use Rattle.node_store.specs.Reports.{bytes_of_missed, bytes_of_reason, IsMissed}
use Rattle.node_store.proofs.reports.NodeFormFieldFormMissed.read.Goals as goal

pub returns-in_err-reason : goal.returns-in_err-reason
returns-in_err-reason c =
    exit bytes_of_missed IsMissed bytes_of_reason _ _ _ _ _ _ _ c.from_residual-in_err-reason.ensures.1 c.in_err-reason.ensures.reads (λ missed rest range is.
    let id = c.in_ok-id.ensures.reads.only missed.id _ range (is ∙ append_assoc (bytes_of_text missed.id) (bytes_of_reason missed.reason) rest) in
    (missed.reason, (rest, (tt, id.1))))
