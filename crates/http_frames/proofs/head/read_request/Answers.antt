use Rattle.std.proofs.Common.{sym, ◌∙◌}
use Rattle.http_frames.proofs.RequestLines.{extra_is_no_request, open_request}
use Rattle.http_frames.proofs.head.read_request.Goals as goal

pub returns-then-begins_extra_line-clause-never : goal.returns-then-begins_extra_line-clause-never
returns-then-begins_extra_line-clause-never c =
    let e = rw c.in-Ok-Partial.field-0-is at c.in-Ok-Partial.ensures in
    extra_is_no_request c.args.front.now e.partial (sym c.begins_extra_line.ensures ∙ c.if-begins_extra_line.true)

pub returns-else-begins_extra_line-clause-more : goal.returns-else-begins_extra_line-clause-more
returns-else-begins_extra_line-clause-more c =
    let e = rw c.in-Ok-Partial.field-0-is at c.in-Ok-Partial.ensures in
    open_request c.args.front.now e.partial e.unfinished (sym c.begins_extra_line.ensures ∙ c.if-begins_extra_line.false)
