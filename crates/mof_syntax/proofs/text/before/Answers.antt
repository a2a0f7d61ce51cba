use Rattle.mof_syntax.proofs.Texts.{rest_shorter, boundary_before, chars_before}
use Rattle.mof_syntax.proofs.text.before.Goals as goal

pub overflow_sub-text : goal.overflow_sub-text
overflow_sub-text c = rest_shorter _ _ c.utf8.text c.utf8.rest c.requires

pub range-requires-clause-end_boundary : goal.range-requires-clause-end_boundary
range-requires-clause-end_boundary c = boundary_before _ _ c.utf8.text c.utf8.rest c.requires

pub returns : goal.returns
returns c = rw c.range.ensures.value (chars_before _ _ c.utf8.text c.utf8.rest c.requires)
