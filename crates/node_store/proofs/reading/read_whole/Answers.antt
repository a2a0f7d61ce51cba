use Rattle.node_store.proofs.Reported.{never}
use Rattle.node_store.proofs.Wholes.{at_rest, more_left, none_whole}
use Rattle.node_store.proofs.reading.read_whole.Goals as goal

pub returns-in-Err-clause-wrong : goal.returns-in-Err-clause-wrong
returns-in-Err-clause-wrong g c = λ same value w.
    none_whole g.F.FieldForm.bytes_of g.F.FieldForm.is_in_range _ _ _ value same c.in-Err.ensures (at_rest g.F.FieldForm.bytes_of g.F.FieldForm.is_in_range _ _ value c.of-fields.ensures w)

pub returns-else-is_empty-clause-wrong : goal.returns-else-is_empty-clause-wrong
returns-else-is_empty-clause-wrong g c = λ same value w.
    more_left g.F.FieldForm.bytes_of g.F.FieldForm.is_in_range _ _ c.in-Ok.value value c.in-Ok.ensures (λ none. never c.is_empty.result (c.is_empty.ensures.1 none) c.if-is_empty.false)
    (at_rest g.F.FieldForm.bytes_of g.F.FieldForm.is_in_range _ _ value c.of-fields.ensures w)
