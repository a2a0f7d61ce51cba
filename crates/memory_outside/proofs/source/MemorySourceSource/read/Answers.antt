-- What was copied is the front of what was left, and the rest is after it.
use Rattle.std.proofs.Common.{ap, sym, ◌∙◌}
use Rattle.memory_outside.proofs.Fronts.{left_is, none_is_left}
use Rattle.memory_outside.proofs.source.MemorySourceSource.read.Goals as goal

pub returns-clause-bytes : goal.returns-clause-bytes
returns-clause-bytes c =
    let left = ap (λ s. s.left) c.self.view_is in
    let bytes = c.self.inside.bytes.items in
    let front = rw c.deref.ensures.value at c.copy_front-count.ensures.front in
    (sym left ∙ left_is c.self.inside.at c.copy_front-count.result bytes c.copy_front-count.new.into front, λ none room. none_is_left c.self.inside.at c.copy_front-count.result _ bytes (rw c.deref.ensures.value at c.copy_front-count.ensures.most) none room)
