use Rattle.std.proofs.Common.{rules, arith}
use Rattle.mof_codec.proofs.Options.{of_some, of_none}
use Rattle.mof_codec.proofs.ArraysRead.{array_start, reads_empty, lacks_first, reads_array, array_next, lacks_mark, lacks_capacity, lacks_element}
use Rattle.mof_codec.proofs.values.arrays.array.Goals as goal

pub returns-in-Some-clause-some : goal.returns-in-Some-clause-some
returns-in-Some-clause-some c = rw c.new-elements.ensures.items (reads_empty _ _ c.in-Some.ensures.some)

pub returns-in_default-2-clause-none : goal.returns-in_default-2-clause-none
returns-in_default-2-clause-none c = lacks_first _ c.in_default.ensures.none (of_none _ _ c.in_default-2.is c.in_ok-first.ensures.none)

pub elements-init : goal.elements-init
elements-init c =
    rw (c.in_ok-push.ensures.items, c.new-elements.ensures.items) (search rules, array_start _ _ _ (of_some _ _ _ c.in-Some-2.is c.in_ok-first.ensures.some))

pub returns-in-Some-mark_rest-clause-some : goal.returns-in-Some-mark_rest-clause-some
returns-in-Some-mark_rest-clause-some c = reads_array _ _ _ c.elements.invariant.1 _ c.in-Some-mark_rest.ensures.some

pub returns-in_default-mark_rest-2-clause-none : goal.returns-in_default-mark_rest-2-clause-none
returns-in_default-mark_rest-2-clause-none c =
    lacks_mark _ _ _ c.elements.invariant.1 c.in_default-mark_rest.ensures.none c.in_default-mark_rest-2.ensures.none

pub returns-then-len-eq-MAX_ELEMENTS-clause-none : goal.returns-then-len-eq-MAX_ELEMENTS-clause-none
returns-then-len-eq-MAX_ELEMENTS-clause-none c = lacks_capacity _ _ _ c.elements.invariant.1 _ c.in-Some-mark_rest-2.ensures.some (omega arith)

pub returns-in_default-3-clause-none : goal.returns-in_default-3-clause-none
returns-in_default-3-clause-none c =
    lacks_element _ _ _ c.elements.invariant.1 _ c.in-Some-mark_rest-2.ensures.some (of_none _ _ c.in_default-3.is c.in_ok-element.ensures.none)

pub elements-preserved : goal.elements-preserved
elements-preserved c =
    rw c.in_ok-push-2.ensures.items
    (search rules, array_next _ _ _ c.elements.invariant.1 _ _ _ c.in-Some-mark_rest-2.ensures.some (λ same. omega arith) (of_some _ _ _ c.in-Some-3.is c.in_ok-element.ensures.some))
