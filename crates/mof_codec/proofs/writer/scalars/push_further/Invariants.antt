use Rattle.std.proofs.Common.{length, string_bytes}
use Rattle.mof_codec.specs.Written.{further_element, ScalarIsValid}
use Rattle.mof_codec.proofs.Writing.{WrittenUpTo}
use Rattle.mof_codec.proofs.writer.scalars.push_further.Given as goal

abbrev pub invariant-loop-left : goal.invariant-loop-left
invariant-loop-left l = WrittenUpTo further_element ScalarIsValid (string_bytes l.fn.out) (string_bytes l.out) l.scalars l.left

abbrev pub decreases-loop-left : goal.decreases-loop-left
decreases-loop-left l = length l.left
