use Rattle.std.proofs.Common.{length, string_bytes}
use Rattle.mof_syntax.specs.Canonical.{canonical_property}
use Rattle.mof_codec.specs.Written.{PropertyIsValid}
use Rattle.mof_codec.proofs.Writing.{WrittenUpTo}
use Rattle.mof_codec.proofs.writer.declarations.push_properties.Given as goal

abbrev pub invariant-loop-left : goal.invariant-loop-left
invariant-loop-left l = WrittenUpTo canonical_property PropertyIsValid (string_bytes l.fn.out) (string_bytes l.out) l.properties l.left

abbrev pub decreases-loop-left : goal.decreases-loop-left
decreases-loop-left l = length l.left
