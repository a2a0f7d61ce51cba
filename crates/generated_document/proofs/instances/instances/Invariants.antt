-- The instances so far, and those of the numbers that are left.
use Rattle.std.proofs.Common.{◌≡◌, ◌++◌}
use Rattle.generated_document.specs.Generated.{generated_instances}
use Rattle.generated_document.proofs.instances.instances.Given as goal

abbrev pub invariant-loop-number : goal.invariant-loop-number
invariant-loop-number l = record {
  whole : l.instances.items ++ generated_instances l.number ≡ generated_instances l.count;
}
