use Rattle.std.proofs.Common.{All, take}
use Rattle.store_fields.specs.Fields.{IsDigest}
use Rattle.node_store.proofs.digests.look_at_marks.Given as goal

abbrev pub invariant-loop-mark : goal.invariant-loop-mark
invariant-loop-mark l = All (λ mark. IsDigest mark.digest) (take l.mark-index l.marks)
