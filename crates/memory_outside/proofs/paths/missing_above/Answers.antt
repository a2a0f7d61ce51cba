use Rattle.std.proofs.lemmas.Bool.{eq-eqb, ne_eqb}
use Rattle.memory_outside.proofs.PathEntries.{missing_more, missing_same}
use Rattle.memory_outside.proofs.paths.missing_above.Goals as goal
use Rattle.memory_outside.proofs.paths.missing_above.Goals.{then-path-at-eq47+in_ok-push_missing, else-path-at-eq47}

pub loop-at-preserved : goal.loop-at-preserved
loop-at-preserved c = elim c.if-path-at-eq47.branch [
  | then-path-at-eq47+in_ok-push_missing w ↦ rw w.missing-is (missing_more c.args.path.now c.loop-at.at c.args.paths.now c.loop-at.missing.items w.push_missing.new.missing.items c.loop-at-test.true (eq-eqb _ 47 w.if-path-at-eq47.true) c.loop-at.invariant w.in_ok-push_missing.ensures)
  | else-path-at-eq47 w ↦ rw w.missing-is (missing_same c.args.path.now c.loop-at.at c.args.paths.now c.loop-at.missing.items c.loop-at-test.true (ne_eqb _ 47 w.if-path-at-eq47.false) c.loop-at.invariant)
]
