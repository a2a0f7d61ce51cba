use Rattle.std.proofs.Common.{◌≤◌, ◌++◌, ◌∷◌, [], ap, length, sym, subst}
use Rattle.gate_log.specs.Log.{LogTerm}
use Rattle.log_calls.proofs.changes.append_all.Goals as goal

pub loop-preserved : goal.loop-preserved
loop-preserved g c =
    let l = c.loop.invariant in
    let done = c.in_ok-append.ensures in
    record {
      size = subst (λ (t : LogTerm). length c.args.body.now ≤ t.shape.largest) (sym done.answer) l.size;
      unspent = ap (λ (t : LogTerm). t.spent) done.answer;
      of = (l.of.0 ++ c.args.body.now ∷ [], done.ok l.of.0 l.of.1);
    }
