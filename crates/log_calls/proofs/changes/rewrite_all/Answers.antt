use Rattle.std.proofs.Common.{◌≤◌, ◌++◌, ◌∷◌, [], length, sym, subst}
use Rattle.gate_log.specs.declared.shape.Shape.{Shape}
use Rattle.log_calls.proofs.changes.rewrite_all.Goals as goal

pub loop-preserved : goal.loop-preserved
loop-preserved g c =
    let l = c.loop.invariant in
    let done = c.in_ok-put.ensures in
    record {
      size = subst (λ (s : Shape). length c.args.body.now ≤ s.largest) (sym done.answer.shape) l.size;
      unspent = done.answer.spent;
      of = (l.of.0, done.ok l.of.0 l.of.1);
      put = (l.put.0 ++ c.args.body.now ∷ [], done.put l.put.0 l.put.1);
    }
