use Rattle.std.proofs.Common.{sym, subst, arith, refl, ◌≤◌, IsTrue}
use Rattle.http_frames.specs.declared.chunks.Walk.{Walk}
use Rattle.http_frames.specs.Walks.{start, can_fit}
use Rattle.http_frames.proofs.chunks.content.Goals as goal

pub loop-left-init : goal.loop-left-init
unfolding start
loop-left-init c = record {
  same = rw (c.new-content.ensures.items, c.new-walk.ensures) refl;
  fits = subst (λ (w : Walk). IsTrue (can_fit c.args.limits.now w)) (sym c.new-walk.ensures) c.requires.fits;
  line = subst (λ (w : Walk). w.line ≤ w.length) (sym c.new-walk.ensures) (omega arith);
}
