use Rattle.std.proofs.Common.{◌-◌, ◌≡◌, ℕ, ◌+◌, ◌≤◌, max, Bool, List, length, IfSome}
use Rattle.dsc_outside.specs.Disk.{Each, AnyMoment}
use Rattle.gate_log.specs.declared.shape.Shape.{Shape}
use Rattle.std.specs.Prelude.{option_map}
use Rattle.gate_log.specs.Bytes.{with_zeros}
use Rattle.gate_log.specs.Text.{Holds, IsText}
use Rattle.gate_log.proofs.rewriting.fill_up.Given as goal

abbrev pub invariant-loop-end : goal.invariant-loop-end
invariant-loop-end g l = record {
  size : length l.buffer ≡ length l.fn.buffer;
  past : l.long ≤ l.end;
  upper : l.end ≤ max l.long l.to;
  end : IfSome (g.D.Disk.shown l.disk) (λ held. l.end ≡ length held);
  bytes : g.D.Disk.shown l.disk ≡ option_map (with_zeros l.end) (g.D.Disk.shown l.fn.disk);
  holds : (at : ℕ) (bytes : List ℕ) → IfSome (g.D.Disk.shown l.fn.disk) (Holds at bytes) → IfSome (g.D.Disk.shown l.disk) (Holds at bytes);
  ok : (shape : Shape) (second : Bool) (closed : ℕ) (bodies : List (List ℕ)) → closed + 1 ≤ l.long → Each (g.D.Disk.images l.fn.disk) (λ c. IsText shape second closed c bodies) → Each (g.D.Disk.images l.disk) (λ c. IsText shape second closed c bodies);
  any_moment : (shape : Shape) (second : Bool) (closed : ℕ) (bodies : List (List ℕ)) → closed + 1 ≤ l.long → Each (g.D.Disk.images l.fn.disk) (λ c. IsText shape second closed c bodies)
      → AnyMoment g.D.Disk.moment g.D.Disk.left_since l.fn.disk l.disk (λ c. IsText shape second closed c bodies);
  count : g.D.Disk.faults l.fn.disk ≤ g.D.Disk.faults l.disk;
}

abbrev pub decreases-loop-end : goal.decreases-loop-end
decreases-loop-end g l = l.to - l.end
