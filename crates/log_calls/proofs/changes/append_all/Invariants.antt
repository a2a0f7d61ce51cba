use Rattle.std.proofs.Common.{◌≡◌, ◌≤◌, List, ℕ, false, length}
use Rattle.gate_log.specs.Log.{IsLogOf}
use Rattle.log_calls.proofs.changes.append_all.Given as goal

abbrev pub invariant-loop : goal.invariant-loop
invariant-loop g l = record {
  size : length l.body ≤ l.log.shape.largest;
  unspent : l.log.spent ≡ false;
  of : (bodies : List (List ℕ)) × IsLogOf g.D.Disk l.disk l.log bodies;
}
