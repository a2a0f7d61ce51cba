use Rattle.std.proofs.Common.{◌≡◌, ◌≤◌, ◌<◌, ◌-◌, ◌+◌, vec_capacity}
use Rattle.dsc_outside.specs.Disk.{Still}
use Rattle.gate_log.specs.Text.{begin}
use Rattle.gate_log.specs.Opening.{HandedUpTo}
use Rattle.gate_log.proofs.reading.read_cells.Given as goal

abbrev pub invariant-loop-size : goal.invariant-loop-size
invariant-loop-size g l = record {
  still : Still g.D.Disk.shown g.D.Disk.images g.D.Disk.moment g.D.Disk.left_since l.fn.disk l.disk;
  count : g.D.Disk.faults l.fn.disk ≤ g.D.Disk.faults l.disk;
  limit : l.limit ≡ begin l.shape l.second + l.shape.bank;
  inside : l.at < l.limit;
  capacity : vec_capacity l.fn.buffer ≤ vec_capacity l.buffer;
  handed : HandedUpTo l.shape l.second (g.D.Disk.shown l.fn.disk) (g.R.Replay.took l.replay) l.at;
}

abbrev pub decreases-loop-size : goal.decreases-loop-size
decreases-loop-size g l = l.end - l.at
