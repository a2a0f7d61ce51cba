use Rattle.std.proofs.Common.{◌+◌, ◌≤◌, length, string_bytes}
use Rattle.rehearsal.specs.Living.{IsBetween, world_of}
use Rattle.rehearsal.specs.declared.limits.TheConstants.{MAX_SCRIPT}
use Rattle.rehearsal.proofs.Plays.{IsPlayedTo}
use Rattle.rehearsal.proofs.playing.play_from.Given as goal

abbrev pub invariant-loop-left : goal.invariant-loop-left
invariant-loop-left g l =
    IsBetween l.live × (l.live.starts + length l.left ≤ MAX_SCRIPT)
    × IsPlayedTo g.S.Starter (world_of l.fn.first) l.steps (world_of l.live) l.left (string_bytes l.text)

abbrev pub decreases-loop-left : goal.decreases-loop-left
decreases-loop-left g l = length l.left
