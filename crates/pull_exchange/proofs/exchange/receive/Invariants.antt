use Rattle.std.proofs.Common.{◌≡◌, ◌≤◌, ◌<◌, ◌-◌, length, true}
use Rattle.std.specs.Io.KnownBytes.{Consumes}
use Rattle.http_frames.specs.Limits.{request_bytes}
use Rattle.http_frames.specs.Frames.{AwaitsRest}
use Rattle.pull_exchange.proofs.exchange.receive.Given as goal

abbrev pub invariant-loop-reader : goal.invariant-loop-reader
invariant-loop-reader g l = record {
  so_far : Consumes (g.X.Ends.left l.fn.conn) (g.X.Ends.left l.conn) l.reader.bytes;
  kept : g.X.Ends.held l.conn ≡ g.X.Ends.held l.fn.conn;
  few : length l.reader.bytes < request_bytes;
  count : l.length ≡ length l.reader.bytes;
  is_open : l.reader.is_open ≡ true;
  awaits : AwaitsRest l.reader.bytes;
  later : g.X.Ends.faults l.fn.conn ≤ g.X.Ends.faults l.conn;
}

abbrev pub decreases-loop-reader : goal.decreases-loop-reader
decreases-loop-reader g l = request_bytes - length l.reader.bytes
