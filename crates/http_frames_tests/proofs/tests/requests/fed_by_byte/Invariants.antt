use Rattle.std.proofs.Common.{◌≡◌, true}
use Rattle.http_frames_tests.proofs.tests.requests.fed_by_byte.Given as goal

abbrev pub invariant-loop-byte : goal.invariant-loop-byte
invariant-loop-byte l = l.reader.is_open ≡ true
