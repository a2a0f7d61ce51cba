use Rattle.std.proofs.Common.{sym, arith}
use Rattle.std.proofs.lemmas.List.{take_all}
use Rattle.http_frames.specs.declared.limits.TheConstants.{HEAD_BYTES}
use Rattle.http_frames.proofs.head.front_of.Goals as goal

pub returns-then-bytes-lt-HEAD_BYTES : goal.returns-then-bytes-lt-HEAD_BYTES
returns-then-bytes-lt-HEAD_BYTES c = sym (take_all HEAD_BYTES c.args.bytes.now (omega (arith, c.if-bytes-lt-HEAD_BYTES.true)))
