use Rattle.std.proofs.Common.{◌≡◌, map, take}
use Rattle.http_frames.specs.Heads.{header_at}
use Rattle.http_frames.proofs.head.copy_headers.Given as goal

abbrev pub invariant-loop-span : goal.invariant-loop-span
invariant-loop-span l = l.headers.items ≡ map (header_at l.front) (take l.span-index l.spans)
