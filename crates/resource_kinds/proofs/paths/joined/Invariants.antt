use Rattle.std.proofs.Common.{◌≡◌, ◌++◌, map}
use Rattle.std.specs.String.{string_bytes}
use Rattle.resource_kinds.specs.Paths.{drive_segments, joined_path}
use Rattle.resource_kinds.proofs.paths.joined.Given as goal

-- the path so far is that of the drive and the names so far
abbrev pub invariant-loop-name : goal.invariant-loop-name
invariant-loop-name l = string_bytes l.path ≡ joined_path (drive_segments l.parts.drive ++ map (λ s. s.now) l.yielded)
