use Rattle.std.proofs.Common.{subst, sym}
use Rattle.dsc_outside.specs.Images.{IsImage}
use Rattle.memory_outside.specs.MemoryDisk.{state_of}
use Rattle.memory_outside.specs.HonestDisk.{state_is_honest}
use Rattle.memory_outside.proofs.DiskParts.{part_is_image}
use Rattle.memory_outside.proofs.disk.MemoryDisk.after_stop.Goals as goal

pub returns-clause-image : goal.returns-clause-image
returns-clause-image c = subst (IsImage (state_of c.args.self)) (sym c.in_ok-into_part.ensures) (part_is_image c.self.inside.left (state_of c.args.self) (state_is_honest c.args.self))
