use Rattle.memory_outside.specs.declared.disk_calls.DiskPart.TheVariants as parts
use Rattle.memory_outside.proofs.DiskParts.{next_is_image, next_is_only}
use Rattle.memory_outside.proofs.reliable_disk.ReliableDisk.left.Goals as goal

pub returns-clause-image : goal.returns-clause-image
returns-clause-image c = rw (← c.self.view_is) (next_is_image parts.Whole c.self.inside.disk c.new.result (rw c.in_ok-into_part.ensures at c.new.ensures))

pub returns-clause-only : goal.returns-clause-only
returns-clause-only c = next_is_only _ c.new.result c.new.ensures
