use Rattle.std.proofs.Common.{rules}
use Rattle.rehearsal.proofs.Worlds.{only_memory}
use Rattle.rehearsal.proofs.slots.read_slots.Goals as goal

pub memory_of-requires : goal.memory_of-requires
memory_of-requires c =
    only_memory c.images_have_one_meaning.ensures.none c.in_ok-disk.disk c.open_store-opened.new.disk c.in_ok-to_vec.field-0.items c.args.image.now
    c.in_ok-disk.ensures (search rules) c.in_ok-lasted.ensures c.requires c.in-Err.error c.in-Err.ensures.cause
