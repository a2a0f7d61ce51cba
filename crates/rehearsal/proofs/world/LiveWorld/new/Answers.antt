use Rattle.std.proofs.Common.{sym, ap, ◌∙◌}
use Rattle.memory_outside.specs.MemoryDisk.{held_by}
use Rattle.memory_outside.specs.ReliableDisk.{fresh_disk}
use Rattle.rehearsal.proofs.Worlds.{first_stands}
use Rattle.rehearsal.proofs.world.LiveWorld.new.Goals as goal

pub returns-clause-between : goal.returns-clause-between
returns-clause-between c = record {
  fresh = c.in_ok-new.ensures ∙ ap fresh_disk (sym (ap held_by c.in_ok-new.ensures));
  stands = first_stands c.in_ok-new.field-0 (c.in_ok-new.ensures ∙ ap fresh_disk c.new.ensures.items);
  ready = c.in_ok-new_server.ensures.ready;
}
