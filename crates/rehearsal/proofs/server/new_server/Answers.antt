use Rattle.rehearsal.proofs.Worlds.{no_rows}
use Rattle.rehearsal.proofs.server.new_server.Goals as goal

pub returns-in-Ok-clause-new : goal.returns-in-Ok-clause-new
returns-in-Ok-clause-new c = record {
  rows = no_rows c.in_ok-disk.disk c.new.result.items c.in-Ok.store.rows c.in_ok-disk.ensures c.new.ensures.items c.in-Ok.ensures.opened.found;
  kept = c.in-Ok.ensures.opened.kept;
  disk = c.in_ok-lasted.ensures;
  shelf = c.new-in-Ok.ensures;
}
