use Rattle.rehearsal.proofs.Lists.{only_stops_stop, rows_tell_nodes}
use Rattle.rehearsal.proofs.laws.rows_are_true.Goals as goal

pub returns-clause-stops : goal.returns-clause-stops
returns-clause-stops g c = only_stops_stop g.S.Starter

pub returns-clause-nodes : goal.returns-clause-nodes
returns-clause-nodes g c = rows_tell_nodes g.S.Starter c.images_have_one_meaning.ensures.one
