use Rattle.rehearsal.proofs.Heard.{plays_hear_the_table}
use Rattle.rehearsal.proofs.laws.plays_hear_the_table.Goals as goal

pub returns : goal.returns
returns g c = plays_hear_the_table g.S.Starter c.links_are_heard.ensures
