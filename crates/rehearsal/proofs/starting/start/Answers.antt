use Rattle.std.proofs.Common.{string_bytes, map}
use Rattle.rehearsal.specs.Living.{world_of}
use Rattle.rehearsal.proofs.Started.{ends}
use Rattle.rehearsal.proofs.starting.start.Goals as goal

pub returns-clause-ends : goal.returns-clause-ends
returns-clause-ends g c =
    let ran = c.run-ran.result in
    ends g.S.Starter c.args.words.now (map string_bytes c.in_ok-asked.asked.words.items) c.args.input.now c.in_ok-asked.asked.input.items c.args.live ran.number ran.name.now ran.link
    (world_of c.in_ok-world.world) c.in_ok-row.row c.requires.between c.in_ok-asked.ensures.words c.in_ok-asked.ensures.input c.run-ran.ensures.number c.in_ok-world.ensures.server
    ran.disk ran.host c.ending_of.result c.run-ran.ensures.ran c.in_ok-world.ensures.disk c.in_ok-world.ensures.left c.ending_of.ensures c.in_ok-row.ensures
