use Rattle.std.proofs.Common.{ap, ◌+◌, ◌∙◌, ℕ, string_bytes, map}
use Rattle.rehearsal.specs.Living.{world_of}
use Rattle.rehearsal.proofs.Started.{ends_or_stops}
use Rattle.rehearsal.proofs.starting.start_to_stop.Goals as goal

pub returns-clause-ends : goal.returns-clause-ends
returns-clause-ends g c =
    let ran = c.run_to_stop-ran.result in
    let ready = c.in_ok-ready.ready in
    ends_or_stops g.S.Starter c.args.words.now (map string_bytes c.in_ok-asked.asked.words.items) c.args.input.now c.in_ok-asked.asked.input.items c.args.live ran.number ran.name.now ran.link
    (world_of c.in_ok-world.world) c.in_ok-row.row c.requires.between c.in_ok-asked.ensures.words c.in_ok-asked.ensures.input
    (c.run_to_stop-ran.ensures.number ∙ ap (λ (n : ℕ). n + 1) c.in_ok-ready.ensures.starts) c.in_ok-world.ensures.server
    c.args.stop.part ready.server ready.disk ran.disk ready.host ran.host c.ending_of-ending.result c.stop_has_come.result
    c.in_ok-ready.ensures.server c.in_ok-ready.ensures.disk c.in_ok-ready.ensures.host c.run_to_stop-ran.ensures.ran
    c.in_ok-lasted_to_stop.ensures.disk c.in_ok-lasted_to_stop.ensures.host c.stop_has_come.ensures.stopped c.stop_has_come.ensures.unfailed
    c.in_ok-world.ensures.left c.ending_of-ending.ensures c.in_ok-row.ensures
