use Rattle.std.proofs.Common.{string_bytes}
use Rattle.rehearsal.specs.Living.{world_of}
use Rattle.rehearsal.proofs.Plays.{shelf_step, start_step}
use Rattle.rehearsal.proofs.playing.take_step.Goals as goal

pub returns-in_ok-put_configuration-in-Shelf-clause-leads :
    goal.returns-in_ok-put_configuration-in-Shelf-clause-leads
returns-in_ok-put_configuration-in-Shelf-clause-leads g c =
    shelf_step g.S.Starter c.args.step.now c.in-Shelf.configuration c.in-Shelf.content c.as_str.result.now c.as_slice.result.now (world_of c.args.live)
    (world_of c.in_ok-put_configuration-in-Shelf.field-0) (string_bytes c.args.text.now) c.in-Shelf.is c.as_str.ensures c.as_slice.ensures.bytes
    c.in_ok-put_configuration-in-Shelf.ensures.put

pub returns-in_ok-push_row-in-Start-clause-leads :
    goal.returns-in_ok-push_row-in-Start-clause-leads
returns-in_ok-push_row-in-Start-clause-leads g c =
    start_step g.S.Starter c.args.step.now c.in-Start.words c.as_slice-in-Start.result.now c.in-Start.input c.input_of-input.result.now c.in-Start.stop (world_of c.args.live)
    (world_of c.in_ok-started-in-Start.started.world) c.in_ok-started-in-Start.started.row (string_bytes c.args.text.now) (string_bytes c.push_row.new.out)
    c.in-Start.is c.as_slice-in-Start.ensures c.input_of-input.ensures c.in_ok-started-in-Start.ensures.starts c.in_ok-push_row-in-Start.ensures
