use Rattle.std.proofs.Common.{inl, inr, refl}
use Rattle.node_pull.proofs.GoingOn.{stays}
use Rattle.lcm_program.specs.Objects.{known, objects}
use Rattle.lcm_program.specs.Further.{nothing_further}
use Rattle.lcm_program.specs.Words.{IsForm}
use Rattle.lcm_program.proofs.Completing.{completes}
use Rattle.lcm_program.proofs.Forms.{in_range}
use Rattle.lcm_program.proofs.OneRow.{one_row}
use Rattle.lcm_program.proofs.Standing.{stays_standing}
use Rattle.lcm_program.proofs.Tools.{did_nothing}
use Rattle.lcm_program.proofs.program.node_words.Goals as goal

-- arguments that are in a form ask for one command

pub do_command-requires-clause-range : goal.do_command-requires-clause-range
do_command-requires-clause-range g c = in_range c.in-Ok.command _ c.in-Ok.ensures.ok

pub returns-in-Ok-clause-asked : goal.returns-in-Ok-clause-asked
returns-in-Ok-clause-asked g c = inl (c.in-Ok.command, c.in-Ok.ensures.ok)

pub returns-in-Ok-clause-did : goal.returns-in-Ok-clause-did
returns-in-Ok-clause-did g c = λ command form.
    one_row (known g.S.Ends g.K.Ends g.D.Disk g.M.Resources g.M.Machine g.L.Link g.C.Clock) nothing_further c.do_command.result
    (objects c.args.input.now c.args.output.now c.args.disk.now c.args.machine.now c.args.link.now c.args.clock.now)
    (objects c.do_command.new.input c.do_command.new.output c.do_command.new.disk c.do_command.new.machine c.do_command.new.link c.do_command.new.clock)
    c.in-Ok.command command _ c.in-Ok.ensures.ok form c.do_command.ensures.did

pub returns-in-Ok-clause-completes : goal.returns-in-Ok-clause-completes
returns-in-Ok-clause-completes g c = λ command form.
    completes (known g.S.Ends g.K.Ends g.D.Disk g.M.Resources g.M.Machine g.L.Link g.C.Clock) nothing_further c.valid_starts_complete.ensures c.metas_read_back.ensures.one c.do_command.result
    (objects c.args.input.now c.args.output.now c.args.disk.now c.args.machine.now c.args.link.now c.args.clock.now)
    (objects c.do_command.new.input c.do_command.new.output c.do_command.new.disk c.do_command.new.machine c.do_command.new.link c.do_command.new.clock)
    command (returns-in-Ok-clause-did g c command form)

pub returns-in-Ok-clause-again : goal.returns-in-Ok-clause-again
returns-in-Ok-clause-again g c =
    stays_standing (known g.S.Ends g.K.Ends g.D.Disk g.M.Resources g.M.Machine g.L.Link g.C.Clock) nothing_further c.do_command.result
    (objects c.args.input.now c.args.output.now c.args.disk.now c.args.machine.now c.args.link.now c.args.clock.now)
    (objects c.do_command.new.input c.do_command.new.output c.do_command.new.disk c.do_command.new.machine c.do_command.new.link c.do_command.new.clock)
    c.in-Ok.command c.do_command.ensures.did

pub returns-in-Ok-clause-nothing : goal.returns-in-Ok-clause-nothing
returns-in-Ok-clause-nothing g c = λ none. absurd (none c.in-Ok.command c.in-Ok.ensures.ok)

-- arguments that are in no form ask for none

pub returns-in-Err-clause-asked : goal.returns-in-Err-clause-asked
returns-in-Err-clause-asked g c = inr c.in-Err.ensures.usage.no_form

pub returns-in-Err-clause-did : goal.returns-in-Err-clause-did
returns-in-Err-clause-did g c = λ command form. absurd (c.in-Err.ensures.usage.no_form command form)

pub returns-in-Err-clause-completes : goal.returns-in-Err-clause-completes
returns-in-Err-clause-completes g c = λ command form. absurd (c.in-Err.ensures.usage.no_form command form)

pub returns-in-Err-clause-nothing : goal.returns-in-Err-clause-nothing
returns-in-Err-clause-nothing g c = λ none.
    did_nothing (known g.S.Ends g.K.Ends g.D.Disk g.M.Resources g.M.Machine g.L.Link g.C.Clock)
    (objects c.args.input.now c.args.output.now c.args.disk.now c.args.machine.now c.args.link.now c.args.clock.now)
    (objects c.args.input.now c.print_status.new.output c.args.disk.now c.args.machine.now c.args.link.now c.args.clock.now)
    IsForm _ c.in-Err.field-0.word c.print_status.result refl (record { offline = record { disk = refl; link = refl; clock = refl }; machine = refl }) c.in-Err.ensures.usage c.print_status.ensures

pub returns-in-Err-clause-goes_on : goal.returns-in-Err-clause-goes_on
returns-in-Err-clause-goes_on g c = stays _
