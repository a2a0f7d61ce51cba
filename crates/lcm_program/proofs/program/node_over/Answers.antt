use Rattle.std.proofs.Common.{refl}
use Rattle.rehearsal.specs.Playing.{IsPlayed}
use Rattle.lcm_program.specs.Objects.{known, objects}
use Rattle.lcm_program.specs.Rehearse.{AnswersRehearsal, ReadsScript}
use Rattle.lcm_program.specs.Words.{to_do, to_rehearse}
use Rattle.lcm_program.specs.contracts.rehearse.NodeStarterStarter.TheImpl as starters
use Rattle.lcm_program.proofs.Asking.{nothing_of_both}
use Rattle.lcm_program.proofs.Readings.{shown_decides}
use Rattle.lcm_program.proofs.Rehearsing.{script_decides}
use Rattle.lcm_program.proofs.Tools.{ran_tool}
use Rattle.lcm_program.proofs.program.node_over.Goals as goal

-- the arguments ask for a rehearsal

pub returns-in-Ok-true-clause-rehearsed : goal.returns-in-Ok-true-clause-rehearsed
returns-in-Ok-true-clause-rehearsed g c = λ is.
    ran_tool (known g.S.Ends g.K.Ends g.D.Disk g.M.Resources g.M.Machine g.L.Link g.C.Clock)
    (objects c.args.input.now c.args.output.now c.args.disk.now c.args.machine.now c.args.link.now c.args.clock.now)
    (objects c.read_and_play.new.input c.print_answer.new.output c.args.disk.now c.args.machine.now c.args.link.now c.args.clock.now)
    (AnswersRehearsal starters.ghosts) (shown_decides ReadsScript (IsPlayed starters.ghosts) (script_decides c.one_reading.ensures.never c.one_reading.ensures.line))
    (λ text. text.items) c.read_and_play.result c.print_answer.result
    (record { offline = record { disk = refl; link = refl; clock = refl }; machine = refl })
    c.read_and_play.ensures.ok c.read_and_play.ensures.err c.print_answer.ensures.ok c.print_answer.ensures.err

pub returns-in-Ok-true-clause-nothing : goal.returns-in-Ok-true-clause-nothing
returns-in-Ok-true-clause-nothing g c = λ none. absurd (none to_rehearse (c.in-Ok-true.ensures.yes c.in-Ok-true.field-0-test))

-- they begin with another word

pub returns-in-Ok-false-clause-nothing : goal.returns-in-Ok-false-clause-nothing
returns-in-Ok-false-clause-nothing g c = λ none.
    nothing_of_both _ (c.in-Ok-false.ensures.no c.in-Ok-false.field-0-test)
    (known g.S.Ends g.K.Ends g.D.Disk g.M.Resources g.M.Machine g.L.Link g.C.Clock)
    (objects c.args.input.now c.args.output.now c.args.disk.now c.args.machine.now c.args.link.now c.args.clock.now)
    (objects c.node_words.new.input c.node_words.new.output c.node_words.new.disk c.node_words.new.machine c.node_words.new.link c.node_words.new.clock)
    c.node_words.result (c.node_words.ensures.nothing (λ command form. none (to_do command) form))

-- another word follows `rehearse`

pub returns-in-Err-clause-did : goal.returns-in-Err-clause-did
returns-in-Err-clause-did g c = λ command form. absurd (c.in-Err.ensures.usage.no_form (to_do command) form)

pub returns-in-Err-clause-completes : goal.returns-in-Err-clause-completes
returns-in-Err-clause-completes g c = λ command form. absurd (c.in-Err.ensures.usage.no_form (to_do command) form)

pub returns-in-Err-clause-rehearsed : goal.returns-in-Err-clause-rehearsed
returns-in-Err-clause-rehearsed g c = λ is. absurd (c.in-Err.ensures.usage.no_form to_rehearse is)
