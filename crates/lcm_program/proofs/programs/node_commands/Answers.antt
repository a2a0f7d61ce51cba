use Rattle.lcm_program.specs.Objects.{objects}
use Rattle.lcm_program.proofs.OnCommands.{did_on_commands}
use Rattle.lcm_program.proofs.programs.node_commands.Goals as goal

pub returns-clause-did : goal.returns-clause-did
returns-clause-did g c = λ command form.
    did_on_commands g.S.Ends g.K.Ends g.D.Disk g.H.Host g.P.Spawner g.L.Link g.C.Clock
    c.command_laws.ensures.runs c.host_laws.ensures c.set_laws.ensures.makes_hold c.trace_laws.ensures.together
    (objects c.args.input.now c.args.output.now c.args.disk.now c.args.commands.now c.args.link.now c.args.clock.now)
    (objects c.node_over.new.input c.node_over.new.output c.node_over.new.disk c.node_over.new.machine c.node_over.new.link c.node_over.new.clock)
    command c.node_over.result (c.node_over.ensures.did command form)
