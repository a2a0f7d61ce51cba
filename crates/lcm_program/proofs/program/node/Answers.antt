use Rattle.lcm_program.specs.Objects.{objects}
use Rattle.lcm_program.proofs.OnHost.{did_on_host}
use Rattle.lcm_program.proofs.program.node.Goals as goal

pub returns-clause-did : goal.returns-clause-did
returns-clause-did g c = λ command form.
    did_on_host g.S.Ends g.K.Ends g.D.Disk g.H.Host g.L.Link g.C.Clock c.repair_laws.ensures.succeeds c.repair_laws.ensures.contained c.trace_laws.ensures.together
    (objects c.args.input.now c.args.output.now c.args.disk.now c.args.kinds.now c.args.link.now c.args.clock.now)
    (objects c.node_over.new.input c.node_over.new.output c.node_over.new.disk c.node_over.new.machine c.node_over.new.link c.node_over.new.clock)
    command c.node_over.result (c.node_over.ensures.did command form)
