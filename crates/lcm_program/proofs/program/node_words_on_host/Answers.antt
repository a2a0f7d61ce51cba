use Rattle.lcm_program.specs.Objects.{objects}
use Rattle.lcm_program.proofs.OnHost.{did_on_host}
use Rattle.lcm_program.proofs.program.node_words_on_host.Goals as goal

pub returns-clause-did : goal.returns-clause-did
returns-clause-did g c = record {
  asked = c.node_words.ensures.asked;
  did = λ command form.
      did_on_host g.S.Ends g.K.Ends g.D.Disk g.H.Host g.L.Link g.C.Clock c.repair_laws.ensures.succeeds c.repair_laws.ensures.contained c.trace_laws.ensures.together
      (objects c.args.input.now c.args.output.now c.args.disk.now c.args.kinds.now c.args.link.now c.args.clock.now)
      (objects c.node_words.new.input c.node_words.new.output c.node_words.new.disk c.node_words.new.machine c.node_words.new.link c.node_words.new.clock)
      command c.node_words.result (c.node_words.ensures.did command form);
  nothing = c.node_words.ensures.nothing;
  completes = c.node_words.ensures.completes;
  becomes = c.node_words.ensures.becomes;
  goes_on = c.node_words.ensures.goes_on;
}
