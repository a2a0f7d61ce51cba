use Rattle.std.proofs.Common.{refl, ◌∙◌}
use Rattle.rehearsal.specs.Objects.{objects}
use Rattle.rehearsal.proofs.running.run.Goals as goal

pub returns-clause-ran : goal.returns-clause-ran
returns-clause-ran g c = record {
  before = objects c.of-input.result c.args.live.disk c.new-kinds.result c.link_to-link.result c.at-clock.result;
  after = objects c.start-name.new.input c.start-name.new.disk c.start-name.new.kinds c.start-name.new.link c.start-name.new.clock;
  runs = record {
    begins = record {
      input = c.of-input.ensures;
      disk = refl;
      host = c.new-kinds.ensures.host;
      unasked = c.new-kinds.ensures.calls;
      link = c.link_to-link.ensures;
      clock = c.at-clock.ensures ∙ c.from.ensures;
    };
    done = rw c.deref.ensures.value at c.start-name.ensures.does;
    becomes = c.start-name.ensures.becomes;
  };
  disk_is = refl;
  host_is = c.into_host.ensures;
  link_is = refl;
}
