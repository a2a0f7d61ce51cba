use Rattle.std.proofs.Common.{refl, ◌∙◌}
use Rattle.rehearsal.specs.Objects.{objects}
use Rattle.rehearsal.proofs.running.run_to_stop.Goals as goal

pub returns-clause-ran : goal.returns-clause-ran
returns-clause-ran g c = record {
  before = objects c.of-input.result c.args.live.disk c.new-kinds.result c.link_to-link.result c.at-clock.result;
  after = objects c.start_to_stop-name.new.input c.start_to_stop-name.new.disk c.start_to_stop-name.new.kinds c.start_to_stop-name.new.link c.start_to_stop-name.new.clock;
  runs = record {
    begins = record {
      input = c.of-input.ensures;
      disk = refl;
      host = c.new-kinds.ensures.host;
      unasked = c.new-kinds.ensures.calls;
      link = c.link_to-link.ensures;
      clock = c.at-clock.ensures ∙ c.from.ensures;
    };
    done = rw c.deref.ensures.value at c.start_to_stop-name.ensures.does;
    becomes = c.start_to_stop-name.ensures.becomes;
  };
  disk_is = refl;
  host_is = c.into_host.ensures;
  link_is = refl;
}
