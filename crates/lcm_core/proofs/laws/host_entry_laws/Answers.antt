use Rattle.lcm_core.proofs.HostEntries.{host_entries_last, stays_clear}
use Rattle.lcm_core.proofs.laws.host_entry_laws.Goals as goal

pub returns : goal.returns
returns c =
    let laws = c.set_laws.ensures in
    record {
      clear = stays_clear laws.makes_hold laws.unset laws.clear_stays;
      last = host_entries_last laws.makes_hold laws.unset laws.clear_stays;
    }
