use Rattle.lcm_core.proofs.Rebooted.{clear_repairs_comply, nothing_in_the_way, reboots_come_nearer}
use Rattle.lcm_core.proofs.laws.reboot_laws.Goals as goal

pub returns : goal.returns
returns c =
    let laws = c.set_laws.ensures in
    record {
      clear = nothing_in_the_way laws.clear_stays;
      nearer = reboots_come_nearer laws.unset laws.together laws.clear_stays c.holding_laws.ensures.falls;
      comply = clear_repairs_comply laws.makes_hold laws.clear_stays;
    }
