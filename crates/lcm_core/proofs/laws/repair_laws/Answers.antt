use Rattle.lcm_core.proofs.Repaired.{faults_contained, repair_succeeds}
use Rattle.lcm_core.proofs.laws.repair_laws.Goals as goal

pub returns : goal.returns
returns c =
    let makes = c.set_laws.ensures.makes_hold in
    record { succeeds = repair_succeeds makes; contained = faults_contained makes }
