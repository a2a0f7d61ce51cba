use Rattle.lcm_core.proofs.Lasting.{lasting_comply, reboots_few}
use Rattle.lcm_core.proofs.laws.lasting_laws.Goals as goal

pub returns : goal.returns
returns c = record { comply = lasting_comply; few = reboots_few }
