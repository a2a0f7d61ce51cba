use Rattle.node_pull.proofs.AddedPackages.{packages_are_accepted, packages_are_there}
use Rattle.node_pull.proofs.laws.package_laws.Goals as goal

pub returns-clause-accepted : goal.returns-clause-accepted
returns-clause-accepted g c = packages_are_accepted g.M.Machine.packages g.M.Resources.faults

pub returns-clause-there : goal.returns-clause-there
returns-clause-there g c = packages_are_there g.M.Machine.packages g.M.Resources.faults
