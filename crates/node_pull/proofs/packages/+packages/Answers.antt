use Rattle.std.proofs.lemmas.List.{take_rest}
use Rattle.http_frames.proofs.PassedOn.{passed_on}
use Rattle.node_pull.proofs.PackageRows.{at_end, at_error, at_one}
use Rattle.node_pull.proofs.PartRows.{first_name}
use Rattle.node_pull.proofs.packages.+packages.Goals as goal

pub returns-in_default-clause-packages : goal.returns-in_default-clause-packages
returns-in_default-clause-packages g t c = at_end g.M.Machine.packages g.M.Resources.faults c.args.server.now c.args.modules.now _ c.args.machine.now c.in_default.len_below

pub returns-clause-packages : goal.returns-clause-packages
returns-clause-packages g t c =
    at_one g.M.Machine.packages g.M.Resources.faults c.args.server.now c.args.modules.now _ c.wanted-item.result _ _ _ c.args.machine.now _ _ c.packages.result
    (first_name c.args.modules.now c.wanted-item.result c.in-len1-up.len_at_least c.wanted-item.is) (take_rest c.args.modules.now 1) c.in_ok-one_package.ensures.one c.in_ok-one_package.ensures.later c.packages.ensures.packages

pub returns-in_err-one_package-clause-packages : goal.returns-in_err-one_package-clause-packages
returns-in_err-one_package-clause-packages g t c = rw (passed_on c.in_err-one_package.field-0.0 c.from_residual.result c.from_residual.ensures.1)
    (at_error g.M.Machine.packages g.M.Resources.faults c.args.server.now c.args.modules.now c.wanted-item.result _ _ c.args.machine.now _ c.in_err-one_package.field-0.0
    (first_name c.args.modules.now c.wanted-item.result c.in-len1-up.len_at_least c.wanted-item.is) c.in_err-one_package.ensures.one)
