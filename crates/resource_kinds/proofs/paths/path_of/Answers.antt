use Rattle.std.proofs.Common.{◌≡◌, rules}
use Rattle.std.specs.Option.{option_map}
use Rattle.std.specs.Result.{IfOk}
use Rattle.std.specs.String.{string_bytes}
use Rattle.resource_kinds.specs.Paths.{path_of}
use Rattle.resource_kinds.proofs.HostPaths.{path_of_given}
use Rattle.resource_kinds.proofs.paths.path_of.Goals as goal

pub returns-in-Some-clause-host : goal.returns-in-Some-clause-host
returns-in-Some-clause-host c =
    let is : IfOk c.path_after.result (λ path. option_map string_bytes path ≡ path_of c.args.text.now) = search rules in
    path_of_given c.args.text.now c.path_after.result is
