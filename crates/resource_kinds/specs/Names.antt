-- The names of faults.
use Rattle.std.specs.Prelude.{ℕ, List, codes}
use Rattle.resource_kinds.specs.declared.entry.Failure.{Failure}
use Rattle.resource_kinds.specs.declared.entry.Failure.TheVariants.{NoSuchResource, OutOfProfile, BadPath, InTheWay, HostFailed}

abbrev pub failure_name : Failure → List ℕ
failure_name NoSuchResource = codes "NoSuchResource"
failure_name (OutOfProfile name) = codes "OutOfProfile"
failure_name BadPath = codes "BadPath"
failure_name InTheWay = codes "InTheWay"
failure_name HostFailed = codes "HostFailed"
