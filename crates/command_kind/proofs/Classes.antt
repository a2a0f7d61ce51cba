-- A command is of no kind of a host's resources.
use Rattle.std.proofs.Common.{◌≡◌, ℕ, true, List, Option, Some, None, ap}
use Rattle.std.specs.Prelude.{bytes_eq, codes, if◌then◌else◌}
use Rattle.std.proofs.lemmas.Slice.Eq.{bytes_eq-Decides}
use Rattle.mof_values.specs.Fold.{fold_case}
use Rattle.dsc_document.specs.declared.document.Resource.{Resource}
use Rattle.resource_kinds.specs.declared.tables.Kind.{Kind}
use Rattle.resource_kinds.specs.declared.tables.Kind.TheVariants as kinds
use Rattle.resource_kinds.specs.Tables.{kind_of}
use Rattle.resource_kinds.specs.Wanted.{of_kind}
use Rattle.command_kind.specs.HostLaws.{CommandsAreOfNoKind}
use Rattle.command_kind.specs.Tables.{is_command}

-- the kind of a class, by its fold
abbrev kind_by_fold : List ℕ → Option Kind
kind_by_fold fold =
    if bytes_eq fold (fold_case (codes "MSFT_FileDirectoryConfiguration")) then Some kinds.File
    else if bytes_eq fold (fold_case (codes "MSFT_EnvironmentResource")) then Some kinds.Environment
    else if bytes_eq fold (fold_case (codes "MSFT_LogResource")) then Some kinds.Log
    else None

of_no_kind : (resource : Resource) → is_command resource.instance ≡ true → kind_of resource.instance ≡ None
of_no_kind resource is =
    let same = (bytes_eq-Decides (fold_case resource.instance.class) (fold_case (codes "DSC_CommandResource"))).0 is in
    ap kind_by_fold same

pub commands_of_no_kind : CommandsAreOfNoKind
commands_of_no_kind resource is = ap (λ (kind : Option Kind). of_kind kind resource) (of_no_kind resource is)
