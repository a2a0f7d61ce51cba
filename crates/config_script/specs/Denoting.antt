-- What a script gives a node: the instances of a configuration document, a concatenation over the blocks that name it.
use Rattle.std.specs.Prelude.{ℕ, Bool, List, [], ◌∷◌, ◌++◌, Option, Some, None, codes, map, filter, find}
use Rattle.std.specs.List.{flat_map, list_any}
use Rattle.mof_values.specs.Fold.{same_name}
use Rattle.mof_values.specs.declared.instance.Instance.{Instance}
use Rattle.mof_values.specs.declared.instance.Property as mof
use Rattle.mof_values.specs.declared.value.Scalar.TheVariants.{Text}
use Rattle.mof_values.specs.declared.value.Value.TheVariants.{One}
use Rattle.config_script.specs.Scripts.{Property, Resource, Block}

-- a kind of resource, and the class of its instances
pub record Kind : Type 0 where
  pub name : List ℕ
  pub class : List ℕ

abbrev pub file : Kind
file = record { name = codes "File"; class = codes "MSFT_FileDirectoryConfiguration" }

abbrev pub environment : Kind
environment = record { name = codes "Environment"; class = codes "MSFT_EnvironmentResource" }

abbrev pub log : Kind
log = record { name = codes "Log"; class = codes "MSFT_LogResource" }

abbrev pub command : Kind
command = record { name = codes "Command"; class = codes "DSC_CommandResource" }

-- the kinds that a script may hold
abbrev pub kinds : List Kind
kinds = file ∷ environment ∷ log ∷ command ∷ []

-- the kind of that name, by fold
abbrev pub kind_named : List ℕ → Option Kind
kind_named word = find (λ kind. same_name word kind.name) kinds

-- the names of properties that a script may not give
abbrev pub reserved : List (List ℕ)
reserved = codes "ResourceID" ∷ codes "ModuleName" ∷ codes "ModuleVersion" ∷ codes "SourceInfo" ∷ codes "ConfigurationName" ∷ []

abbrev pub is_reserved : List ℕ → Bool
is_reserved name = list_any (same_name name) reserved

abbrev pub text_property : List ℕ → List ℕ → mof.Property
text_property name text = record { name = name; value = One (Text text) }

abbrev pub given : Property → mof.Property
given p = record { name = p.name; value = p.value }

abbrev pub last_properties : List ℕ → List mof.Property
last_properties title =
    text_property (codes "ModuleName") (codes "PSDesiredStateConfiguration")
    ∷ text_property (codes "ModuleVersion") (codes "1.0")
    ∷ text_property (codes "ConfigurationName") title
    ∷ []

-- the instance of a resource of the kind, in the configuration of that name
abbrev pub instance_of : List ℕ → Resource → Kind → Instance
instance_of title resource kind = record {
  class = kind.class;
  alias = None;
  properties = text_property (codes "ResourceID") (codes "[" ++ kind.name ++ codes "]" ++ resource.name)
      ∷ (map given resource.properties ++ last_properties title);
}

abbrev pub instance_list : List ℕ → Resource → Option Kind → List Instance
instance_list title resource None = []
instance_list title resource (Some kind) = instance_of title resource kind ∷ []

-- the instance of a resource, if its kind is known
abbrev pub instances_of : List ℕ → Resource → List Instance
instances_of title resource = instance_list title resource (kind_named resource.kind)

abbrev pub header : List ℕ → Instance
header title = record {
  class = codes "OMI_ConfigurationDocument";
  alias = None;
  properties = text_property (codes "Version") (codes "2.0.0") ∷ text_property (codes "Name") title ∷ [];
}

-- the block names the node, by fold
abbrev pub names_node : List ℕ → Block → Bool
names_node node block = list_any (λ name. same_name name node) block.names

abbrev pub resources_of : List Block → List Resource
resources_of blocks = flat_map (λ block. block.resources) blocks

-- the resources of the blocks that name the node, in their order, and the header
abbrev pub denoted : List ℕ → List Block → List ℕ → List Instance
denoted title blocks node = flat_map (instances_of title) (resources_of (filter (names_node node) blocks)) ++ header title ∷ []
