-- The canonical instances of a meta-configuration, and their text.
use Rattle.std.specs.Prelude.{ℕ, Bool, true, false, List, [], ◌∷◌, ◌++◌, Option, Some, None, pos, map, codes}
use Rattle.std.specs.Option.{option_map_or}
use Rattle.mof_values.specs.declared.instance.Instance.{Instance}
use Rattle.mof_values.specs.declared.instance.Property.{Property}
use Rattle.mof_values.specs.declared.value.Scalar.{Scalar}
use Rattle.mof_values.specs.declared.value.Scalar.TheVariants as scalars
use Rattle.mof_values.specs.declared.value.Value.{Value}
use Rattle.mof_values.specs.declared.value.Value.TheVariants.{One, Many}
use Rattle.mof_syntax.specs.Canonical.{canonical_bytes}
use Rattle.meta_config.specs.declared.meta.Meta.{Meta}
use Rattle.meta_config.specs.declared.meta.Partial.{Partial}
use Rattle.meta_config.specs.declared.modes.RefreshMode.{RefreshMode}
use Rattle.meta_config.specs.declared.server.Server.{Server}
use Rattle.meta_config.specs.declared.server.Site.{Site}
use Rattle.meta_config.specs.declared.tables.Class.{Class}
use Rattle.meta_config.specs.declared.tables.Class.TheVariants as classes
use Rattle.meta_config.specs.Words.{mode_name, refresh_name, after_name}
use Rattle.meta_config.specs.Tables.{class_name}
use Rattle.meta_config.specs.Urls.{url_of}

-- ---- properties

abbrev pub property : List ℕ → Value → Property
property name value = record { name = name; value = value }

abbrev pub text_property : List ℕ → List ℕ → Property
text_property name text = property name (One (scalars.Text text))

abbrev pub boolean_property : List ℕ → Bool → Property
boolean_property name b = property name (One (scalars.Bool b))

abbrev pub integer_property : List ℕ → ℕ → Property
integer_property name n = property name (One (scalars.Integer (pos n)))

abbrev pub text_scalar : List ℕ → Scalar
text_scalar text = scalars.Text text

-- a list is written as an array, also where it has one text or none
abbrev pub list_property : List ℕ → List (List ℕ) → Property
list_property name texts = property name (Many (map text_scalar texts))

-- ---- instances

abbrev pub instance : Class → List Property → Instance
instance class ps = record { class = class_name class; alias = None; properties = ps }

abbrev pub settings_instance : Meta → Instance
settings_instance meta = instance classes.Settings
    (text_property (codes "ConfigurationMode") (mode_name meta.mode)
    ∷ text_property (codes "RefreshMode") (refresh_name meta.refresh)
    ∷ boolean_property (codes "RebootNodeIfNeeded") meta.reboot_if_needed
    ∷ text_property (codes "ActionAfterReboot") (after_name meta.after)
    ∷ integer_property (codes "ConfigurationModeFrequencyMins") meta.mode_mins
    ∷ integer_property (codes "RefreshFrequencyMins") meta.refresh_mins
    ∷ boolean_property (codes "AllowModuleOverwrite") meta.module_overwrite
    ∷ [])

abbrev pub site_at_server : Server → Site
site_at_server server = record { https = server.https; peer = server.peer; prefix = server.prefix }

abbrev pub url_property : Server → Property
url_property server = text_property (codes "ServerURL") (url_of (site_at_server server))

abbrev pub key_property : Server → Property
key_property server = text_property (codes "RegistrationKey") server.key

abbrev pub download_instance : List (List ℕ) → Server → Instance
download_instance names server = instance classes.Download
    (url_property server ∷ key_property server ∷ list_property (codes "ConfigurationNames") names ∷ [])

abbrev pub report_instance : Server → Instance
report_instance server = instance classes.Report (url_property server ∷ key_property server ∷ [])

abbrev pub resource_instance : Server → Instance
resource_instance server = instance classes.Resource (url_property server ∷ [])

-- the managers of a server: the download manager and the report manager, or where there is neither a resource manager
abbrev pub manager_instances : Bool → Bool → List (List ℕ) → Server → List Instance
manager_instances true true names server = download_instance names server ∷ report_instance server ∷ []
manager_instances true false names server = download_instance names server ∷ []
manager_instances false true names server = report_instance server ∷ []
manager_instances false false names server = resource_instance server ∷ []

abbrev pub managers_of : Meta → List Instance
managers_of meta = option_map_or (manager_instances meta.pulls meta.reports meta.names) meta.server []

abbrev pub reference_to : List ℕ → List ℕ
reference_to name = codes "[PartialConfiguration]" ++ name

abbrev pub refresh_properties : Option RefreshMode → List Property
refresh_properties None = []
refresh_properties (Some mode) = text_property (codes "RefreshMode") (refresh_name mode) ∷ []

abbrev pub partial_instance : Partial → Instance
partial_instance partial = instance classes.Partial
    (text_property (codes "ResourceID") (reference_to partial.name)
    ∷ list_property (codes "DependsOn") (map reference_to partial.depends)
    ∷ list_property (codes "ExclusiveResources") partial.exclusive
    ∷ refresh_properties partial.refresh)

abbrev pub instances_of : Meta → List Instance
instances_of meta = settings_instance meta ∷ (managers_of meta ++ map partial_instance meta.partials)

-- ---- the text

abbrev pub text_of_meta : Meta → List ℕ
text_of_meta meta = canonical_bytes (instances_of meta)
