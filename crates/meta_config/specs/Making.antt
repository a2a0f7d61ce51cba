-- The meta-configuration that instances declare, row by row of the tables, with the default of each property.
use Rattle.std.specs.Prelude.{ℕ, Bool, false, if◌then◌else◌, List, [], ◌∷◌, ◌++◌, Option, None, option_map, option_and_then, unwrap_or, find, filter, map, codes}
use Rattle.std.specs.List.{list_any}
use Rattle.std.specs.Option.{option_map_or}
use Rattle.mof_values.specs.declared.instance.Instance.{Instance}
use Rattle.mof_values.specs.declared.instance.Property.{Property}
use Rattle.mof_values.specs.Fold.{same_name}
use Rattle.mof_values.specs.Values.{text_of}
use Rattle.meta_config.specs.declared.meta.Meta.{Meta}
use Rattle.meta_config.specs.declared.meta.Partial.{Partial}
use Rattle.meta_config.specs.declared.modes.ConfigMode.{ConfigMode}
use Rattle.meta_config.specs.declared.modes.ConfigMode.TheVariants.{ApplyAndMonitor}
use Rattle.meta_config.specs.declared.modes.RefreshMode.{RefreshMode}
use Rattle.meta_config.specs.declared.modes.RefreshMode.TheVariants.{Push}
use Rattle.meta_config.specs.declared.modes.AfterReboot.{AfterReboot}
use Rattle.meta_config.specs.declared.modes.AfterReboot.TheVariants.{ContinueConfiguration}
use Rattle.meta_config.specs.declared.server.Server.{Server}
use Rattle.meta_config.specs.declared.server.Site.{Site}
use Rattle.meta_config.specs.declared.tables.Class.{Class}
use Rattle.meta_config.specs.declared.tables.Class.TheVariants as classes
use Rattle.meta_config.specs.Properties.{given, texts_of}
use Rattle.meta_config.specs.Words.{mode_of, refresh_of, after_of, boolean_of, minutes_of, name_of_reference}
use Rattle.meta_config.specs.Tables.{is_of, is_manager}
use Rattle.meta_config.specs.Urls.{site_named}

-- the defaults
abbrev pub usual : Meta
usual = record {
  mode = ApplyAndMonitor;
  refresh = Push;
  reboot_if_needed = false;
  after = ContinueConfiguration;
  mode_mins = 15;
  refresh_mins = 30;
  module_overwrite = false;
  server = None;
  pulls = false;
  reports = false;
  names = [];
  partials = [];
}

-- ---- servers

-- the properties of the first instance of the class
abbrev pub properties_of : Class → List Instance → List Property
properties_of class instances = option_map_or (λ i. i.properties) (find (is_of class) instances) []

abbrev pub has : Class → List Instance → Bool
has class instances = list_any (is_of class) instances

-- the single text of that name
abbrev pub text_given : List ℕ → List Property → Option (List ℕ)
text_given name ps = option_and_then text_of (given name ps)

-- the site that the ServerURL names
abbrev pub site_given : List Property → Option Site
site_given ps = option_and_then site_named (text_given (codes "ServerURL") ps)

-- the site of the first manager
abbrev pub first_site : List Instance → Option Site
first_site instances = option_and_then (λ i. site_given i.properties) (find is_manager instances)

abbrev pub key_given : List Property → List ℕ
key_given ps = unwrap_or (text_given (codes "RegistrationKey") ps) []

-- the first, or where that is empty the second
abbrev pub first_filled : List ℕ → List ℕ → List ℕ
first_filled [] second = second
first_filled (c ∷ cs) second = c ∷ cs

-- the key of the download manager, or where that is absent or empty of the report manager
abbrev pub key_of : List Instance → List ℕ
key_of instances =
    first_filled (key_given (properties_of classes.Download instances)) (key_given (properties_of classes.Report instances))

abbrev pub server_at : List ℕ → Site → Server
server_at key site = record { https = site.https; peer = site.peer; prefix = site.prefix; key = key }

-- ---- names

-- with the name, but where it is there by fold
abbrev pub with_name : List (List ℕ) → List ℕ → List (List ℕ)
with_name kept name = if list_any (same_name name) kept then kept else kept ++ name ∷ []

-- the names that are kept, and each other one once by fold, in its first spelling
abbrev pub with_names : List (List ℕ) → List (List ℕ) → List (List ℕ)
with_names kept [] = kept
with_names kept (name ∷ names) = with_names (with_name kept name) names

abbrev pub names_of : List Instance → List (List ℕ)
names_of instances = with_names [] (texts_of (given (codes "ConfigurationNames") (properties_of classes.Download instances)))

-- ---- partial configurations

abbrev pub partial_name : List Property → List ℕ
partial_name ps = name_of_reference (unwrap_or (text_given (codes "ResourceID") ps) [])

abbrev pub depends_of : List Property → List (List ℕ)
depends_of ps = map name_of_reference (texts_of (given (codes "DependsOn") ps))

abbrev pub partial_of : Instance → Partial
partial_of i = record {
  name = partial_name i.properties;
  depends = depends_of i.properties;
  exclusive = texts_of (given (codes "ExclusiveResources") i.properties);
  refresh = option_and_then refresh_of (given (codes "RefreshMode") i.properties);
}

-- ---- the whole

abbrev pub mode_given : List Property → ConfigMode
mode_given ps = unwrap_or (option_and_then mode_of (given (codes "ConfigurationMode") ps)) ApplyAndMonitor

abbrev pub refresh_given : List Property → RefreshMode
refresh_given ps = unwrap_or (option_and_then refresh_of (given (codes "RefreshMode") ps)) Push

abbrev pub after_given : List Property → AfterReboot
after_given ps = unwrap_or (option_and_then after_of (given (codes "ActionAfterReboot") ps)) ContinueConfiguration

abbrev pub boolean_given : List ℕ → List Property → Bool
boolean_given name ps = unwrap_or (option_and_then boolean_of (given name ps)) false

abbrev pub minutes_given : List ℕ → ℕ → List Property → ℕ
minutes_given name default ps = unwrap_or (option_and_then minutes_of (given name ps)) default

-- the settings of the one MSFT_DSCMetaConfiguration, of whose properties a missing one has its default
abbrev pub meta_with : List Property → List Instance → Meta
meta_with ps instances = record {
  mode = mode_given ps;
  refresh = refresh_given ps;
  reboot_if_needed = boolean_given (codes "RebootNodeIfNeeded") ps;
  after = after_given ps;
  mode_mins = minutes_given (codes "ConfigurationModeFrequencyMins") 15 ps;
  refresh_mins = minutes_given (codes "RefreshFrequencyMins") 30 ps;
  module_overwrite = boolean_given (codes "AllowModuleOverwrite") ps;
  server = option_map (server_at (key_of instances)) (first_site instances);
  pulls = has classes.Download instances;
  reports = has classes.Report instances;
  names = names_of instances;
  partials = map partial_of (filter (is_of classes.Partial) instances);
}

abbrev pub meta_of : List Instance → Meta
meta_of instances = meta_with (properties_of classes.Settings instances) instances
