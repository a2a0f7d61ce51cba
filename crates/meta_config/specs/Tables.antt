-- The classes of a meta-configuration, and the table of each: its properties in order, and what their values may be.
use Rattle.std.specs.Prelude.{ℕ, Bool, ◌||◌, if◌then◌else◌, List, [], ◌∷◌, Option, Some, None, is_none, codes}
use Rattle.std.specs.Option.{option_or}
use Rattle.mof_values.specs.declared.instance.Instance.{Instance}
use Rattle.mof_values.specs.declared.instance.Property.{Property}
use Rattle.mof_values.specs.Fold.{same_name}
use Rattle.meta_config.specs.declared.tables.Class.{Class}
use Rattle.meta_config.specs.declared.tables.Class.TheVariants as classes
use Rattle.meta_config.specs.declared.tables.Domain.{Domain}
use Rattle.meta_config.specs.declared.tables.Domain.TheVariants as domains
use Rattle.meta_config.specs.Properties.{from_given, first_name, given}
use Rattle.meta_config.specs.Words.{fits}

-- ---- classes

abbrev pub class_name : Class → List ℕ
class_name classes.Settings = codes "MSFT_DSCMetaConfiguration"
class_name classes.Download = codes "MSFT_WebDownloadManager"
class_name classes.Report = codes "MSFT_WebReportManager"
class_name classes.Resource = codes "MSFT_WebResourceManager"
class_name classes.Partial = codes "MSFT_PartialConfiguration"

abbrev pub is_of : Class → Instance → Bool
is_of class instance = same_name instance.class (class_name class)

abbrev pub is_manager : Instance → Bool
is_manager i = is_of classes.Download i || (is_of classes.Report i || is_of classes.Resource i)

-- ---- tables

-- a row of a table: a property, and what its value may be
pub record Row : Type 0 where
  pub name : List ℕ
  pub domain : Domain

abbrev pub row : List ℕ → Domain → Row
row name domain = record { name = name; domain = domain }

abbrev pub settings_rows : List Row
settings_rows =
    row (codes "ConfigurationMode") domains.Mode
    ∷ row (codes "RefreshMode") domains.Refresh
    ∷ row (codes "RebootNodeIfNeeded") domains.Boolean
    ∷ row (codes "ActionAfterReboot") domains.AfterReboot
    ∷ row (codes "ConfigurationModeFrequencyMins") domains.Minutes
    ∷ row (codes "RefreshFrequencyMins") domains.Minutes
    ∷ row (codes "AllowModuleOverwrite") domains.Boolean
    ∷ []

abbrev pub download_rows : List Row
download_rows =
    row (codes "ServerURL") domains.Any
    ∷ row (codes "RegistrationKey") domains.Text
    ∷ row (codes "ConfigurationNames") domains.Names
    ∷ []

abbrev pub report_rows : List Row
report_rows = row (codes "ServerURL") domains.Any ∷ row (codes "RegistrationKey") domains.Text ∷ []

abbrev pub resource_rows : List Row
resource_rows = row (codes "ServerURL") domains.Any ∷ []

abbrev pub partial_rows : List Row
partial_rows =
    row (codes "ResourceID") domains.Reference
    ∷ row (codes "DependsOn") domains.References
    ∷ row (codes "ExclusiveResources") domains.Texts
    ∷ row (codes "RefreshMode") domains.Refresh
    ∷ []

-- ---- wrong properties

-- of the properties from the first given one of the row on: that one, where its value may not stand there, else a
-- second given one
abbrev pub wrong_from : Row → List Property → Option (List ℕ)
wrong_from r [] = None
wrong_from r (p ∷ ps) = if fits r.domain p.value then first_name (from_given r.name ps) else Some p.name

unfoldable pub wrong_in_row : Row → List Property → Option (List ℕ)
wrong_in_row r ps = wrong_from r (from_given r.name ps)

-- the name that was found, or else the first one that is wrong in the order of the rows
abbrev pub or_wrong : Option (List ℕ) → List Row → List Property → Option (List ℕ)
or_wrong found [] ps = found
or_wrong found (r ∷ rs) ps = or_wrong (option_or found (wrong_in_row r ps)) rs ps

-- the first wrong property in the order of the rows, as it is spelled
abbrev pub first_wrong : List Row → List Property → Option (List ℕ)
first_wrong rows ps = or_wrong None rows ps

-- a partial configuration has a ResourceID
abbrev pub wrong_in_partial : List Property → Option (List ℕ)
wrong_in_partial ps =
    if is_none (given (codes "ResourceID") ps) then Some (codes "ResourceID") else first_wrong partial_rows ps

-- the name of the first wrong property of an instance
abbrev pub wrong_in : Instance → Option (List ℕ)
wrong_in i =
    if is_of classes.Settings i then first_wrong settings_rows i.properties
    else if is_of classes.Download i then first_wrong download_rows i.properties
    else if is_of classes.Report i then first_wrong report_rows i.properties
    else if is_of classes.Resource i then first_wrong resource_rows i.properties
    else if is_of classes.Partial i then wrong_in_partial i.properties
    else None
