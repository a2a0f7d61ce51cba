-- The words of the settings, and what a value means. Words compare by fold.
use Rattle.std.specs.Prelude.{ℕ, Bool, true, false, ◌&&◌, if◌then◌else◌, nat_lt, nat_le, List, [], ◌∷◌, Option, Some, None, is_some, option_and_then, pos, length, take, drop, codes, encode_utf8_all}
use Rattle.std.specs.List.{list_all}
use Rattle.std.specs.Option.{option_map_or}
use Rattle.mof_values.specs.declared.value.Scalar.{Scalar}
use Rattle.mof_values.specs.declared.value.Scalar.TheVariants as scalars
use Rattle.mof_values.specs.declared.value.Value.{Value}
use Rattle.mof_values.specs.declared.value.Value.TheVariants.{One}
use Rattle.mof_values.specs.Fold.{same_name}
use Rattle.mof_values.specs.declared.limits.TheConstants.{MAX_NAME_BYTES}
use Rattle.mof_values.specs.Values.{text_of, text_of_scalar, scalars_of}
use Rattle.dsc_document.specs.Declarations.{is_text}
use Rattle.meta_config.specs.declared.modes.ConfigMode.{ConfigMode}
use Rattle.meta_config.specs.declared.modes.ConfigMode.TheVariants.{ApplyOnly, ApplyAndMonitor, ApplyAndAutoCorrect}
use Rattle.meta_config.specs.declared.modes.RefreshMode.{RefreshMode}
use Rattle.meta_config.specs.declared.modes.RefreshMode.TheVariants.{Push, Pull, Disabled}
use Rattle.meta_config.specs.declared.modes.AfterReboot.{AfterReboot}
use Rattle.meta_config.specs.declared.modes.AfterReboot.TheVariants.{ContinueConfiguration, StopConfiguration}
use Rattle.meta_config.specs.declared.tables.Domain.{Domain}
use Rattle.meta_config.specs.declared.tables.Domain.TheVariants as domains

-- ---- words

abbrev pub mode_name : ConfigMode → List ℕ
mode_name ApplyOnly = codes "ApplyOnly"
mode_name ApplyAndMonitor = codes "ApplyAndMonitor"
mode_name ApplyAndAutoCorrect = codes "ApplyAndAutoCorrect"

abbrev pub refresh_name : RefreshMode → List ℕ
refresh_name Push = codes "Push"
refresh_name Pull = codes "Pull"
refresh_name Disabled = codes "Disabled"

abbrev pub after_name : AfterReboot → List ℕ
after_name ContinueConfiguration = codes "ContinueConfiguration"
after_name StopConfiguration = codes "StopConfiguration"

abbrev pub mode_named : List ℕ → Option ConfigMode
mode_named word =
    if same_name word (codes "ApplyOnly") then Some ApplyOnly
    else if same_name word (codes "ApplyAndMonitor") then Some ApplyAndMonitor
    else if same_name word (codes "ApplyAndAutoCorrect") then Some ApplyAndAutoCorrect
    else None

abbrev pub refresh_named : List ℕ → Option RefreshMode
refresh_named word =
    if same_name word (codes "Push") then Some Push
    else if same_name word (codes "Pull") then Some Pull
    else if same_name word (codes "Disabled") then Some Disabled
    else None

abbrev pub after_named : List ℕ → Option AfterReboot
after_named word =
    if same_name word (codes "ContinueConfiguration") then Some ContinueConfiguration
    else if same_name word (codes "StopConfiguration") then Some StopConfiguration
    else None

-- ---- names

-- a name has a byte of UTF-8, and at most MAX_NAME_BYTES
abbrev pub is_name : List ℕ → Bool
is_name [] = false
is_name (c ∷ cs) = nat_le (length (encode_utf8_all (c ∷ cs))) MAX_NAME_BYTES

-- `[PartialConfiguration]`, by fold, and a name
abbrev pub is_reference : List ℕ → Bool
is_reference text = same_name (take 22 text) (codes "[PartialConfiguration]") && is_name (drop 22 text)

-- the name of the partial configuration that a reference names
abbrev pub name_of_reference : List ℕ → List ℕ
name_of_reference text = drop 22 text

-- ---- what values mean

abbrev pub mode_of : Value → Option ConfigMode
mode_of value = option_and_then mode_named (text_of value)

abbrev pub refresh_of : Value → Option RefreshMode
refresh_of value = option_and_then refresh_named (text_of value)

abbrev pub after_of : Value → Option AfterReboot
after_of value = option_and_then after_named (text_of value)

abbrev pub boolean_of : Value → Option Bool
boolean_of (One (scalars.Bool b)) = Some b
boolean_of _ = None

-- minutes, 0 to 4,294,967,295
abbrev pub minutes_of : Value → Option ℕ
minutes_of (One (scalars.Integer (pos n))) = if nat_lt n 4294967296 then Some n else None
minutes_of _ = None

abbrev pub is_text_that : (List ℕ → Bool) → Scalar → Bool
is_text_that test scalar = option_map_or test (text_of_scalar scalar) false

-- what the values of a property may be
abbrev pub fits : Domain → Value → Bool
fits domains.Mode value = is_some (mode_of value)
fits domains.Refresh value = is_some (refresh_of value)
fits domains.AfterReboot value = is_some (after_of value)
fits domains.Boolean value = is_some (boolean_of value)
fits domains.Minutes value = is_some (minutes_of value)
fits domains.Text value = is_some (text_of value)
fits domains.Texts value = list_all is_text (scalars_of value)
fits domains.Names value = list_all (is_text_that is_name) (scalars_of value)
fits domains.Reference value = option_map_or is_reference (text_of value) false
fits domains.References value = list_all (is_text_that is_reference) (scalars_of value)
fits domains.Any value = true
