-- The text that is written of a well-formed meta-configuration is read.
use Rattle.std.proofs.Common.{◌≡◌, ℕ, ◌+◌, ◌<◌, ◌≤◌, Bool, true, false, nat_le, List, [], ◌∷◌, ◌++◌, length, Option, Some, None, map, codes, refl, arith, pos}
use Rattle.std.specs.List.{AllByRecursion}
use Rattle.std.specs.Option.{option_map_or}
use Rattle.std.proofs.lemmas.Bool.Decides.{nat_tests}
use Rattle.std.proofs.lemmas.List.{length-map}
use Rattle.std.proofs.lemmas.Int.{ints}
use Rattle.mof_values.specs.declared.instance.Instance.{Instance}
use Rattle.mof_values.specs.declared.instance.Property.{Property}
use Rattle.mof_values.specs.declared.value.Value.{Value}
use Rattle.mof_syntax.specs.Limits.{IsInRange, InstanceFits, PropertyFits, ScalarFits, ValueFits, document_limit}
use Rattle.mof_syntax.specs.Refusals.{Reads}
use Rattle.mof_codec.specs.Written.{AreChars, InstanceIsValid, IsName, PropertyIsValid, ScalarIsValid, ValueIsValid}
use Rattle.mof_codec.proofs.CanonicalBytes.{canonical_reads}
use Rattle.mof_values.specs.declared.limits.TheConstants.{MAX_IDENTIFIER}
use Rattle.meta_config.specs.declared.meta.Meta.{Meta}
use Rattle.meta_config.specs.declared.meta.Partial.{Partial}
use Rattle.meta_config.specs.declared.modes.ConfigMode.{ConfigMode}
use Rattle.meta_config.specs.declared.modes.ConfigMode.TheVariants.{ApplyOnly, ApplyAndMonitor, ApplyAndAutoCorrect}
use Rattle.meta_config.specs.declared.modes.RefreshMode.{RefreshMode}
use Rattle.meta_config.specs.declared.modes.RefreshMode.TheVariants.{Push, Pull, Disabled}
use Rattle.meta_config.specs.declared.modes.AfterReboot.{AfterReboot}
use Rattle.meta_config.specs.declared.modes.AfterReboot.TheVariants.{ContinueConfiguration, StopConfiguration}
use Rattle.meta_config.specs.declared.server.Server.{Server}
use Rattle.meta_config.specs.Words.{after_name, mode_name, refresh_name}
use Rattle.meta_config.specs.Writing.{download_instance, instances_of, key_property, manager_instances, partial_instance, reference_to, refresh_properties, report_instance, resource_instance, settings_instance, text_of_meta, text_scalar, url_property}
use Rattle.meta_config.proofs.CharsRead.{chars_join}
use Rattle.meta_config.proofs.WellFormed.{IsNameText, IsPart, IsServer, IsWellFormed}
use Rattle.meta_config.proofs.WrittenAccepted.{managed, rest_each}
use Rattle.meta_config.specs.declared.limits.TheConstants.{MAX_META_TEXT, MAX_NAMES, MAX_PARTIALS}

-- a property, or an instance, that is valid and within the limits
record PropertyIsGood (p : Property) : Type 0 where
  valid : PropertyIsValid p
  fits : PropertyFits p

record InstanceIsGood (i : Instance) : Type 0 where
  valid : InstanceIsValid i
  fits : InstanceFits i

properties_valid : (ps : List Property) → AllByRecursion PropertyIsGood ps → AllByRecursion PropertyIsValid ps
properties_valid [] all = tt
properties_valid (p ∷ ps) all = (all.0.valid, properties_valid ps all.1)

properties_fit : (ps : List Property) → AllByRecursion PropertyIsGood ps → AllByRecursion PropertyFits ps
properties_fit [] all = tt
properties_fit (p ∷ ps) all = (all.0.fits, properties_fit ps all.1)

good_instance : (class : List ℕ) (ps : List Property) → IsName class → length class ≤ MAX_IDENTIFIER → length ps ≤ 256 → AllByRecursion PropertyIsGood ps
    → InstanceIsGood (record { class = class; alias = None; properties = ps })
good_instance class ps name short few all = record {
  valid = record { class = name; alias = tt; each = properties_valid ps all };
  fits = record { class = short; alias = tt; count = few; each = properties_fit ps all };
}

good : (name : List ℕ) (value : Value) → IsName name → length name ≤ MAX_IDENTIFIER → ValueIsValid value → ValueFits value → PropertyIsGood (record { name = name; value = value })
good name value is short valid fits = record {
  valid = record { name = is; value = valid };
  fits = record { name = short; value = fits };
}

mode_chars : (mode : ConfigMode) → AreChars (mode_name mode)
mode_chars ApplyOnly = refl
mode_chars ApplyAndMonitor = refl
mode_chars ApplyAndAutoCorrect = refl

refresh_chars : (mode : RefreshMode) → AreChars (refresh_name mode)
refresh_chars Push = refl
refresh_chars Pull = refl
refresh_chars Disabled = refl

after_chars : (after : AfterReboot) → AreChars (after_name after)
after_chars ContinueConfiguration = refl
after_chars StopConfiguration = refl

minutes_in_range : (n : ℕ) → n < 4294967296 → IsInRange (pos n)
minutes_in_range n small = (search (ints, arith), omega (ints, arith))

texts_valid : (texts : List (List ℕ)) → AllByRecursion AreChars texts → AllByRecursion ScalarIsValid (map text_scalar texts)
texts_valid [] all = tt
texts_valid (t ∷ ts) all = (all.0, texts_valid ts all.1)

scalars_fit : (texts : List (List ℕ)) → AllByRecursion ScalarFits (map text_scalar texts)
scalars_fit [] = tt
scalars_fit (t ∷ ts) = (tt, scalars_fit ts)

list_fits : (texts : List (List ℕ)) → length texts ≤ 4096 → (length (map text_scalar texts) ≤ 4096) × AllByRecursion ScalarFits (map text_scalar texts)
list_fits texts few = (omega (arith, length-map texts text_scalar), scalars_fit texts)

name_chars : (names : List (List ℕ)) → AllByRecursion IsNameText names → AllByRecursion AreChars names
name_chars [] all = tt
name_chars (n ∷ ns) all = (all.0.chars, name_chars ns all.1)

reference_chars : (names : List (List ℕ)) → AllByRecursion IsNameText names → AllByRecursion AreChars (map reference_to names)
reference_chars [] all = tt
reference_chars (n ∷ ns) all = (chars_join (codes "[PartialConfiguration]") n refl all.0.chars, reference_chars ns all.1)

settings_good : (meta : Meta) → IsWellFormed meta → InstanceIsGood (settings_instance meta)
settings_good meta w =
    good_instance (codes "MSFT_DSCMetaConfiguration") (settings_instance meta).properties (record { ident = refl; chars = refl }) (omega arith) (omega arith) (
      good (codes "ConfigurationMode") _ (record { ident = refl; chars = refl }) (omega arith) (mode_chars meta.mode) tt,
      (
        good (codes "RefreshMode") _ (record { ident = refl; chars = refl }) (omega arith) (refresh_chars meta.refresh) tt,
        (
          good (codes "RebootNodeIfNeeded") _ (record { ident = refl; chars = refl }) (omega arith) tt tt,
          (
            good (codes "ActionAfterReboot") _ (record { ident = refl; chars = refl }) (omega arith) (after_chars meta.after) tt,
            (
              good (codes "ConfigurationModeFrequencyMins") _ (record { ident = refl; chars = refl }) (omega arith) tt (minutes_in_range meta.mode_mins w.mode_mins),
              (
                good (codes "RefreshFrequencyMins") _ (record { ident = refl; chars = refl }) (omega arith) tt (minutes_in_range meta.refresh_mins w.refresh_mins),
                (good (codes "AllowModuleOverwrite") _ (record { ident = refl; chars = refl }) (omega arith) tt tt, tt),
              ),
            ),
          ),
        ),
      ),
    )

url_good : (server : Server) → IsServer server → PropertyIsGood (url_property server)
url_good server s = good (codes "ServerURL") _ (record { ident = refl; chars = refl }) (omega arith) s.site.chars tt

key_good : (server : Server) → IsServer server → PropertyIsGood (key_property server)
key_good server s = good (codes "RegistrationKey") _ (record { ident = refl; chars = refl }) (omega arith) s.key tt

download_good : (names : List (List ℕ)) (server : Server) → IsServer server → AllByRecursion IsNameText names → length names ≤ 4096 → InstanceIsGood (download_instance names server)
download_good names server s all few =
    good_instance (codes "MSFT_WebDownloadManager") (download_instance names server).properties (record { ident = refl; chars = refl }) (omega arith) (omega arith) (
      url_good server s,
      (
        key_good server s,
        (good (codes "ConfigurationNames") _ (record { ident = refl; chars = refl }) (omega arith) (texts_valid names (name_chars names all)) (list_fits names few), tt),
      ),
    )

report_good : (server : Server) → IsServer server → InstanceIsGood (report_instance server)
report_good server s =
    good_instance (codes "MSFT_WebReportManager") (report_instance server).properties (record { ident = refl; chars = refl }) (omega arith) (omega arith)
    (url_good server s, (key_good server s, tt))

resource_good : (server : Server) → IsServer server → InstanceIsGood (resource_instance server)
resource_good server s =
    good_instance (codes "MSFT_WebResourceManager") (resource_instance server).properties (record { ident = refl; chars = refl }) (omega arith) (omega arith) (url_good server s, tt)

refresh_good : (refresh : Option RefreshMode) → AllByRecursion PropertyIsGood (refresh_properties refresh)
refresh_good None = tt
refresh_good (Some mode) = (good (codes "RefreshMode") _ (record { ident = refl; chars = refl }) (omega arith) (refresh_chars mode) tt, tt)

refresh_few : (refresh : Option RefreshMode) → length (refresh_properties refresh) ≤ 1
refresh_few None = omega arith
refresh_few (Some mode) = omega arith

part_good : (p : Partial) → IsPart p → InstanceIsGood (partial_instance p)
part_good p is =
    good_instance (codes "MSFT_PartialConfiguration") (partial_instance p).properties (record { ident = refl; chars = refl }) (omega arith) (omega (arith, refresh_few p.refresh)) (
      good (codes "ResourceID") _ (record { ident = refl; chars = refl }) (omega arith) (chars_join (codes "[PartialConfiguration]") p.name refl is.name.chars) tt,
      (
        good (codes "DependsOn") _ (record { ident = refl; chars = refl }) (omega arith) (texts_valid (map reference_to p.depends) (reference_chars p.depends is.depends))
            (list_fits (map reference_to p.depends) (omega (arith, length-map p.depends reference_to, is.few_depends))),
        (
          good (codes "ExclusiveResources") _ (record { ident = refl; chars = refl }) (omega arith) (texts_valid p.exclusive is.exclusive) (list_fits p.exclusive is.few_exclusive),
          refresh_good p.refresh,
        ),
      ),
    )

pub at_most : (n limit : ℕ) → nat_le n limit ≡ true → n ≤ limit
at_most n limit e = grind (arith, nat_tests)

parts_good : (ps : List Partial) → AllByRecursion IsPart ps → AllByRecursion (λ p. InstanceIsGood (partial_instance p)) ps
parts_good [] all = tt
parts_good (p ∷ ps) all = (part_good p all.0, parts_good ps all.1)

all_good : (meta : Meta) → IsWellFormed meta → AllByRecursion InstanceIsGood (instances_of meta)
all_good meta w = (
  settings_good meta w,
  rest_each InstanceIsGood meta.server meta.pulls meta.reports meta.names
      (λ server e.
      let s = managed meta.server meta.pulls meta.reports meta.names w.managers server e in
      (download_good meta.names server s w.names (omega (arith, at_most (length meta.names) MAX_NAMES w.few_names)), report_good server s, resource_good server s))
      meta.partials (parts_good meta.partials w.partials),
)

all_valid : (is : List Instance) → AllByRecursion InstanceIsGood is → AllByRecursion InstanceIsValid is
all_valid [] all = tt
all_valid (i ∷ is) all = (all.0.valid, all_valid is all.1)

all_fit : (is : List Instance) → AllByRecursion InstanceIsGood is → AllByRecursion InstanceFits is
all_fit [] all = tt
all_fit (i ∷ is) all = (all.0.fits, all_fit is all.1)

managers_few : (o : Option Server) (pulls reports : Bool) (names : List (List ℕ)) (ps : List Partial)
    → length (option_map_or (manager_instances pulls reports names) o [] ++ map partial_instance ps) ≤ 2 + length ps
managers_few None pulls reports names ps = omega (arith, length-map ps partial_instance)
managers_few (Some server) true true names ps = omega (arith, length-map ps partial_instance)
managers_few (Some server) true false names ps = omega (arith, length-map ps partial_instance)
managers_few (Some server) false true names ps = omega (arith, length-map ps partial_instance)
managers_few (Some server) false false names ps = omega (arith, length-map ps partial_instance)

few_instances : (meta : Meta) → IsWellFormed meta → length (instances_of meta) ≤ 4097
few_instances meta w = omega (arith, managers_few meta.server meta.pulls meta.reports meta.names meta.partials, at_most (length meta.partials) MAX_PARTIALS w.few_partials)

within_document : (n : ℕ) → nat_le n MAX_META_TEXT ≡ true → n ≤ document_limit
within_document n e = omega (arith, at_most n MAX_META_TEXT e)

-- the instances are those that the text spells
pub written_reads : (meta : Meta) → IsWellFormed meta → Reads (text_of_meta meta) (instances_of meta)
written_reads meta w =
    let all = all_good meta w in
    canonical_reads (instances_of meta) (text_of_meta meta) refl (all_valid (instances_of meta) all)
    (record { count = few_instances meta w; each = all_fit (instances_of meta) all })
    (within_document (length (text_of_meta meta)) w.short)
