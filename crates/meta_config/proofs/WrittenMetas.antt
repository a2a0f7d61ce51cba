-- What the instances that are written of a well-formed meta-configuration declare.
use Rattle.std.proofs.Common.{◌≡◌, ℕ, ◌<◌, Bool, true, false, cond, nat_lt, List, [], ◌∷◌, ◌++◌, Option, Some, None, option_map, option_and_then, unwrap_or, find, map, filter_map, codes, refl, sym, ap, ◌∙◌, arith}
use Rattle.std.specs.List.{AllByRecursion, list_any}
use Rattle.std.specs.Option.{option_map_or}
use Rattle.std.proofs.lemmas.Bool.Decides.{nat_tests}
use Rattle.mof_values.specs.declared.instance.Instance.{Instance}
use Rattle.mof_values.specs.declared.instance.Property.{Property}
use Rattle.mof_values.specs.Fold.{same_name}
use Rattle.mof_values.specs.Values.{text_of_scalar}
use Rattle.meta_config.specs.declared.meta.Meta.{Meta}
use Rattle.meta_config.specs.declared.meta.Partial.{Partial}
use Rattle.meta_config.specs.declared.modes.ConfigMode.{ConfigMode}
use Rattle.meta_config.specs.declared.modes.ConfigMode.TheVariants.{ApplyOnly, ApplyAndMonitor, ApplyAndAutoCorrect}
use Rattle.meta_config.specs.declared.modes.RefreshMode.{RefreshMode}
use Rattle.meta_config.specs.declared.modes.RefreshMode.TheVariants.{Push, Pull, Disabled}
use Rattle.meta_config.specs.declared.modes.AfterReboot.{AfterReboot}
use Rattle.meta_config.specs.declared.modes.AfterReboot.TheVariants.{ContinueConfiguration, StopConfiguration}
use Rattle.meta_config.specs.declared.server.Server.{Server}
use Rattle.meta_config.specs.declared.server.Site.{Site}
use Rattle.meta_config.specs.declared.tables.Class.{Class}
use Rattle.meta_config.specs.declared.tables.Class.TheVariants as classes
use Rattle.meta_config.specs.Making.{first_filled, first_site, has, key_given, key_of, meta_of, names_of, partial_of, server_at, site_given, with_names}
use Rattle.meta_config.specs.Properties.{given, texts_of}
use Rattle.meta_config.specs.Urls.{site_named, url_of}
use Rattle.meta_config.specs.Tables.{class_name, is_manager, is_of}
use Rattle.meta_config.specs.Words.{after_name, after_named, mode_name, mode_named, name_of_reference, refresh_name, refresh_named}
use Rattle.meta_config.specs.Writing.{download_instance, instances_of, manager_instances, partial_instance, reference_to, report_instance, resource_instance, settings_instance, site_at_server, text_scalar}
use Rattle.meta_config.proofs.Apart.{parts_of}
use Rattle.meta_config.proofs.Searches.{all_filter, each_map, each_of, no_any, no_find}
use Rattle.meta_config.proofs.WellFormed.{HasManagers, IsWellFormed}

-- ---- the instances that are written

-- the settings, the managers and the partial configurations
abbrev pub written : Meta → Option Server → Bool → Bool → List (List ℕ) → List Partial → List Instance
written settings server pulls reports names partials =
    settings_instance settings ∷ (option_map_or (manager_instances pulls reports names) server [] ++ map partial_instance partials)

pub managers_each : (P : Instance → Type 0) (pulls reports : Bool) (names : List (List ℕ)) (server : Server)
    → P (download_instance names server) → P (report_instance server) → P (resource_instance server) → (rest : List Instance) → AllByRecursion P rest
    → AllByRecursion P (manager_instances pulls reports names server ++ rest)
managers_each P true true names server d p r rest all = (d, (p, all))
managers_each P true false names server d p r rest all = (d, all)
managers_each P false true names server d p r rest all = (p, all)
managers_each P false false names server d p r rest all = (r, all)

pub instances_each : (P : Instance → Type 0) → ((p : Partial) → P (partial_instance p)) → (ps : List Partial) → AllByRecursion P (map partial_instance ps)
instances_each P each ps = each_map P partial_instance ps (each_of (λ p. P (partial_instance p)) each ps)

-- no partial configuration is of another class
no_class : (class : Class) → same_name (class_name classes.Partial) (class_name class) ≡ false → (ps : List Partial) → find (is_of class) (map partial_instance ps) ≡ None
no_class class differs ps = no_find (is_of class) (map partial_instance ps) (instances_each (λ i. is_of class i ≡ false) (λ p. differs) ps)

partials_no_properties : (class : Class) → same_name (class_name classes.Partial) (class_name class) ≡ false → (ps : List Partial)
    → option_map_or (λ (i : Instance). i.properties) (find (is_of class) (map partial_instance ps)) [] ≡ []
partials_no_properties class differs ps = ap (λ o. option_map_or (λ (i : Instance). i.properties) o []) (no_class class differs ps)

none_of : (class : Class) → same_name (class_name classes.Partial) (class_name class) ≡ false → (ps : List Partial) → list_any (is_of class) (map partial_instance ps) ≡ false
none_of class differs ps = no_any (is_of class) (map partial_instance ps) (instances_each (λ i. is_of class i ≡ false) (λ p. differs) ps)

abbrev names_in : List Property → List (List ℕ)
names_in ps = with_names [] (texts_of (given (codes "ConfigurationNames") ps))

abbrev site_given_url : Server → Option Site
site_given_url server = site_named (url_of (site_at_server server))

-- ---- texts that are written

texts_back : (texts : List (List ℕ)) → filter_map text_of_scalar (map text_scalar texts) ≡ texts
texts_back [] = refl
texts_back (t ∷ ts) = ap (λ l. t ∷ l) (texts_back ts)

references_back : (names : List (List ℕ)) → map name_of_reference (map reference_to names) ≡ names
references_back [] = refl
references_back (n ∷ ns) = ap (λ l. n ∷ l) (references_back ns)

pub depends_back : (names : List (List ℕ)) → map name_of_reference (filter_map text_of_scalar (map text_scalar (map reference_to names))) ≡ names
depends_back names = ap (map name_of_reference) (texts_back (map reference_to names)) ∙ references_back names

mode_back : (mode : ConfigMode) → unwrap_or (mode_named (mode_name mode)) ApplyAndMonitor ≡ mode
mode_back ApplyOnly = refl
mode_back ApplyAndMonitor = refl
mode_back ApplyAndAutoCorrect = refl

refresh_back : (mode : RefreshMode) → refresh_named (refresh_name mode) ≡ Some mode
refresh_back Push = refl
refresh_back Pull = refl
refresh_back Disabled = refl

after_back : (after : AfterReboot) → unwrap_or (after_named (after_name after)) ContinueConfiguration ≡ after
after_back ContinueConfiguration = refl
after_back StopConfiguration = refl

minutes_back : (n d : ℕ) → n < 4294967296 → unwrap_or (cond (nat_lt n 4294967296) (Some n) None) d ≡ n
minutes_back n d small =
    let e : nat_lt n 4294967296 ≡ true = grind (arith, nat_tests) in
    ap (λ b. unwrap_or (cond b (Some n) None) d) e

part_back : (name : List ℕ) (depends exclusive : List (List ℕ)) (refresh : Option RefreshMode)
    → partial_of (partial_instance (record { name = name; depends = depends; exclusive = exclusive; refresh = refresh })) ≡ record { name = name; depends = depends; exclusive = exclusive; refresh = refresh }
part_back name depends exclusive None = λ k. record { name = name; depends = depends_back depends k; exclusive = texts_back exclusive k; refresh = None }
part_back name depends exclusive (Some mode) = λ k. record { name = name; depends = depends_back depends k; exclusive = texts_back exclusive k; refresh = refresh_back mode k }

parts_map : (ps : List Partial) → map partial_of (map partial_instance ps) ≡ ps
parts_map [] = refl
parts_map (p ∷ ps) = λ k. part_back p.name p.depends p.exclusive p.refresh k ∷ parts_map ps k

parts_back : (ps : List Partial) → parts_of (map partial_instance ps) ≡ ps
parts_back ps =
    ap (map partial_of) (all_filter (is_of classes.Partial) (map partial_instance ps) (instances_each (λ i. is_of classes.Partial i ≡ true) (λ p. refl) ps)) ∙ parts_map ps

-- ---- what is declared, field by field

pub written_parts : (settings : Meta) (server : Option Server) (pulls reports : Bool) (names : List (List ℕ)) (ps : List Partial)
    → parts_of (written settings server pulls reports names ps) ≡ ps
written_parts settings None pulls reports names ps = parts_back ps
written_parts settings (Some server) true true names ps = parts_back ps
written_parts settings (Some server) true false names ps = parts_back ps
written_parts settings (Some server) false true names ps = parts_back ps
written_parts settings (Some server) false false names ps = parts_back ps

written_pulls : (settings : Meta) (server : Option Server) (pulls reports : Bool) (names : List (List ℕ)) (ps : List Partial) → HasManagers server pulls reports names
    → has classes.Download (written settings server pulls reports names ps) ≡ pulls
written_pulls settings None pulls reports names ps h = none_of classes.Download refl ps ∙ sym h.0
written_pulls settings (Some server) true true names ps h = refl
written_pulls settings (Some server) true false names ps h = refl
written_pulls settings (Some server) false true names ps h = none_of classes.Download refl ps
written_pulls settings (Some server) false false names ps h = none_of classes.Download refl ps

written_reports : (settings : Meta) (server : Option Server) (pulls reports : Bool) (names : List (List ℕ)) (ps : List Partial) → HasManagers server pulls reports names
    → has classes.Report (written settings server pulls reports names ps) ≡ reports
written_reports settings None pulls reports names ps h = none_of classes.Report refl ps ∙ sym h.1
written_reports settings (Some server) true true names ps h = refl
written_reports settings (Some server) true false names ps h = none_of classes.Report refl ps
written_reports settings (Some server) false true names ps h = refl
written_reports settings (Some server) false false names ps h = none_of classes.Report refl ps

names_back : (names : List (List ℕ)) → with_names [] names ≡ names → with_names [] (filter_map text_of_scalar (map text_scalar names)) ≡ names
names_back names once = ap (with_names []) (texts_back names) ∙ once

pub written_names : (settings : Meta) (server : Option Server) (pulls reports : Bool) (names : List (List ℕ)) (ps : List Partial) → HasManagers server pulls reports names
    → with_names [] names ≡ names → names_of (written settings server pulls reports names ps) ≡ names
written_names settings None pulls reports names ps h once = ap names_in (partials_no_properties classes.Download refl ps) ∙ sym h.2
written_names settings (Some server) true true names ps h once = names_back names once
written_names settings (Some server) true false names ps h once = names_back names once
written_names settings (Some server) false true names ps h once = ap names_in (partials_no_properties classes.Download refl ps) ∙ sym (h.1 refl)
written_names settings (Some server) false false names ps h once = ap names_in (partials_no_properties classes.Download refl ps) ∙ sym (h.1 refl)

same_filled : (key : List ℕ) → first_filled key key ≡ key
same_filled [] = refl
same_filled (c ∷ cs) = refl

filled_alone : (key : List ℕ) → first_filled key [] ≡ key
filled_alone [] = refl
filled_alone (c ∷ cs) = refl

server_back : (key : List ℕ) (server : Server) → site_given_url server ≡ Some (site_at_server server) → key ≡ server.key
    → option_map (server_at key) (site_given_url server) ≡ Some server
server_back key server named is = ap (option_map (server_at key)) named ∙ (λ k. Some (server_at (is k) (site_at_server server)))

written_server : (settings : Meta) (server : Option Server) (pulls reports : Bool) (names : List (List ℕ)) (ps : List Partial) → HasManagers server pulls reports names
    → option_map (server_at (key_of (written settings server pulls reports names ps))) (first_site (written settings server pulls reports names ps)) ≡ server
written_server settings None pulls reports names ps h =
    ap (λ o. option_map (server_at (key_of (written settings None pulls reports names ps))) (option_and_then (λ (i : Instance). site_given i.properties) o))
    (no_find is_manager (map partial_instance ps) (instances_each (λ i. is_manager i ≡ false) (λ p. refl) ps))
written_server settings (Some server) true true names ps h =
    server_back (key_of (written settings (Some server) true true names ps)) server h.0.site.named (same_filled server.key)
written_server settings (Some server) true false names ps h =
    server_back (key_of (written settings (Some server) true false names ps)) server h.0.site.named
    (ap (λ qs. first_filled server.key (key_given qs)) (partials_no_properties classes.Report refl ps) ∙ filled_alone server.key)
written_server settings (Some server) false true names ps h =
    server_back (key_of (written settings (Some server) false true names ps)) server h.0.site.named
    (ap (λ qs. first_filled (key_given qs) server.key) (partials_no_properties classes.Download refl ps))
written_server settings (Some server) false false names ps h =
    server_back (key_of (written settings (Some server) false false names ps)) server h.0.site.named
    ((λ k. first_filled (key_given (partials_no_properties classes.Download refl ps k)) (key_given (partials_no_properties classes.Report refl ps k))) ∙ sym (h.2 refl refl))

-- the instances that are written declare the meta-configuration
pub written_declare : (meta : Meta) → IsWellFormed meta → meta_of (instances_of meta) ≡ meta
written_declare meta w = λ k. record {
  mode = mode_back meta.mode k;
  refresh = ap (λ o. unwrap_or o Push) (refresh_back meta.refresh) k;
  reboot_if_needed = meta.reboot_if_needed;
  after = after_back meta.after k;
  mode_mins = minutes_back meta.mode_mins 15 w.mode_mins k;
  refresh_mins = minutes_back meta.refresh_mins 30 w.refresh_mins k;
  module_overwrite = meta.module_overwrite;
  server = written_server meta meta.server meta.pulls meta.reports meta.names meta.partials w.managers k;
  pulls = written_pulls meta meta.server meta.pulls meta.reports meta.names meta.partials w.managers k;
  reports = written_reports meta meta.server meta.pulls meta.reports meta.names meta.partials w.managers k;
  names = written_names meta meta.server meta.pulls meta.reports meta.names meta.partials w.managers w.names_once k;
  partials = written_parts meta meta.server meta.pulls meta.reports meta.names meta.partials k;
}
