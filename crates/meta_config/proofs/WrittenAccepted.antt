-- No refusal is found of the instances that are written of a well-formed meta-configuration.
use Rattle.std.proofs.Common.{◌≡◌, ℕ, ◌+◌, ◌<◌, Bool, true, false, cond, not, ◌&&◌, ◌==◌, nat_lt, nat_le, List, [], ◌∷◌, ◌++◌, length, drop, Option, Some, None, option_map, option_and_then, is_some, is_none, find, map, refl, sym, ap, subst, ◌∙◌, arith}
use Rattle.std.specs.List.{AllByRecursion, list_all, list_any, position_from}
use Rattle.std.specs.Option.{option_map_or, option_or}
use Rattle.std.specs.Str.{bytes_eq}
use Rattle.std.proofs.lemmas.Bool.Decides.{nat_tests}
use Rattle.std.proofs.lemmas.Slice.Eq.{bytes_eq-Decides}
use Rattle.mof_values.specs.declared.instance.Instance.{Instance}
use Rattle.mof_values.specs.declared.instance.Property.{Property}
use Rattle.dsc_document.specs.Declarations.{is_text}
use Rattle.meta_config.specs.declared.error.Limit.TheVariants as limits
use Rattle.meta_config.specs.declared.error.MetaError.{MetaError}
use Rattle.meta_config.specs.declared.error.MetaError.TheVariants.{BadUrl, BadValue, DependsUnknown, DuplicatePartial, TooMany, TwoManagers, TwoMetas, TwoServers}
use Rattle.meta_config.specs.declared.meta.Meta.{Meta}
use Rattle.meta_config.specs.declared.meta.Partial.{Partial}
use Rattle.meta_config.specs.declared.modes.ConfigMode.{ConfigMode}
use Rattle.meta_config.specs.declared.modes.ConfigMode.TheVariants.{ApplyOnly, ApplyAndMonitor, ApplyAndAutoCorrect}
use Rattle.meta_config.specs.declared.modes.RefreshMode.{RefreshMode}
use Rattle.meta_config.specs.declared.modes.RefreshMode.TheVariants.{Push, Pull, Disabled}
use Rattle.meta_config.specs.declared.modes.AfterReboot.{AfterReboot}
use Rattle.meta_config.specs.declared.modes.AfterReboot.TheVariants.{ContinueConfiguration, StopConfiguration}
use Rattle.meta_config.specs.declared.server.Server.{Server}
use Rattle.meta_config.specs.declared.server.Site.{Site}
use Rattle.meta_config.specs.declared.tables.Class.TheVariants as classes
use Rattle.meta_config.specs.Making.{meta_of}
use Rattle.meta_config.specs.Properties.{first_name, from_given}
use Rattle.meta_config.specs.Refusals.{bad_url, bad_value, beside, depends_unknown, duplicate_partial, first_found, first_of, first_two, has_bad_url, has_other_site, is_partial_named, no_meta, refusal_of, refusals_of, second_from, manager_site, too_long, too_many_names, too_many_partials, two_managers, two_metas, two_servers, unknown_in}
use Rattle.meta_config.specs.Tables.{Row, download_rows, is_of, or_wrong, partial_rows, report_rows, resource_rows, settings_rows, wrong_from, wrong_in, wrong_in_row}
use Rattle.meta_config.specs.Urls.{same_site, same_truth, site_named, url_of}
use Rattle.meta_config.specs.Words.{after_name, after_named, fits, is_name, is_reference, is_text_that, mode_name, mode_named, refresh_name, refresh_named}
use Rattle.meta_config.specs.Writing.{download_instance, instances_of, manager_instances, partial_instance, reference_to, report_instance, resource_instance, settings_instance, site_at_server, text_of_meta, text_scalar}
use Rattle.meta_config.proofs.Apart.{AreApart, known_in, no_duplicate, parts_of}
use Rattle.meta_config.proofs.ReadMetas.{parts_count}
use Rattle.meta_config.proofs.Searches.{each_map, each_of, each_weaker, no_find, no_position, nothing_found}
use Rattle.meta_config.proofs.WellFormed.{HasManagers, IsNameText, IsPart, IsServer, IsWellFormed, is_known}
use Rattle.meta_config.proofs.WrittenMetas.{depends_back, managers_each, instances_each, written, written_declare, written_names, written_parts}
use Rattle.meta_config.specs.declared.limits.TheConstants.{MAX_META_TEXT, MAX_NAMES, MAX_PARTIALS}

-- ---- what holds of each instance that is written

pub rest_each : (P : Instance → Type 0) (o : Option Server) (pulls reports : Bool) (names : List (List ℕ))
    → ((server : Server) → o ≡ Some server → P (download_instance names server) × P (report_instance server) × P (resource_instance server))
    → (ps : List Partial) → AllByRecursion (λ p. P (partial_instance p)) ps
    → AllByRecursion P (option_map_or (manager_instances pulls reports names) o [] ++ map partial_instance ps)
rest_each P None pulls reports names each ps all = each_map P partial_instance ps all
rest_each P (Some server) pulls reports names each ps all =
    let m = each server refl in
    managers_each P pulls reports names server m.0 m.1 m.2 (map partial_instance ps) (each_map P partial_instance ps all)

pub managed : (o : Option Server) (pulls reports : Bool) (names : List (List ℕ)) → HasManagers o pulls reports names → (server : Server) → o ≡ Some server → IsServer server
managed o pulls reports names h server e = (subst (λ x. HasManagers x pulls reports names) e h).0

-- ---- one of each class

none_two : (t : Instance → Bool) (is : List Instance) → position_from t 0 is ≡ None → first_two t is ≡ None
none_two t is e = ap (option_and_then (second_from t is)) e

pair : ℕ → ℕ → ℕ × ℕ
pair first second = (first, second)

one_two : (t : Instance → Bool) (is : List Instance) (n : ℕ) → position_from t 0 is ≡ Some n → position_from t (n + 1) (drop (n + 1) is) ≡ None → first_two t is ≡ None
unfolding pair
one_two t is n e f = ap (option_and_then (second_from t is)) e ∙ ap (option_map (pair n)) f

no_parts : (t : Instance → Bool) → ((p : Partial) → t (partial_instance p) ≡ false) → (n : ℕ) (ps : List Partial) → position_from t n (map partial_instance ps) ≡ None
no_parts t differs n ps = no_position t n (map partial_instance ps) (instances_each (λ i. t i ≡ false) differs ps)

one_settings : (settings : Meta) (o : Option Server) (pulls reports : Bool) (names : List (List ℕ)) (ps : List Partial) → first_two (is_of classes.Settings) (written settings o pulls reports names ps) ≡ None
one_settings settings o pulls reports names ps =
    one_two (is_of classes.Settings) (written settings o pulls reports names ps) 0 refl
    (no_position (is_of classes.Settings) 1 (option_map_or (manager_instances pulls reports names) o [] ++ map partial_instance ps)
    (rest_each (λ i. is_of classes.Settings i ≡ false) o pulls reports names (λ server e. (refl, refl, refl)) ps (each_of (λ p. is_of classes.Settings (partial_instance p) ≡ false) (λ p. refl) ps)))

one_download : (settings : Meta) (o : Option Server) (pulls reports : Bool) (names : List (List ℕ)) (ps : List Partial) → first_two (is_of classes.Download) (written settings o pulls reports names ps) ≡ None
one_download settings None pulls reports names ps = none_two (is_of classes.Download) (written settings None pulls reports names ps) (no_parts (is_of classes.Download) (λ p. refl) 1 ps)
one_download settings (Some server) true true names ps = one_two (is_of classes.Download) (written settings (Some server) true true names ps) 1 refl (no_parts (is_of classes.Download) (λ p. refl) 3 ps)
one_download settings (Some server) true false names ps = one_two (is_of classes.Download) (written settings (Some server) true false names ps) 1 refl (no_parts (is_of classes.Download) (λ p. refl) 2 ps)
one_download settings (Some server) false true names ps = none_two (is_of classes.Download) (written settings (Some server) false true names ps) (no_parts (is_of classes.Download) (λ p. refl) 2 ps)
one_download settings (Some server) false false names ps = none_two (is_of classes.Download) (written settings (Some server) false false names ps) (no_parts (is_of classes.Download) (λ p. refl) 2 ps)

one_report : (settings : Meta) (o : Option Server) (pulls reports : Bool) (names : List (List ℕ)) (ps : List Partial) → first_two (is_of classes.Report) (written settings o pulls reports names ps) ≡ None
one_report settings None pulls reports names ps = none_two (is_of classes.Report) (written settings None pulls reports names ps) (no_parts (is_of classes.Report) (λ p. refl) 1 ps)
one_report settings (Some server) true true names ps = one_two (is_of classes.Report) (written settings (Some server) true true names ps) 2 refl (no_parts (is_of classes.Report) (λ p. refl) 3 ps)
one_report settings (Some server) true false names ps = none_two (is_of classes.Report) (written settings (Some server) true false names ps) (no_parts (is_of classes.Report) (λ p. refl) 2 ps)
one_report settings (Some server) false true names ps = one_two (is_of classes.Report) (written settings (Some server) false true names ps) 1 refl (no_parts (is_of classes.Report) (λ p. refl) 2 ps)
one_report settings (Some server) false false names ps = none_two (is_of classes.Report) (written settings (Some server) false false names ps) (no_parts (is_of classes.Report) (λ p. refl) 2 ps)

-- ---- one server

same_host : (cs : List ℕ) → bytes_eq cs cs ≡ true
same_host cs = (bytes_eq-Decides cs cs).1 refl

same_port : (n : ℕ) → (n == n) ≡ true
same_port n = grind (arith, nat_tests)

same_scheme : (b : Bool) → same_truth b b ≡ true
same_scheme true = refl
same_scheme false = refl

same_self : (s : Site) → same_site s s ≡ true
same_self s = λ k. same_scheme s.https k && (same_host s.peer.host k && (same_port s.peer.port k && same_host s.prefix k))

abbrev named_url : Server → Option Site
named_url server = site_named (url_of (site_at_server server))

not_other : (server : Server) → IsServer server → option_map_or (λ s. not (same_site (site_at_server server) s)) (named_url server) false ≡ false
not_other server s = ap (λ o. option_map_or (λ t. not (same_site (site_at_server server) t)) o false) s.site.named ∙ ap not (same_self (site_at_server server))

second_found : Site → List Instance → ℕ → Option MetaError
second_found site is n = option_map (λ (q : ℕ × ℕ). TwoServers q.0 q.1) (second_from (has_other_site site) is n)

at_first : List Instance → ℕ × Site → Option MetaError
at_first is p = second_found p.1 is p.0

servers_at : (is : List Instance) (site : Site) (n : ℕ) → first_found manager_site 0 is ≡ Some (beside n site) → position_from (has_other_site site) (n + 1) (drop (n + 1) is) ≡ None → two_servers is ≡ None
unfolding two_servers second_found at_first pair
servers_at is site n e f = ap (option_and_then (at_first is)) e ∙ ap (λ o. option_map (λ (q : ℕ × ℕ). TwoServers q.0 q.1) (option_map (pair n) o)) f

first_server : (server : Server) → IsServer server → (later : Option (ℕ × Site)) → option_or (option_map (beside 1) (named_url server)) later ≡ Some (beside 1 (site_at_server server))
first_server server s later = ap (λ o. option_or (option_map (beside 1) o) later) s.site.named

one_server : (settings : Meta) (o : Option Server) (pulls reports : Bool) (names : List (List ℕ)) (ps : List Partial) → HasManagers o pulls reports names
    → two_servers (written settings o pulls reports names ps) ≡ None
unfolding two_servers second_found at_first
one_server settings None pulls reports names ps h =
    ap (option_and_then (at_first (written settings None pulls reports names ps)))
    (nothing_found manager_site 1 (map partial_instance ps) (instances_each (λ i. manager_site i ≡ None) (λ p. refl) ps))
one_server settings (Some server) true true names ps h =
    servers_at (written settings (Some server) true true names ps) (site_at_server server) 1 (first_server server h.0 _)
    (ap (λ b. cond b (Some 2) (position_from (has_other_site (site_at_server server)) 3 (map partial_instance ps))) (not_other server h.0)
    ∙ no_parts (has_other_site (site_at_server server)) (λ p. refl) 3 ps)
one_server settings (Some server) true false names ps h =
    servers_at (written settings (Some server) true false names ps) (site_at_server server) 1 (first_server server h.0 _) (no_parts (has_other_site (site_at_server server)) (λ p. refl) 2 ps)
one_server settings (Some server) false true names ps h =
    servers_at (written settings (Some server) false true names ps) (site_at_server server) 1 (first_server server h.0 _) (no_parts (has_other_site (site_at_server server)) (λ p. refl) 2 ps)
one_server settings (Some server) false false names ps h =
    servers_at (written settings (Some server) false false names ps) (site_at_server server) 1 (first_server server h.0 _) (no_parts (has_other_site (site_at_server server)) (λ p. refl) 2 ps)

-- ---- values

row_right : (r : Row) (ps : List Property) (p : Property) (rest : List Property) → from_given r.name ps ≡ p ∷ rest → fits r.domain p.value ≡ true → from_given r.name rest ≡ []
    → wrong_in_row r ps ≡ None
unfolding wrong_in_row
row_right r ps p rest e fit last =
    ap (wrong_from r) e ∙ ap (λ b. cond b (first_name (from_given r.name rest)) (Some p.name)) fit ∙ ap first_name last

row_absent : (r : Row) (ps : List Property) → from_given r.name ps ≡ [] → wrong_in_row r ps ≡ None
unfolding wrong_in_row
row_absent r ps e = ap (wrong_from r) e

rows_right : (found : Option (List ℕ)) (rs : List Row) (ps : List Property) → found ≡ None → AllByRecursion (λ r. wrong_in_row r ps ≡ None) rs → or_wrong found rs ps ≡ None
rows_right found [] ps e all = e
rows_right found (r ∷ rs) ps e all = rows_right (option_or found (wrong_in_row r ps)) rs ps ((λ k. option_or (e k) (wrong_in_row r ps)) ∙ all.0) all.1

mode_fits : (mode : ConfigMode) → is_some (mode_named (mode_name mode)) ≡ true
mode_fits ApplyOnly = refl
mode_fits ApplyAndMonitor = refl
mode_fits ApplyAndAutoCorrect = refl

refresh_fits : (mode : RefreshMode) → is_some (refresh_named (refresh_name mode)) ≡ true
refresh_fits Push = refl
refresh_fits Pull = refl
refresh_fits Disabled = refl

after_fits : (after : AfterReboot) → is_some (after_named (after_name after)) ≡ true
after_fits ContinueConfiguration = refl
after_fits StopConfiguration = refl

minutes_fit : (n : ℕ) → n < 4294967296 → is_some (cond (nat_lt n 4294967296) (Some n) None) ≡ true
minutes_fit n small =
    let e : nat_lt n 4294967296 ≡ true = grind (arith, nat_tests) in
    ap (λ b. is_some (cond b (Some n) None)) e

settings_right : (meta : Meta) → meta.mode_mins < 4294967296 → meta.refresh_mins < 4294967296 → wrong_in (settings_instance meta) ≡ None
settings_right meta a b =
    let ps = (settings_instance meta).properties in
    rows_right None settings_rows ps refl (
      row_right _ ps _ _ refl (mode_fits meta.mode) refl,
      (
        row_right _ ps _ _ refl (refresh_fits meta.refresh) refl,
        (
          row_right _ ps _ _ refl refl refl,
          (row_right _ ps _ _ refl (after_fits meta.after) refl, (row_right _ ps _ _ refl (minutes_fit meta.mode_mins a) refl, (row_right _ ps _ _ refl (minutes_fit meta.refresh_mins b) refl, (row_right _ ps _ _ refl refl refl, tt)))),
        ),
      ),
    )

names_fit : (names : List (List ℕ)) → AllByRecursion IsNameText names → list_all (is_text_that is_name) (map text_scalar names) ≡ true
names_fit [] all = refl
names_fit (n ∷ ns) all = ap (λ b. b && list_all (is_text_that is_name) (map text_scalar ns)) all.0.sized ∙ names_fit ns all.1

are_texts : (texts : List (List ℕ)) → list_all is_text (map text_scalar texts) ≡ true
are_texts [] = refl
are_texts (t ∷ ts) = are_texts ts

references_fit : (names : List (List ℕ)) → AllByRecursion IsNameText names → list_all (is_text_that is_reference) (map text_scalar (map reference_to names)) ≡ true
references_fit [] all = refl
references_fit (n ∷ ns) all = ap (λ b. b && list_all (is_text_that is_reference) (map text_scalar (map reference_to ns))) all.0.sized ∙ references_fit ns all.1

download_right : (names : List (List ℕ)) (server : Server) → AllByRecursion IsNameText names → wrong_in (download_instance names server) ≡ None
download_right names server all =
    let ps = (download_instance names server).properties in
    rows_right None download_rows ps refl (row_right _ ps _ _ refl refl refl, (row_right _ ps _ _ refl refl refl, (row_right _ ps _ _ refl (names_fit names all) refl, tt)))

report_right : (server : Server) → wrong_in (report_instance server) ≡ None
report_right server =
    let ps = (report_instance server).properties in
    rows_right None report_rows ps refl (row_right _ ps _ _ refl refl refl, (row_right _ ps _ _ refl refl refl, tt))

resource_right : (server : Server) → wrong_in (resource_instance server) ≡ None
resource_right server =
    let ps = (resource_instance server).properties in
    rows_right None resource_rows ps refl (row_right _ ps _ _ refl refl refl, tt)

part_right : (name : List ℕ) (depends exclusive : List (List ℕ)) (refresh : Option RefreshMode) → is_name name ≡ true → AllByRecursion IsNameText depends
    → wrong_in (partial_instance (record { name = name; depends = depends; exclusive = exclusive; refresh = refresh })) ≡ None
part_right name depends exclusive None named all =
    let ps = (partial_instance (record { name = name; depends = depends; exclusive = exclusive; refresh = None })).properties in
    rows_right None partial_rows ps refl (row_right _ ps _ _ refl named refl, (row_right _ ps _ _ refl (references_fit depends all) refl, (row_right _ ps _ _ refl (are_texts exclusive) refl, (row_absent _ ps refl, tt))))
part_right name depends exclusive (Some mode) named all =
    let ps = (partial_instance (record { name = name; depends = depends; exclusive = exclusive; refresh = Some mode })).properties in
    rows_right None partial_rows ps refl (row_right _ ps _ _ refl named refl, (row_right _ ps _ _ refl (references_fit depends all) refl, (row_right _ ps _ _ refl (are_texts exclusive) refl, (row_right _ ps _ _ refl (refresh_fits mode) refl, tt))))

-- ---- the refusals, one by one

settings_found : (meta : Meta) → no_meta (instances_of meta) ≡ None
unfolding no_meta
settings_found meta = refl

no_two_metas : (meta : Meta) → two_metas (instances_of meta) ≡ None
unfolding two_metas
no_two_metas meta = ap (option_map (λ (p : ℕ × ℕ). TwoMetas p.0 p.1)) (one_settings meta meta.server meta.pulls meta.reports meta.names meta.partials)

no_two_downloads : (meta : Meta) → two_managers classes.Download (instances_of meta) ≡ None
unfolding two_managers
no_two_downloads meta = ap (option_map (λ (p : ℕ × ℕ). TwoManagers p.0 p.1)) (one_download meta meta.server meta.pulls meta.reports meta.names meta.partials)

no_two_reports : (meta : Meta) → two_managers classes.Report (instances_of meta) ≡ None
unfolding two_managers
no_two_reports meta = ap (option_map (λ (p : ℕ × ℕ). TwoManagers p.0 p.1)) (one_report meta meta.server meta.pulls meta.reports meta.names meta.partials)

good_url : (server : Server) → IsServer server → is_none (named_url server) ≡ false
good_url server s = ap is_none s.site.named

no_bad_url : (meta : Meta) → IsWellFormed meta → bad_url (instances_of meta) ≡ None
unfolding bad_url
no_bad_url meta w =
    ap (option_map (λ (index : ℕ). BadUrl index))
    (no_position has_bad_url 0 (instances_of meta) (
      refl,
      rest_each (λ i. has_bad_url i ≡ false) meta.server meta.pulls meta.reports meta.names
          (λ server e. let g = good_url server (managed meta.server meta.pulls meta.reports meta.names w.managers server e) in (g, g, g))
          meta.partials (each_of (λ p. has_bad_url (partial_instance p) ≡ false) (λ p. refl) meta.partials),
    ))

no_bad_value : (meta : Meta) → IsWellFormed meta → bad_value (instances_of meta) ≡ None
unfolding bad_value
no_bad_value meta w =
    ap (option_map (λ (p : ℕ × List ℕ). BadValue p.0 p.1))
    (nothing_found wrong_in 0 (instances_of meta) (
      settings_right meta w.mode_mins w.refresh_mins,
      rest_each (λ i. wrong_in i ≡ None) meta.server meta.pulls meta.reports meta.names
          (λ server e. (download_right meta.names server w.names, report_right server, resource_right server))
          meta.partials
          (each_weaker IsPart (λ p. wrong_in (partial_instance p) ≡ None) (λ p is. part_right p.name p.depends p.exclusive p.refresh is.name.sized is.depends) meta.partials w.partials),
    ))

parts_written : (meta : Meta) → parts_of (instances_of meta) ≡ meta.partials
parts_written meta = written_parts meta meta.server meta.pulls meta.reports meta.names meta.partials

not_too_many_partials : (meta : Meta) → IsWellFormed meta → too_many_partials (instances_of meta) ≡ None
unfolding too_many_partials
not_too_many_partials meta w =
    ap (λ n. cond (nat_le n MAX_PARTIALS) None (Some (TooMany limits.Partials))) (parts_count (instances_of meta) ∙ ap length (parts_written meta))
    ∙ ap (λ b. cond b None (Some (TooMany limits.Partials))) w.few_partials

not_too_many_names : (meta : Meta) → IsWellFormed meta → too_many_names (instances_of meta) ≡ None
unfolding too_many_names
not_too_many_names meta w =
    ap (λ l. cond (nat_le (length l) MAX_NAMES) None (Some (TooMany limits.Names))) (written_names meta meta.server meta.pulls meta.reports meta.names meta.partials w.managers w.names_once)
    ∙ ap (λ b. cond b None (Some (TooMany limits.Names))) w.few_names

short_is_not_too_long : (meta : Meta) → nat_le (length (text_of_meta meta)) MAX_META_TEXT ≡ true → too_long meta ≡ None
unfolding too_long
short_is_not_too_long meta e = ap (λ b. cond b None (Some (TooMany limits.Text))) e

not_too_long : (meta : Meta) → IsWellFormed meta → too_long (meta_of (instances_of meta)) ≡ None
not_too_long meta w = ap too_long (written_declare meta w) ∙ short_is_not_too_long meta w.short

no_duplicates : (meta : Meta) → IsWellFormed meta → duplicate_partial (instances_of meta) ≡ None
unfolding duplicate_partial
no_duplicates meta w =
    ap (option_map (λ (p : ℕ × ℕ). DuplicatePartial p.0 p.1))
    (no_duplicate [] (instances_of meta) (instances_of meta) 0 refl refl (subst (AreApart []) (sym (parts_written meta)) w.apart))

-- a name that is known among the partial configurations that are written
known_written : (meta : Meta) (name : List ℕ) → is_known meta.partials name ≡ true → not (list_any (is_partial_named name) (instances_of meta)) ≡ false
known_written meta name e = ap not (known_in name (instances_of meta) ∙ ap (λ ps. is_known ps name) (parts_written meta) ∙ e)

part_known : (meta : Meta) (p : Partial) → AllByRecursion (λ name. is_known meta.partials name ≡ true) p.depends → unknown_in (instances_of meta) (partial_instance p) ≡ None
part_known meta p all =
    ap (find (λ name. not (list_any (is_partial_named name) (instances_of meta)))) (depends_back p.depends)
    ∙ no_find (λ name. not (list_any (is_partial_named name) (instances_of meta))) p.depends
    (each_weaker (λ name. is_known meta.partials name ≡ true) (λ name. not (list_any (is_partial_named name) (instances_of meta)) ≡ false) (λ name e. known_written meta name e) p.depends all)

no_unknown : (meta : Meta) → IsWellFormed meta → depends_unknown (instances_of meta) ≡ None
unfolding depends_unknown
no_unknown meta w =
    ap (option_map (λ (p : ℕ × List ℕ). DependsUnknown p.0 p.1))
    (nothing_found (unknown_in (instances_of meta)) 0 (instances_of meta) (
      refl,
      rest_each (λ i. unknown_in (instances_of meta) i ≡ None) meta.server meta.pulls meta.reports meta.names (λ server e. (refl, refl, refl)) meta.partials
          (each_weaker (λ (p : Partial). AllByRecursion (λ name. is_known meta.partials name ≡ true) p.depends) (λ p. unknown_in (instances_of meta) (partial_instance p) ≡ None) (λ p all. part_known meta p all) meta.partials w.known),
    ))

none_firsts : (os : List (Option MetaError)) → AllByRecursion (λ o. o ≡ None) os → first_of os ≡ None
none_firsts [] all = refl
none_firsts (o ∷ os) all = ap (λ x. option_or x (first_of os)) all.0 ∙ none_firsts os all.1

-- the instances that are written are not refused
pub written_accepted : (meta : Meta) → IsWellFormed meta → refusal_of (instances_of meta) ≡ None
written_accepted meta w =
    none_firsts (refusals_of (instances_of meta)) (
      settings_found meta,
      (
        no_two_metas meta,
        (
          no_two_downloads meta,
          (
            no_two_reports meta,
            (
              no_bad_url meta w,
              (
                one_server meta meta.server meta.pulls meta.reports meta.names meta.partials w.managers,
                (
                  no_bad_value meta w,
                  (
                    not_too_many_partials meta w,
                    (
                      not_too_many_names meta w,
                      (not_too_long meta w, (no_duplicates meta w, (no_unknown meta w, tt))),
                    ),
                  ),
                ),
              ),
            ),
          ),
        ),
      ),
    )
