-- Why instances declare no meta-configuration. Each refusal is found at the least index, and the first that is found wins.
use Rattle.std.specs.Prelude.{◌≡◌, ◌≢◌, ℕ, ◌+◌, Bool, false, not, ◌&&◌, if◌then◌else◌, nat_le, List, [], ◌∷◌, length, drop, take, Option, Some, None, is_none, option_map, option_and_then, find, count_by, Result, MatchResult, ⊤}
use Rattle.std.specs.List.{list_any, position_from}
use Rattle.std.specs.Option.{option_map_or, option_or}
use Rattle.mof_values.specs.declared.instance.Instance.{Instance}
use Rattle.mof_syntax.specs.Refusals as mof
use Rattle.mof_syntax.specs.declared.mof_error.MofError.{MofError}
use Rattle.mof_syntax.specs.declared.mof_error.MofError.TheVariants as mof_errors
use Rattle.mof_values.specs.Fold.{same_name}
use Rattle.meta_config.specs.declared.error.Limit.TheVariants as limits
use Rattle.meta_config.specs.declared.error.MetaError.{MetaError}
use Rattle.meta_config.specs.declared.error.MetaError.TheVariants.{Mof, NoMeta, TwoMetas, TwoManagers, BadUrl, TwoServers, BadValue, TooMany, DuplicatePartial, DependsUnknown, Memory}
use Rattle.meta_config.specs.declared.limits.TheConstants.{MAX_META_TEXT, MAX_NAMES, MAX_PARTIALS}
use Rattle.meta_config.specs.declared.meta.Meta.{Meta}
use Rattle.meta_config.specs.declared.server.Site.{Site}
use Rattle.meta_config.specs.declared.tables.Class.{Class}
use Rattle.meta_config.specs.declared.tables.Class.TheVariants as classes
use Rattle.meta_config.specs.Tables.{is_of, is_manager, wrong_in}
use Rattle.meta_config.specs.Urls.{same_site}
use Rattle.meta_config.specs.Making.{site_given, names_of, partial_name, depends_of, meta_of}
use Rattle.meta_config.specs.Writing.{text_of_meta}

-- ---- searches

abbrev pub beside : {Y : Type 0} → ℕ → Y → ℕ × Y
beside n y = (n, y)

abbrev pub before : ℕ → ℕ → ℕ × ℕ
before n first = (first, n)

-- the first place from a number on at which something is found, with what is found there
abbrev pub first_found : {X Y : Type 0} → (X → Option Y) → ℕ → List X → Option (ℕ × Y)
first_found f n [] = None
first_found f n (x ∷ xs) = option_or (option_map (beside n) (f x)) (first_found f (n + 1) xs)

-- the first place after another at which the test passes, beside that other
abbrev pub second_from : (Instance → Bool) → List Instance → ℕ → Option (ℕ × ℕ)
second_from test instances first =
    option_map (λ second. (first, second)) (position_from test (first + 1) (drop (first + 1) instances))

-- the first two places at which the test passes
abbrev pub first_two : (Instance → Bool) → List Instance → Option (ℕ × ℕ)
first_two test instances = option_and_then (second_from test instances) (position_from test 0 instances)

-- ---- refusals, one by one

unfoldable pub no_meta : List Instance → Option MetaError
no_meta instances = if list_any (is_of classes.Settings) instances then None else Some NoMeta

unfoldable pub two_metas : List Instance → Option MetaError
two_metas instances = option_map (λ p. TwoMetas p.0 p.1) (first_two (is_of classes.Settings) instances)

unfoldable pub two_managers : Class → List Instance → Option MetaError
two_managers class instances = option_map (λ p. TwoManagers p.0 p.1) (first_two (is_of class) instances)

-- a manager without a ServerURL that names a site
abbrev pub has_bad_url : Instance → Bool
has_bad_url i = is_manager i && is_none (site_given i.properties)

unfoldable pub bad_url : List Instance → Option MetaError
bad_url instances = option_map (λ index. BadUrl index) (position_from has_bad_url 0 instances)

abbrev pub manager_site : Instance → Option Site
manager_site i = if is_manager i then site_given i.properties else None

abbrev pub has_other_site : Site → Instance → Bool
has_other_site site i = option_map_or (λ s. not (same_site site s)) (manager_site i) false

-- the first manager, and the first one that names another server
unfoldable pub two_servers : List Instance → Option MetaError
two_servers instances =
    option_and_then (λ p. option_map (λ q. TwoServers q.0 q.1) (second_from (has_other_site p.1) instances p.0)) (first_found manager_site 0 instances)

unfoldable pub bad_value : List Instance → Option MetaError
bad_value instances = option_map (λ p. BadValue p.0 p.1) (first_found wrong_in 0 instances)

unfoldable pub too_many_partials : List Instance → Option MetaError
too_many_partials instances =
    if nat_le (count_by (is_of classes.Partial) instances) MAX_PARTIALS then None else Some (TooMany limits.Partials)

unfoldable pub too_many_names : List Instance → Option MetaError
too_many_names instances = if nat_le (length (names_of instances)) MAX_NAMES then None else Some (TooMany limits.Names)

unfoldable pub too_long : Meta → Option MetaError
too_long meta = if nat_le (length (text_of_meta meta)) MAX_META_TEXT then None else Some (TooMany limits.Text)

-- a partial configuration of that name
abbrev pub is_partial_named : List ℕ → Instance → Bool
is_partial_named name i = is_of classes.Partial i && same_name (partial_name i.properties) name

-- the first of the instances before, that is a partial configuration of the name that this one has
abbrev pub earlier_of : List Instance → Instance → Option ℕ
earlier_of before i =
    if is_of classes.Partial i then position_from (is_partial_named (partial_name i.properties)) 0 before else None

-- the first partial configuration, from a number on, whose name one before it has
abbrev pub duplicate_from : List Instance → ℕ → List Instance → Option (ℕ × ℕ)
duplicate_from all n [] = None
duplicate_from all n (i ∷ is) = option_or (option_map (before n) (earlier_of (take n all) i)) (duplicate_from all (n + 1) is)

unfoldable pub duplicate_partial : List Instance → Option MetaError
duplicate_partial instances = option_map (λ p. DuplicatePartial p.0 p.1) (duplicate_from instances 0 instances)

-- the first name that a partial configuration depends on and that none has
abbrev pub unknown_in : List Instance → Instance → Option (List ℕ)
unknown_in instances i =
    if is_of classes.Partial i then find (λ name. not (list_any (is_partial_named name) instances)) (depends_of i.properties) else None

unfoldable pub depends_unknown : List Instance → Option MetaError
depends_unknown instances = option_map (λ p. DependsUnknown p.0 p.1) (first_found (unknown_in instances) 0 instances)

-- ---- the refusal

-- the first that is found, in the order in which they win
abbrev pub first_of : List (Option MetaError) → Option MetaError
first_of [] = None
first_of (o ∷ os) = option_or o (first_of os)

-- each of them, if it is found
abbrev pub refusals_of : List Instance → List (Option MetaError)
refusals_of instances =
    no_meta instances
    ∷ two_metas instances
    ∷ two_managers classes.Download instances
    ∷ two_managers classes.Report instances
    ∷ bad_url instances
    ∷ two_servers instances
    ∷ bad_value instances
    ∷ too_many_partials instances
    ∷ too_many_names instances
    ∷ too_long (meta_of instances)
    ∷ duplicate_partial instances
    ∷ depends_unknown instances
    ∷ []

abbrev pub refusal_of : List Instance → Option MetaError
refusal_of instances = first_of (refusals_of instances)

-- ---- what bytes mean

-- the bytes spell instances that are not refused, and that declare the meta-configuration
pub record Means (bytes : List ℕ) (meta : Meta) : Type 0 where
  pub instances : List Instance
  pub read : mof.Reads bytes instances
  pub accepted : refusal_of instances ≡ None
  pub made : meta ≡ meta_of instances

-- the bytes spell instances that are refused so
pub record IsRefused (bytes : List ℕ) (refusal : MetaError) : Type 0 where
  pub instances : List Instance
  pub read : mof.Reads bytes instances
  pub refused : refusal_of instances ≡ Some refusal

-- the bytes are refused so. `Memory` has no cause here
abbrev pub Refuses : List ℕ → MetaError → Type 0
Refuses bytes (Mof fault) = mof.Refuses bytes fault × (fault ≢ mof_errors.Memory)
Refuses bytes Memory = ⊤
Refuses bytes refusal = IsRefused bytes refusal

-- the refusal of bytes that spell no instances
abbrev pub refusal_of_text : MofError → MetaError
refusal_of_text mof_errors.Memory = Memory
refusal_of_text fault = Mof fault

-- what a test answers: nothing where nothing is found, else what is found, if memory lasts
abbrev pub Answers : {T : Type 0} → Option MetaError → Result T MetaError → Type 0
Answers found result = MatchResult result (λ _. found ≡ None) (λ e. e ≢ Memory → found ≡ Some e)
