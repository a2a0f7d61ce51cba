-- The command line of the program, and its values.
use Rattle.std.specs.Prelude.{◌≡◌, ◌⊎◌, ◌<◌, ◌^◌, ℕ, ◌&&◌, ◌||◌, not, Bool, true, false, if◌then◌else◌, List, [], ◌∷◌, codes, map, Option, Some, None, is_none, is_some, unwrap_or, encode_utf8_all, bytes_eq, ⊤}
use Rattle.std.specs.List.{list_any}
use Rattle.std.specs.Str.Parse.{IsNumeral, digits_value, without_leading_plus}
use Rattle.clap.specs.Words.{App, Row, Rule, all_of, first_of, fault_of, matches_of, new_app, new_rule, with_rule}
use Rattle.clap.specs.Simple.{on_top}
use Rattle.clap.specs.declared.builder.ArgAction.TheVariants.{Set, Append, SetTrue}
use Rattle.pull_messages.specs.Targets.{agent_of}
use Rattle.agent_class.specs.declared.class.Class.{Class}
use Rattle.store_lines.specs.declared.choice.Choice.{Choice}
use Rattle.store_lines.specs.declared.task.Task.{Task}
use Rattle.store_lines.specs.declared.task.Task.TheVariants.{Lines, Reports, Table, Gauges, Forget}
use Rattle.store_lines.specs.declared.task.FleetOptions.{FleetOptions}
use Rattle.store_lines.specs.declared.words.FleetWords.{FleetWords}
use Rattle.store_lines.specs.Told.{class_word}

-- ---- the command

-- the paths of stores, of which there is one at least
abbrev pub stores_rule : Rule
stores_rule = record (new_rule (codes "store")) { action = Some Append; required = true }

-- an option that may stand as often as one likes, with one value
abbrev pub many_rule : List ℕ → Rule
many_rule name = record (new_rule name) { long = Some name; action = Some Append }

-- an option that may stand once, with one value
abbrev pub option_rule : List ℕ → Rule
option_rule name = record (new_rule name) { long = Some name; action = Some Set }

-- one that may stand once, without a value
abbrev pub flag_rule : List ℕ → Rule
flag_rule name = record (new_rule name) { long = Some name; action = Some SetTrue }

-- no argument is the program's name
abbrev pub bare : App
bare = on_top (λ s. record s { no_binary_name = true }) (new_app (codes "fleet"))

abbrev pub looking_app : App
looking_app = with_rule (with_rule (with_rule bare stores_rule) (many_rule (codes "class"))) (option_rule (codes "older"))

abbrev pub printing_app : App
printing_app = with_rule (with_rule (with_rule looking_app (flag_rule (codes "reports"))) (flag_rule (codes "table"))) (flag_rule (codes "prometheus"))

unfoldable pub fleet_app : App
fleet_app =
    with_rule (with_rule (with_rule printing_app (many_rule (codes "forget"))) (option_rule (codes "forget-silent")))
    (flag_rule (codes "forget-never-reported"))

-- ---- the values

-- the values of the argument with this name in what a parse found
abbrev pub texts_of : List ℕ → List Row → List (List ℕ)
texts_of name rows = unwrap_or (all_of name rows) []

-- the text spells this number, in decimal digits, where a plus and zeros may stand first
pub record SpellsNumber (text : List ℕ) (number : ℕ) : Type 0 where
  pub numeral : IsNumeral 10 (without_leading_plus text)
  pub value : digits_value 10 (without_leading_plus text) ≡ number
  pub fits : number < 2 ^ 32

-- where a text is given, the number is the one that it spells
abbrev pub IsNumber : Option (List ℕ) → Option ℕ → Type 0
IsNumber None None = ⊤
IsNumber None (Some number) = ⊥
IsNumber (Some text) None = ⊥
IsNumber (Some text) (Some number) = SpellsNumber text number

-- a text is given, and spells no number
abbrev pub IsUnread : Option (List ℕ) → Type 0
IsUnread None = ⊥
IsUnread (Some text) = (number : ℕ) → SpellsNumber text number → ⊥

-- the names are not those of classes
abbrev pub AreNoClasses : List (List ℕ) → Type 0
AreNoClasses names = (classes : List Class) → map class_word classes ≡ names → ⊥

-- the texts are the hyphenated forms of these ids, with digits in either case
abbrev pub AreIds : List (List ℕ) → List ℕ → Type 0
AreIds texts ids = map agent_of texts ≡ map Some ids

abbrev pub AreNoIds : List (List ℕ) → Type 0
AreNoIds texts = (ids : List ℕ) → AreIds texts ids → ⊥

-- a parse has the value `true` for a flag that is set
abbrev pub IsFlag : Option (List ℕ) → Bool → Type 0
IsFlag given true = given ≡ Some (codes "true")
IsFlag given false = given ≡ Some (codes "true") → ⊥

-- this is the choice in what a parse found
pub record IsChoice (rows : List Row) (choice : Choice) : Type 0 where
  pub agents : AreIds (texts_of (codes "forget") rows) choice.agents
  pub silent : IsNumber (first_of (codes "forget-silent") rows) choice.silent_days
  pub never : IsFlag (first_of (codes "forget-never-reported") rows) choice.never_reported

-- these are the values in what a parse found
pub record AreOptions (rows : List Row) (options : FleetOptions) : Type 0 where
  pub stores : map encode_utf8_all options.stores ≡ texts_of (codes "store") rows
  pub classes : map class_word options.classes ≡ texts_of (codes "class") rows
  pub older : IsNumber (first_of (codes "older") rows) options.older
  pub reports : IsFlag (first_of (codes "reports") rows) options.reports
  pub table : IsFlag (first_of (codes "table") rows) options.table
  pub prometheus : IsFlag (first_of (codes "prometheus") rows) options.prometheus
  pub choice : IsChoice rows options.choice

-- an id, or the number of days, is none
abbrev pub IsNoChoice : List Row → Type 0
IsNoChoice rows = AreNoIds (texts_of (codes "forget") rows) ⊎ IsUnread (first_of (codes "forget-silent") rows)

-- a class has another name, or a number or an id is none
abbrev pub AreNoOptions : List Row → Type 0
AreNoOptions rows = AreNoClasses (texts_of (codes "class") rows) ⊎ IsUnread (first_of (codes "older") rows) ⊎ IsNoChoice rows

-- ---- the task

abbrev pub is_empty : {A : Type 0} → List A → Bool
is_empty [] = true
is_empty (x ∷ xs) = false

abbrev pub is_one : {A : Type 0} → List A → Bool
is_one [] = false
is_one (x ∷ xs) = is_empty xs

-- some agents are to be forgotten
abbrev pub chooses : Choice → Bool
chooses choice = not (is_empty choice.agents) || is_some choice.silent_days || choice.never_reported

-- no option says what is printed
abbrev pub prints_nothing : FleetOptions → Bool
prints_nothing options =
    not options.reports && not options.table && not options.prometheus && is_empty options.classes && is_none options.older

-- the form of what is printed: one at most is given
abbrev pub form_of : Bool → Bool → Bool → Option Task
form_of false false false = Some Lines
form_of true false false = Some Reports
form_of false true false = Some Table
form_of false false true = Some Gauges
form_of _ _ _ = None

-- one of the texts stands twice
abbrev pub is_repeated : List (List ℕ) → Bool
is_repeated [] = false
is_repeated (text ∷ texts) = list_any (bytes_eq text) texts || is_repeated texts

-- of each store there is one sample of a gauge
abbrev pub printed_form : FleetOptions → Option Task
printed_form options =
    if options.prometheus && is_repeated options.stores then None else form_of options.reports options.table options.prometheus

-- agents are forgotten of one store, and nothing else is asked then
abbrev pub task_of : FleetOptions → Option Task
task_of options =
    if chooses options.choice then (if prints_nothing options && is_one options.stores then Some Forget else None)
    else printed_form options

-- ---- the answers

-- the arguments, each in UTF-8, are taken, and these are their values
pub record AreValues (arguments : List (List ℕ)) (words : FleetWords) : Type 0 where
  pub taken : fault_of fleet_app arguments ≡ []
  pub options : AreOptions (matches_of fleet_app arguments) words.options
  pub task : task_of words.options ≡ Some words.task

-- the options, each with its value, do not go together
pub record AreApart (rows : List Row) : Type 0 where
  pub options : FleetOptions
  pub are : AreOptions rows options
  pub task : task_of options ≡ None

-- the command refuses them, a value is none, or the options do not go together
abbrev pub IsRefused : List (List ℕ) → Type 0
IsRefused arguments =
    (fault_of fleet_app arguments ≡ [] → ⊥) ⊎ AreNoOptions (matches_of fleet_app arguments) ⊎ AreApart (matches_of fleet_app arguments)
