-- The command line of the pull server, and its values.
use Rattle.std.specs.Prelude.{◌≡◌, ◌≤◌, ℕ, List, [], true, codes, Option, Some, pos, encode_utf8_all}
use Rattle.std.specs.Str.Parse.{IsNumeral, digits_value, without_leading_plus}
use Rattle.clap.specs.Words.{App, Row, Rule, first_of, fault_of, matches_of, new_app, new_rule, one_of, with_rule}
use Rattle.clap.specs.Simple.{on_top}
use Rattle.clap.specs.declared.builder.ArgAction.TheVariants.{Set}
use Rattle.clap.specs.declared.builder.value_parser.ValueParser.TheVariants as vp
use Rattle.serve_words.specs.declared.command.TheConstants.{MAX_CONNECTIONS}
use Rattle.serve_words.specs.declared.words.ServeWords.{ServeWords}

-- ---- the command

-- an option that must be there, once and with one value
abbrev pub option_rule : List ℕ → Rule
option_rule name = record (new_rule name) { long = Some name; action = Some Set; required = true }

abbrev pub count_rule : Rule
count_rule = record (option_rule (codes "connections")) { parser = Some (vp.Signed (pos 1) (pos MAX_CONNECTIONS)) }

-- no argument is the program's name
abbrev pub bare : App
bare = on_top (λ s. record s { no_binary_name = true }) (new_app (codes "serve"))

abbrev pub serve_app : App
serve_app =
    with_rule (with_rule (with_rule (with_rule bare (option_rule (codes "store"))) (option_rule (codes "shelf")))
    (option_rule (codes "listen"))) count_rule

-- ---- the values

-- the text spells this number of connections, in decimal digits, where a plus and zeros may stand first
pub record SpellsCount (text : List ℕ) (count : ℕ) : Type 0 where
  pub numeral : IsNumeral 10 (without_leading_plus text)
  pub value : digits_value 10 (without_leading_plus text) ≡ count
  pub least : 1 ≤ count
  pub most : count ≤ MAX_CONNECTIONS

-- the first value of the option with this name in the arguments
unfoldable pub value_of : List ℕ → List (List ℕ) → Option (List ℕ)
value_of name arguments = first_of name (matches_of serve_app arguments)

-- the arguments, each in UTF-8, are taken, and these are their values
pub record AreValues (arguments : List (List ℕ)) (values : ServeWords) : Type 0 where
  pub taken : fault_of serve_app arguments ≡ []
  pub store : value_of (codes "store") arguments ≡ Some (encode_utf8_all values.store)
  pub shelf : value_of (codes "shelf") arguments ≡ Some (encode_utf8_all values.shelf)
  pub listen : value_of (codes "listen") arguments ≡ Some (encode_utf8_all values.listen)
  pub connections : (text : List ℕ) × (value_of (codes "connections") arguments ≡ Some text) × SpellsCount text values.connections

-- ---- what a parse found

-- the option has a value
abbrev pub HasText : List ℕ → List Row → Type 0
HasText name rows = (text : List ℕ) × (first_of name rows ≡ Some text)

-- the number of connections is spelled, as it stands in the arguments and as it is read
abbrev pub HasCount : List Row → ℕ → Type 0
HasCount rows count =
    (text : List ℕ) × (first_of (codes "connections") rows ≡ Some text) × (one_of (codes "connections") rows ≡ Some text)
    × SpellsCount text count
