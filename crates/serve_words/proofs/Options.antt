-- The four options of the built command, and what a name, a letter or an id finds there.
use Rattle.std.proofs.Common.{◌≡◌, Bool, true, false, List, [], ◌∷◌, refl, sym, codes, cond, ◌||◌, Option, Some, None, pos, bytes_eq}
use Rattle.std.proofs.lemmas.Slice.Eq.{bytes_eq-Decides}
use Rattle.clap.specs.Faults.{fault_of, settle_fault, defaults_fault, check_fault, walk_fault}
use Rattle.clap.specs.Kinds.{Kinds, or_else}
use Rattle.clap.specs.Simple.{Shape, built, new_rule, new_shape}
use Rattle.clap.specs.Walk.{Rule, Text, Walk, finished, nothing_held, settled, walk_from, walked, arg_by_long}
use Rattle.std.specs.Prelude.{fold}
use Rattle.clap.specs.declared.builder.action.ArgAction.TheVariants.{Set, Help}
use Rattle.clap.specs.declared.builder.value_parser.ValueParser.{ValueParser}
use Rattle.clap.specs.declared.builder.value_parser.ValueParser.TheVariants as vp
use Rattle.clap.proofs.FaultLemmas.{leaf_fault}
use Rattle.serve_words.specs.declared.command.TheConstants.{MAX_CONNECTIONS}
use Rattle.serve_words.specs.Words.{serve_app}

pub data Which : Type 0 where
  store : Which
  shelf : Which
  listen : Which
  connections : Which

abbrev pub name : Which → Text
name store = codes "store"
name shelf = codes "shelf"
name listen = codes "listen"
name connections = codes "connections"

abbrev pub parser : Which → ValueParser
parser store = vp.String
parser shelf = vp.String
parser listen = vp.String
parser connections = vp.Signed (pos 1) (pos MAX_CONNECTIONS)

-- the option as the command is built
abbrev pub rule : Which → Rule
rule o = record (new_rule (name o)) {
  long = Some (name o);
  action = Some Set;
  range = Some (record { start_inclusive = 1; end_inclusive = 1 });
  parser = Some (parser o);
  required = true;
}

abbrev pub help : Rule
help = record (new_rule (codes "help")) {
  short = Some 104;
  long = Some (codes "help");
  action = Some Help;
  range = Some (record { start_inclusive = 0; end_inclusive = 0 });
  parser = Some vp.String;
}

abbrev pub rules : List Rule
rules = rule store ∷ rule shelf ∷ rule listen ∷ rule connections ∷ help ∷ []

abbrev pub shape : Shape
shape = record (new_shape (codes "serve")) { rules = rules; no_binary_name = true; disable_help_subcommand = true; is_built = true }

-- what is left to fail from here on
abbrev pub remains : Walk → List Text → Kinds
remains w arguments =
    let end = (fold (walked rules []) w arguments).held in
    or_else (walk_fault shape [] w arguments) (or_else (settle_fault rules false end)
    (or_else (defaults_fault (settled rules end).rows rules) (check_fault shape (finished rules end) false)))

pub fault_is : (arguments : List Text) → fault_of serve_app arguments ≡ remains (walk_from nothing_held) arguments
fault_is arguments = leaf_fault (built serve_app) nothing_held arguments refl

-- two options of one name are one
pub same_option : (a b : Which) → bytes_eq (name a) (name b) ≡ true → a ≡ b
same_option store store e = refl
same_option store _ e = let bad : false ≡ true = e in cc
same_option shelf shelf e = refl
same_option shelf _ e = let bad : false ≡ true = e in cc
same_option listen listen e = refl
same_option listen _ e = let bad : false ≡ true = e in cc
same_option connections connections e = refl
same_option connections _ e = let bad : false ≡ true = e in cc

-- what a long name finds
pub data Found (n : Text) : Option Rule → Type 0 where
  nothing : Found n None
  one : (o : Which) → n ≡ name o → Found n (Some (rule o))
  helps : Found n (Some help)

pub found : (n : Text) → Found n (arg_by_long rules n)
found n = go (bytes_eq (codes "store") n) (bytes_eq (codes "shelf") n) (bytes_eq (codes "listen") n) (bytes_eq (codes "connections") n)
    (bytes_eq (codes "help") n) refl refl refl refl
  where
    is : (m : Text) → true ≡ bytes_eq m n → n ≡ m
    is m e = sym ((bytes_eq-Decides m n).0 (sym e))

    go : (a b c d e : Bool) → a ≡ bytes_eq (codes "store") n → b ≡ bytes_eq (codes "shelf") n → c ≡ bytes_eq (codes "listen") n
        → d ≡ bytes_eq (codes "connections") n
        → Found n (cond (a || false) (Some (rule store)) (cond (b || false) (Some (rule shelf)) (cond (c || false) (Some (rule listen))
        (cond (d || false) (Some (rule connections)) (cond (e || false) (Some help) None)))))
    go true b c d e ea eb ec ed = one store (is (codes "store") ea)
    go false true c d e ea eb ec ed = one shelf (is (codes "shelf") eb)
    go false false true d e ea eb ec ed = one listen (is (codes "listen") ec)
    go false false false true e ea eb ec ed = one connections (is (codes "connections") ed)
    go false false false false true ea eb ec ed = helps
    go false false false false false ea eb ec ed = nothing
