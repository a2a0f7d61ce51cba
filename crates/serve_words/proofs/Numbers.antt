-- Arguments that give `--connections` what is no number from 1 to 1,000,000 are refused.
use Rattle.std.proofs.Common.{◌≡◌, ◌≢◌, ◌∙◌, ◌++◌, ℕ, Bool, true, false, List, [], ◌∷◌, refl, sym, ap, subst, Option, Some, None, codes, arith, bytes_eq, is_some}
use Rattle.std.specs.Prelude.{pos}
use Rattle.std.specs.Str.Parse.{IsNumeral, digits_value, starts_with_minus, without_leading_plus}
use Rattle.std.proofs.lemmas.Int.{ints}
use Rattle.clap.specs.Lexer.{long_of}
use Rattle.clap.specs.Faults.{fault_of, walk_fault}
use Rattle.clap.specs.ValueTests.{accepts}
use Rattle.clap.specs.Walk.{Text}
use Rattle.clap.specs.declared.builder.value_parser.ValueParser.TheVariants as vp
use Rattle.clap.proofs.ValueTestLemmas.{accepts-Accepts}
use Rattle.serve_words.specs.declared.command.TheConstants.{MAX_CONNECTIONS}
use Rattle.serve_words.specs.Words.{SpellsCount, serve_app}
use Rattle.serve_words.proofs.Options.{Which, connections, fault_is, name, remains, same_option}
use Rattle.serve_words.proofs.Turns.{Place, closed, first_empty, full, no_turn, opened, state}
use Rattle.serve_words.proofs.Entries.{Entry, Takes, rows_of, settles}
use Rattle.serve_words.proofs.Steps.{Step, ended, given, goes, named, remains_after, valued}

-- a number of the range has no minus
pub no_minus : (t : Text) → accepts false (vp.Signed (pos 1) (pos MAX_CONNECTIONS)) t ≡ true → starts_with_minus t ≡ false
no_minus t takes = go (starts_with_minus t) refl
  where
    go : (b : Bool) → starts_with_minus t ≡ b → b ≡ false
    go false minus = refl
    go true minus =
        let passed = accepts-Accepts false (vp.Signed (pos 1) (pos MAX_CONNECTIONS)) t takes in
        let low = rw minus at passed.2 in
        absurd (omega (arith, ints))

-- what the parser takes spells a number in its range
pub spelled : (t : Text) → accepts false (vp.Signed (pos 1) (pos MAX_CONNECTIONS)) t ≡ true → SpellsCount t (digits_value 10 (without_leading_plus t))
spelled t takes =
    let minus = no_minus t takes in
    let passed = accepts-Accepts false (vp.Signed (pos 1) (pos MAX_CONNECTIONS)) t takes in
    let numeral : IsNumeral 10 (without_leading_plus t) = rw minus at passed.0 in
    let low = rw minus at passed.2 in
    let high = rw minus at passed.3 in
    record { numeral = numeral; value = refl; least = omega (arith, ints); most = omega (arith, ints) }

-- ---- from a place on

-- an option that waits past `--` is a fault
stuck : (o : Which) (arguments : List Text) (es : List Entry) (position : ℕ) → remains (state (rows_of es) (opened o) position true) arguments ≡ [] → ⊥
unfolding walk_fault
stuck o [] es position h = (settles (opened o) es (first_empty _ _ h).0).2
stuck o (word ∷ arguments) es position h =
    no_turn (rows_of es) position word (opened o) (remains_after (state (rows_of es) (opened o) position true) word arguments h).0

-- a value that waits is one that its parser takes
full_taken : (o : Which) (v : Text) (arguments : List Text) (es : List Entry) (position : ℕ) (is_over : Bool)
    → remains (state (rows_of es) (full o v) position is_over) arguments ≡ [] → Takes (o, v)
unfolding walk_fault
full_taken o v [] es position is_over h = (settles (full o v) es (first_empty _ _ h).0).2.1
full_taken o v (word ∷ arguments) es position is_over h =
    let on = goes word arguments es (full o v) position is_over h in
    go on.stepped.fs on.stepped.next on.stepped.is_over on.stepped.step on.remains (full_taken o v arguments es position true)
  where
    go : (fs : List Entry) (next : Place) (over : Bool) → Step word es (full o v) fs next over
        → remains (state (rows_of fs) next position over) arguments ≡ []
        → (remains (state (rows_of es) (full o v) position true) arguments ≡ [] → Takes (o, v)) → Takes (o, v)
    go fs next over (ended e) left rec = rec left
    go fs next over (named p gs e adds) left rec = adds.1
    go fs next over (given p w gs e adds takes) left rec = adds.1
    go fs next over (valued p e plain) left rec = cc

-- and so is the argument after the name of an option
opened_taken : (o : Which) (text : Text) (arguments : List Text) (es : List Entry) (position : ℕ) (is_over : Bool)
    → remains (state (rows_of es) (opened o) position is_over) (text ∷ arguments) ≡ [] → Takes (o, text)
opened_taken o text arguments es position is_over h =
    let on = goes text arguments es (opened o) position is_over h in
    go on.stepped.fs on.stepped.next on.stepped.is_over on.stepped.step on.remains
  where
    go : (fs : List Entry) (next : Place) (over : Bool) → Step text es (opened o) fs next over
        → remains (state (rows_of fs) next position over) arguments ≡ [] → Takes (o, text)
    go fs next over (ended e) left = absurd (stuck o arguments es position left)
    go fs next over (named p gs e adds) left = absurd adds
    go fs next over (given p w gs e adds takes) left = absurd adds
    go fs next over (valued p e plain) left =
        let same : p ≡ o = cc in
        subst (λ (q : Which). Takes (q, text)) same (full_taken p text arguments es position false left)

-- ---- from the first argument on

-- where the walk stands after arguments that are followed by these
record Reaches (rest : List Text) (position : ℕ) : Type 0 where
  es : List Entry
  place : Place
  is_over : Bool
  left : remains (state (rows_of es) place position is_over) rest ≡ []

reaches : (before rest : List Text) (es : List Entry) (place : Place) (position : ℕ) (is_over : Bool)
    → remains (state (rows_of es) place position is_over) (before ++ rest) ≡ [] → Reaches rest position
reaches [] rest es place position is_over h = record { es = es; place = place; is_over = is_over; left = h }
reaches (word ∷ before) rest es place position is_over h =
    let on = goes word (before ++ rest) es place position is_over h in
    reaches before rest on.stepped.fs on.stepped.next position on.stepped.is_over on.remains

name_given : Option (Text × Option Text) → Text
name_given None = []
name_given (Some p) = p.0

given_with : Option (Text × Option Text) → Option Text
given_with None = None
given_with (Some p) = p.1

pub none_is_none : {X : Type 0} (x : X) → None ≡ Some x → ⊥
none_is_none x e = cc

pub same_some : {X : Type 0} (x y : X) → Some x ≡ Some y → x ≡ y
same_some x y e = cc

is_read : true ≡ false → ⊥
is_read e = cc

abbrev apart : Text
apart = codes "--connections"

named_apart : (p : Which) (v : Option Text) → long_of apart ≡ Some (name p, v) → connections ≡ p
unfolding name_given
named_apart p v e = same_option connections p (sym (ap (λ (o : Option (Text × Option Text)). bytes_eq (name connections) (name_given o)) e))

named_joined : (text : Text) (p : Which) (v : Option Text) → long_of (codes "--connections=" ++ text) ≡ Some (name p, v) → connections ≡ p
unfolding name_given
named_joined text p v e = same_option connections p (sym (ap (λ (o : Option (Text × Option Text)). bytes_eq (name connections) (name_given o)) e))

pub apart_taken : (text : Text) (before rest : List Text) → fault_of serve_app (before ++ codes "--connections" ∷ text ∷ rest) ≡ [] → Takes (connections, text)
unfolding given_with
apart_taken text before rest e =
    let at = reaches before (apart ∷ text ∷ rest) [] closed 1 false (sym (fault_is (before ++ apart ∷ text ∷ rest)) ∙ e) in
    let on = goes apart (text ∷ rest) at.es at.place 1 at.is_over at.left in
    go at.es at.place on.stepped.fs on.stepped.next on.stepped.is_over on.stepped.step on.remains
  where
    go : (es : List Entry) (place : Place) (fs : List Entry) (next : Place) (over : Bool) → Step apart es place fs next over
        → remains (state (rows_of fs) next 1 over) (text ∷ rest) ≡ [] → Takes (connections, text)
    go es place fs next over (ended e) left = cc
    go es place fs next over (named p gs e adds) left =
        subst (λ (q : Which). Takes (q, text)) (sym (named_apart p None e)) (opened_taken p text rest gs 1 false left)
    go es place fs next over (given p v gs e adds takes) left = absurd (none_is_none v (ap given_with e))
    go es place fs next over (valued p e plain) left = absurd (is_read (ap is_some plain))

pub joined_taken : (text : Text) (before rest : List Text) → fault_of serve_app (before ++ (codes "--connections=" ++ text) ∷ rest) ≡ []
    → Takes (connections, text)
unfolding given_with
joined_taken text before rest e =
    let word = codes "--connections=" ++ text in
    let at = reaches before (word ∷ rest) [] closed 1 false (sym (fault_is (before ++ word ∷ rest)) ∙ e) in
    let on = goes word rest at.es at.place 1 at.is_over at.left in
    go at.es at.place on.stepped.fs on.stepped.next on.stepped.is_over on.stepped.step
  where
    go : (es : List Entry) (place : Place) (fs : List Entry) (next : Place) (over : Bool) → Step (codes "--connections=" ++ text) es place fs next over
        → Takes (connections, text)
    go es place fs next over (ended e) = cc
    go es place fs next over (named p gs e adds) = absurd (none_is_none text (sym (ap given_with e)))
    go es place fs next over (given p v gs e adds takes) =
        let same = sym (named_joined text p (Some v) e) in
        let value : v ≡ text = sym (same_some text v (ap given_with e)) in
        subst (λ (q : Which). Takes (q, text)) same (subst (λ (t : Text). Takes (p, t)) value takes)
    go es place fs next over (valued p e plain) = absurd (is_read (ap is_some plain))

pub out_of_range : (text : Text) (before after : List Text) → ((count : ℕ) → SpellsCount text count → ⊥)
    → (fault_of serve_app (before ++ codes "--connections" ∷ text ∷ after) ≢ [])
    × (fault_of serve_app (before ++ (codes "--connections=" ++ text) ∷ after) ≢ [])
out_of_range text before after none = (
  λ e. none _ (spelled text (apart_taken text before after e)),
  λ e. none _ (spelled text (joined_taken text before after e)),
)
