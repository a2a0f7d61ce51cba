-- What holds of the values that properties are given.
use Rattle.std.proofs.Common.{◌≡◌, ℕ, ◌≤◌, Bool, true, false, cond, List, [], ◌∷◌, length, Option, Some, None, option_and_then, unwrap_or, find, filter_map, refl, ap, arith}
use Rattle.std.specs.Prelude.{IfSome}
use Rattle.std.specs.List.{AllByRecursion, list_all}
use Rattle.std.specs.Option.{option_map_or, option_or}
use Rattle.std.proofs.lemmas.Slice.Eq.{bytes_eq-Decides}
use Rattle.std.specs.Str.{bytes_eq}
use Rattle.mof_values.specs.Fold.{fold_case, same_name}
use Rattle.mof_values.specs.declared.instance.Instance.{Instance}
use Rattle.mof_values.specs.declared.instance.Property.{Property}
use Rattle.mof_values.specs.declared.value.Scalar.{Scalar}
use Rattle.mof_values.specs.declared.value.Scalar.TheVariants as scalars
use Rattle.mof_values.specs.declared.value.Value.{Value}
use Rattle.mof_values.specs.declared.value.Value.TheVariants.{One, Many}
use Rattle.mof_syntax.specs.Limits.{ValueFits, elements_limit}
use Rattle.mof_codec.specs.Written.{AreChars}
use Rattle.mof_values.specs.Values.{scalars_of, text_of, text_of_scalar}
use Rattle.meta_config.specs.declared.tables.Class.{Class}
use Rattle.meta_config.specs.Making.{properties_of}
use Rattle.meta_config.specs.Properties.{first_name, first_value, from_given, given, is_given_as, texts_of}
use Rattle.meta_config.specs.Tables.{Row, class_name, is_of, or_wrong, wrong_from, wrong_in_row}
use Rattle.meta_config.specs.Words.{fits, is_text_that}
use Rattle.meta_config.proofs.CharsRead.{ScalarText, ValueTexts}
use Rattle.meta_config.proofs.Searches.{found_has, or_none, test_at}

-- ---- values by name

from_at : (P : Value → Type 0) (name : List ℕ) (p : Property) (ps : List Property) (b : Bool) → P p.value → IfSome (first_value (from_given name ps)) P
    → IfSome (first_value (cond b (p ∷ ps) (from_given name ps))) P
from_at P name p ps true one more = one
from_at P name p ps false one more = more

pub given_has : (P : Value → Type 0) (name : List ℕ) (ps : List Property) → AllByRecursion (λ (p : Property). P p.value) ps → IfSome (given name ps) P
given_has P name [] all = tt
given_has P name (p ∷ ps) all = from_at P name p ps (is_given_as name p) all.0 (given_has P name ps all.1)

row_at : (r : Row) (from : List Property) → wrong_from r from ≡ None → IfSome (first_value from) (λ v. fits r.domain v ≡ true)
row_at r [] e = tt
row_at r (p ∷ ps) e = at (fits r.domain p.value) refl e
  where
    at : (b : Bool) → fits r.domain p.value ≡ b → cond b (first_name (from_given r.name ps)) (Some p.name) ≡ None → fits r.domain p.value ≡ true
    at true is h = is
    at false is h = cc

pub row_fits : (r : Row) (ps : List Property) → wrong_in_row r ps ≡ None → IfSome (given r.name ps) (λ v. fits r.domain v ≡ true)
unfolding wrong_in_row
row_fits r ps e = row_at r (from_given r.name ps) e

-- no row has a wrong property
pub rows_none : (found : Option (List ℕ)) (rs : List Row) (ps : List Property) → or_wrong found rs ps ≡ None → (found ≡ None) × AllByRecursion (λ r. wrong_in_row r ps ≡ None) rs
rows_none found [] ps e = (e, tt)
rows_none found (r ∷ rs) ps e =
    let more = rows_none (option_or found (wrong_in_row r ps)) rs ps e in
    let here = or_none found (wrong_in_row r ps) more.0 in
    (here.0, (here.1, more.1))

-- ---- texts

pub text_chars : (ss : List Scalar) → AllByRecursion ScalarText ss → AllByRecursion AreChars (filter_map text_of_scalar ss)
text_chars [] all = tt
text_chars (scalars.Text text ∷ ss) all = (all.0, text_chars ss all.1)
text_chars (scalars.Integer z ∷ ss) all = text_chars ss all.1
text_chars (scalars.Bool b ∷ ss) all = text_chars ss all.1
text_chars (scalars.Null ∷ ss) all = text_chars ss all.1
text_chars (scalars.Alias name ∷ ss) all = text_chars ss all.1

pub text_tests : (test : List ℕ → Bool) (ss : List Scalar) → list_all (is_text_that test) ss ≡ true → AllByRecursion (λ t. test t ≡ true) (filter_map text_of_scalar ss)
text_tests test [] e = tt
text_tests test (scalars.Text text ∷ ss) e =
    let a = test_at (is_text_that test) (scalars.Text text) ss (test text) refl e in
    (a.0, text_tests test ss a.1)
text_tests test (scalars.Integer z ∷ ss) e = cc
text_tests test (scalars.Bool b ∷ ss) e = cc
text_tests test (scalars.Null ∷ ss) e = cc
text_tests test (scalars.Alias name ∷ ss) e = cc

pub text_count : (ss : List Scalar) → length (filter_map text_of_scalar ss) ≤ length ss
text_count [] = omega arith
text_count (scalars.Text text ∷ ss) = omega (arith, text_count ss)
text_count (scalars.Integer z ∷ ss) = omega (arith, text_count ss)
text_count (scalars.Bool b ∷ ss) = omega (arith, text_count ss)
text_count (scalars.Null ∷ ss) = omega (arith, text_count ss)
text_count (scalars.Alias name ∷ ss) = omega (arith, text_count ss)

value_chars : (v : Value) → ValueTexts v → AllByRecursion AreChars (filter_map text_of_scalar (scalars_of v))
value_chars (One s) all = text_chars (s ∷ []) (all, tt)
value_chars (Many ss) all = text_chars ss all

value_count : (v : Value) → ValueFits v → length (filter_map text_of_scalar (scalars_of v)) ≤ elements_limit
value_count (One s) all = omega (arith, text_count (s ∷ []))
value_count (Many ss) all = let h = all.0 in omega (arith, text_count ss)

pub texts_chars : (o : Option Value) → IfSome o ValueTexts → AllByRecursion AreChars (texts_of o)
texts_chars None all = tt
texts_chars (Some v) all = value_chars v all

pub texts_count : (o : Option Value) → IfSome o ValueFits → length (texts_of o) ≤ elements_limit
texts_count None all = omega arith
texts_count (Some v) all = value_count v all

pub texts_test : (test : List ℕ → Bool) (o : Option Value) → IfSome o (λ v. list_all (is_text_that test) (scalars_of v) ≡ true) → AllByRecursion (λ t. test t ≡ true) (texts_of o)
texts_test test None all = tt
texts_test test (Some v) all = text_tests test (scalars_of v) all

-- a single text
one_text : (v : Value) → ValueTexts v → AreChars (unwrap_or (text_of v) [])
one_text (One (scalars.Text text)) all = all
one_text (One (scalars.Integer z)) all = refl
one_text (One (scalars.Bool b)) all = refl
one_text (One scalars.Null) all = refl
one_text (One (scalars.Alias name)) all = refl
one_text (Many ss) all = refl

pub given_text : (o : Option Value) → IfSome o ValueTexts → AreChars (unwrap_or (option_and_then text_of o) [])
given_text None all = refl
given_text (Some v) all = one_text v all

-- ---- classes

-- an instance of one class has the name of that class alone
pub class_is : (class other : Class) (i : Instance) → is_of class i ≡ true → is_of other i ≡ same_name (class_name class) (class_name other)
class_is class other i is = ap (λ f. bytes_eq f (fold_case (class_name other))) ((bytes_eq-Decides _ _).0 is)

pub properties_have : (class : Class) (Q : Instance → Type 0) (P : List Property → Type 0) → P [] → ((i : Instance) → is_of class i ≡ true → Q i → P i.properties)
    → (is : List Instance) → AllByRecursion Q is → P (properties_of class is)
properties_have class Q P none each is all = at (find (is_of class) is) refl
  where
    at : (o : Option Instance) → find (is_of class) is ≡ o → P (option_map_or (λ i. i.properties) o [])
    at None e = none
    at (Some i) e = let f = found_has (is_of class) Q is i all e in each i f.1 f.0
