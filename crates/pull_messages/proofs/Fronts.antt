-- Lists that are read from their front.
use Rattle.std.proofs.Common.{◌≡◌, ◌≤◌, ◌<◌, List, [], ◌∷◌, ◌++◌, length, drop, get_or, Result, Ok, Err, IsOk, refl, sym, ◌∙◌, ap, arith, append_assoc}
use Rattle.serde_json.specs.Data.{Data, Items, no_items, item}
use Rattle.serde_json.specs.View.{view, items_view}
use Rattle.serde_json.specs.declared.value.Value.{Value}
use Rattle.pull_messages.specs.declared.error.MessageError.{MessageError}
use Rattle.pull_messages.specs.Members.{each}
use Rattle.pull_messages.specs.Results.{◌>>=◌}

-- what is read after a front
abbrev pub with_front : {A : Type 0} → List A → Result (List A) MessageError → Result (List A) MessageError
with_front front given = given >>= (λ xs. Ok (front ++ xs))

-- a list of at least one value as its first and the others
pub items_front : (vs : List Value) (d : Value) → 1 ≤ length vs → items_view vs ≡ item (view (get_or vs 0 d)) (items_view (drop 1 vs))
items_front [] d some = absurd (omega arith)
items_front (v ∷ vs) d some = refl

-- no value is left
pub items_end : (vs : List Value) → length vs < 1 → items_view vs ≡ no_items
items_end [] none = refl
items_end (v ∷ vs) none = absurd (omega arith)

joined_front : {A : Type 0} (front : List A) (x : A) (given : Result (List A) MessageError)
    → with_front (front ++ x ∷ []) given ≡ with_front front (given >>= (λ others. Ok (x ∷ others)))
joined_front front x (Ok others) = ap Ok (append_assoc front (x ∷ []) others)
joined_front front x (Err e) = refl

-- one value more was read
pub each_more : {A : Type 0} (read : Data → Result A MessageError) (front : List A) (x : A) (value : Data) (values : Items) (whole : Result (List A) MessageError)
    → with_front front (each read (item value values)) ≡ whole → read value ≡ Ok x → with_front (front ++ x ∷ []) (each read values) ≡ whole
each_more read front x value values whole before is = joined_front front x (each read values) ∙ rw is at before

-- a value was refused
pub each_refused : {A : Type 0} (read : Data → Result A MessageError) (front : List A) (e : MessageError) (value : Data) (values : Items) (whole : Result (List A) MessageError)
    → with_front front (each read (item value values)) ≡ whole → read value ≡ Err e → whole ≡ Err e
each_refused read front e value values whole before is = sym (rw is at before)

-- one is given where the other is, and they are refused alike
pub record SameTest {A : Type 0} (given other : Result (List A) MessageError) : Type 0 where
  pub passed : IsOk other → IsOk given
  pub refused : (e : MessageError) → other ≡ Err e → given ≡ Err e

pub same_test : {A : Type 0} (given : Result (List A) MessageError) → SameTest given given
same_test given = record { passed = λ h. h; refused = λ e h. h }

passed_more : {A : Type 0} (x : A) (given : Result (List A) MessageError) → IsOk given → IsOk (given >>= (λ others. Ok (x ∷ others)))
passed_more x (Ok others) ok = ok
passed_more x (Err e) ok = ok

refused_more : {A : Type 0} (x : A) (given : Result (List A) MessageError) (e : MessageError) → given ≡ Err e → given >>= (λ others. Ok (x ∷ others)) ≡ Err e
refused_more x (Ok others) e is = cc is
refused_more x (Err f) e is = is

-- one value more passed
pub test_more : {A : Type 0} (read : Data → Result A MessageError) (x : A) (value : Data) (values : Items) (whole : Result (List A) MessageError)
    → SameTest whole (each read (item value values)) → read value ≡ Ok x → SameTest whole (each read values)
test_more {A} read x value values whole same is =
    let step : each read (item value values) ≡ each read values >>= (λ others. Ok (x ∷ others)) = rw is refl in
    record {
      passed = λ ok. same.passed (rw step (passed_more x (each read values) ok));
      refused = λ e no. same.refused e (step ∙ refused_more x (each read values) e no);
    }
