-- The first of a name in a list.
use Rattle.std.proofs.Common.{◌≡◌, ℕ, List, [], ◌∷◌, ◌++◌, Bool, true, false, not, cond, Option, Some, None, is_none, inl, inr, refl, sym, ap, ◌∙◌}
use Rattle.std.specs.Bool.{one_answer}
use Rattle.std.specs.List.{filter}
use Rattle.std.specs.Map.{update}
use Rattle.std.specs.Str.{bytes_eq}
use Rattle.std.proofs.lemmas.Bool.{cases_Bool, both_ways}
use Rattle.std.proofs.lemmas.Slice.Eq.{bytes_eq-Decides}
use Rattle.memory_outside.specs.MemoryHost.{first_named, value_of}
use Rattle.memory_outside.specs.declared.variable.Variable.{Variable}

pub bytes_same : (a b : List ℕ) → bytes_eq a b ≡ true → a ≡ b
bytes_same a b = (bytes_eq-Decides a b).0

pub bytes_own : (a : List ℕ) → bytes_eq a a ≡ true
bytes_own a = (bytes_eq-Decides a a).1 refl

pub bytes_swap : (a b : List ℕ) → bytes_eq a b ≡ bytes_eq b a
bytes_swap a b = one_answer (bytes_eq a b) (bytes_eq b a) (bytes_eq-Decides a b) ((λ e. sym (bytes_same b a e)), (λ e. (bytes_eq-Decides b a).1 (sym e)))

-- what is left where some names are gone
pub named_filter : {X Y : Type 0} (name : X → List ℕ) (value : X → Y) (gone : List ℕ → Bool) (xs : List X) (key : List ℕ)
    → first_named name value (filter (λ x. not (gone (name x))) xs) key ≡ cond (gone key) None (first_named name value xs key)
named_filter name value gone [] key = elim (cases_Bool (gone key)) [
  | inl away ↦ rw away refl
  | inr stays ↦ rw stays refl
]
named_filter name value gone (x ∷ xs) key = elim (cases_Bool (gone (name x))) [
  | inl away ↦ rw (away, named_filter name value gone xs key) (elim (cases_Bool (gone key)) [
    | inl same ↦ rw same refl
    | inr stays ↦ elim (cases_Bool (bytes_eq (name x) key)) [
      | inl is ↦ absurd (both_ways _ stays (ap gone (sym (bytes_same (name x) key is)) ∙ away))
      | inr apart ↦ rw (stays, apart) refl
    ]
  ])
  | inr stays ↦ rw stays (elim (cases_Bool (bytes_eq (name x) key)) [
    | inl is ↦ let kept : gone key ≡ false = ap gone (sym (bytes_same (name x) key is)) ∙ stays in rw (is, kept) refl
    | inr apart ↦ rw apart (named_filter name value gone xs key)
  ])
]

-- no variable of that name
pub value_removed : (name : List ℕ) (vs : List Variable) → value_of (filter (λ v. not (bytes_eq v.name name)) vs) ≡ update bytes_eq (value_of vs) name None
value_removed name vs = λ i key. gone key i
  where
    gone : (key : List ℕ) → value_of (filter (λ v. not (bytes_eq v.name name)) vs) key ≡ update bytes_eq (value_of vs) name None key
    gone key = rw (bytes_swap name key) (named_filter (λ v. v.name) (λ v. v.value) (λ other. bytes_eq other name) vs key)

-- one more variable after those of other names
value_pushed_at : (name value : List ℕ) (vs : List Variable) (key : List ℕ)
    → value_of (vs ++ record { name = name; value = value } ∷ []) key ≡ cond (bytes_eq name key) (cond (is_none (value_of vs key)) (Some value) (value_of vs key)) (value_of vs key)
value_pushed_at name value [] key = refl
value_pushed_at name value (v ∷ vs) key = elim (cases_Bool (bytes_eq v.name key)) [
  | inl same ↦ rw same (elim (cases_Bool (bytes_eq name key)) [
    | inl is ↦ rw is refl
    | inr apart ↦ rw apart refl
  ])
  | inr apart ↦ rw apart (value_pushed_at name value vs key)
]

pub value_put : (v : Variable) (name value : List ℕ) (old rest now : List Variable) → v ≡ record { name = name; value = value } → now ≡ rest ++ v ∷ []
    → value_of rest ≡ update bytes_eq (value_of old) name None → value_of now ≡ update bytes_eq (value_of old) name (Some value)
value_put v name value old rest now is pushed removed = λ i key. put key i
  where
    put : (key : List ℕ) → value_of now key ≡ update bytes_eq (value_of old) name (Some value) key
    put key = rw (pushed, is) (value_pushed_at name value rest key ∙ (rw (ap (λ (f : List ℕ → Option (List ℕ)). f key) removed) (elim (cases_Bool (bytes_eq name key)) [
      | inl same ↦ rw same refl
      | inr apart ↦ rw apart refl
    ])))
