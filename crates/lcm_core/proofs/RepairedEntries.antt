-- The last entry of a resource, and what follows an entry in a legal trace.
use Rattle.std.proofs.Common.{◌≡◌, ◌⊎◌, inl, inr, ℕ, List, [], ◌∷◌, ◌++◌, map, Some, refl, sym, ◌∙◌, ap, subst, arith, append-nil}
use Rattle.std.proofs.lemmas.Bool.Decides.{eqb_tells}
use Rattle.std.proofs.lemmas.List.{append_assoc}
use Rattle.std.proofs.lemmas.Map.Made.{Contains-tail}
use Rattle.dsc_terms.proofs.Splits.{contains_cons, contains_front}
use Rattle.dsc_document.specs.declared.document.Document.{Document}
use Rattle.resource_kinds.specs.declared.entry.TestAnswer.TheVariants as tests
use Rattle.resource_kinds.specs.declared.entry.SetAnswer.{SetAnswer}
use Rattle.resource_kinds.specs.declared.entry.SetAnswer.TheVariants as sets
use Rattle.resource_kinds.specs.declared.entry.Entry.{Entry}
use Rattle.resource_kinds.specs.declared.entry.Entry.TheVariants.{Tested, Set}
use Rattle.resource_kinds.specs.Trace.{EndsWith, HasEntry, IsFinal, last_entry, place_of}
use Rattle.resource_kinds.proofs.Marks.{last_elsewhere, last_here}
use Rattle.lcm_core.specs.declared.modes.RunMode.{RunMode}
use Rattle.lcm_core.specs.Legal.{GoesOn, IsFirstTest, Legal, MayFollow}
use Rattle.lcm_core.specs.Whole.{BeginsWithSet, BeginsWithTest}

-- ---- the last entry

-- after this entry the resource has none
pub record IsLastOf (trace : List Entry) (r : ℕ) : Type 0 where
  pub front : List Entry
  pub entry : Entry
  pub rest : List Entry
  pub is : trace ≡ front ++ entry ∷ rest
  pub of : place_of entry ≡ r
  pub last : HasEntry rest r → ⊥

last_after : (x : Entry) (xs : List Entry) (r : ℕ) → IsLastOf xs r → IsLastOf (x ∷ xs) r
last_after x xs r l = record {
  front = x ∷ l.front;
  entry = l.entry;
  rest = l.rest;
  is = ap (λ (es : List Entry). x ∷ es) l.is;
  of = l.of;
  last = l.last;
}

pub last_of : (trace : List Entry) (r : ℕ) → IsLastOf trace r ⊎ (HasEntry trace r → ⊥)
last_of [] r = inr (λ has. omega (arith, has.1))
last_of (x ∷ xs) r = elim (last_of xs r) [
  | inl later ↦ inl (last_after x xs r later)
  | inr none ↦ elim (eqb_tells (place_of x) r) [
    | inl same ↦ inl (record { front = []; entry = x; rest = xs; is = refl; of = same.1; last = none })
    | inr apart ↦ inr (λ has. none (Contains-tail (place_of x) (map place_of xs) r apart.1 has))
  ]
]

pub head_has : (e : Entry) (es : List Entry) (r : ℕ) → place_of e ≡ r → HasEntry (e ∷ es) r
head_has e es r same = subst (HasEntry (e ∷ es)) same (contains_front (place_of e) [] (map place_of es))

-- entries of others change nothing of what its last entry is
pub last_over : (t es : List Entry) (r : ℕ) → (HasEntry es r → ⊥) → last_entry (t ++ es) r ≡ last_entry t r
last_over t [] r none = ap (λ (l : List Entry). last_entry l r) (append-nil t)
last_over t (e ∷ es) r none = elim (eqb_tells (place_of e) r) [
  | inl same ↦ absurd (none (head_has e es r same.1))
  | inr apart ↦
      ap (λ (l : List Entry). last_entry l r) (sym (append_assoc t (e ∷ []) es))
      ∙ last_over (t ++ e ∷ []) es r (λ has. none (contains_cons (place_of e) (map place_of es) r has)) ∙ last_elsewhere t e r apart.0
]

pub last_is : (trace : List Entry) (r : ℕ) (l : IsLastOf trace r) → last_entry trace r ≡ Some l.entry
last_is trace r l =
    ap (λ (t : List Entry). last_entry t r) (l.is ∙ sym (append_assoc l.front (l.entry ∷ []) l.rest))
    ∙ last_over (l.front ++ l.entry ∷ []) l.rest r l.last ∙ last_here l.front l.entry r l.of

-- ---- what follows an entry

pub may_goes_on : (document : Document) (mode : RunMode) (order : List ℕ) (before : List Entry) (e : Entry) → MayFollow document mode order before e → GoesOn before
may_goes_on document mode order before (Tested r answer) may = may.goes_on
may_goes_on document mode order before (Set r answer) may = may.goes_on

-- a final entry is the last of its trace
pub final_ends : (document : Document) (mode : RunMode) (order : List ℕ) (trace front : List Entry) (e : Entry) (rest : List Entry) → Legal document mode order trace
    → trace ≡ front ++ e ∷ rest → IsFinal e → EndsWith trace e
final_ends document mode order trace front e [] legal is final = (front, is)
final_ends document mode order trace front e (x ∷ rest) legal is final =
    let may = legal (front ++ e ∷ []) x rest (is ∙ sym (append_assoc front (e ∷ []) (x ∷ rest))) in
    absurd (may_goes_on document mode order (front ++ e ∷ []) x may e (front, refl) final)

pub test_has : (rest : List Entry) (r : ℕ) → BeginsWithTest rest r → HasEntry rest r
test_has [] r begins = absurd begins
test_has (Tested place answer ∷ rest) r begins = head_has (Tested place answer) rest r begins
test_has (Set place answer ∷ rest) r begins = absurd begins

pub set_has : (rest : List Entry) (r : ℕ) → BeginsWithSet rest r → HasEntry rest r
set_has [] r begins = absurd begins
set_has (Tested place answer ∷ rest) r begins = absurd begins
set_has (Set place answer ∷ rest) r begins = head_has (Set place answer) rest r begins

-- ---- what stands before a Set

-- the Test directly before a Set was the first of its resource
pub set_split : (document : Document) (mode : RunMode) (order : List ℕ) (trace : List Entry) → Legal document mode order trace
    → (w : List Entry) (p : ℕ) (answer : SetAnswer) (rest : List Entry) → trace ≡ w ++ Set p answer ∷ rest
    → (v : List Entry) × (w ≡ v ++ Tested p tests.No ∷ []) × IsFirstTest order v p
set_split document mode order trace legal w p answer rest is =
    let may = legal w (Set p answer) rest is in
    let v = may.after_no.0 in
    let at = is ∙ ap (λ (l : List Entry). l ++ Set p answer ∷ rest) may.after_no.1 ∙ append_assoc v (Tested p tests.No ∷ []) (Set p answer ∷ rest) in
    elim (legal v (Tested p tests.No) (Set p answer ∷ rest) at).in_turn [
      | inl first ↦ (v, may.after_no.1, first)
      | inr ends ↦
          absurd (may.once ends.0 sets.Done (Tested p tests.No ∷ [])
          (may.after_no.1 ∙ ap (λ (l : List Entry). l ++ Tested p tests.No ∷ []) ends.1 ∙ append_assoc ends.0 (Set p sets.Done ∷ []) (Tested p tests.No ∷ [])))
    ]
