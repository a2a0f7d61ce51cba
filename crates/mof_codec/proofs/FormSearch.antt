-- The form that stands where a text goes wrong.
use Rattle.std.proofs.Common.{◌≡◌, inl, inr, ℕ, zero, suc, ◌+◌, ◌-◌, ◌<◌, ◌≤◌, true, List, [], ◌∷◌, ◌++◌, length, take, drop, refl, sym, ◌∙◌, ap, subst, arith}
use Rattle.std.specs.Prelude.{slice_index, slice_range, codes}
use Rattle.std.proofs.lemmas.Bool.{eq-eqb, eqb-true}
use Rattle.std.proofs.lemmas.List.{drop-drop, length-take-le}
use Rattle.std.specs.Char.{to_ascii_lowercase}
use Rattle.mof_values.specs.Ident.{is_next}
use Rattle.mof_values.specs.Fold.{SameName, fold_case}
use Rattle.mof_syntax.specs.declared.mof_error.Form.{Form}
use Rattle.mof_syntax.specs.declared.mof_error.Form.TheVariants as forms
use Rattle.mof_syntax.specs.Characters.{Stops}
use Rattle.mof_syntax.specs.Fronts.{IsFront, BeginsScalar, BeginsDeclaration}
use Rattle.mof_syntax.specs.Profile as profile
use Rattle.mof_syntax.specs.Profile.{OutOfProfile, WordStands, BeginsReal}
use Rattle.mof_codec.specs.declared.machine.state.State.{State}
use Rattle.mof_codec.specs.declared.refusing.scalar.Wanted.TheVariants.{Real}
use Rattle.mof_codec.specs.Searching.{FirstOf, ScalarStands, StandsAfter, IsFirstForm, HasNoForm, BeginsWord, BeginsForm, pragma, qualifiers, class, qualifier, StandsForm, character, declared, begins_with}
use Rattle.mof_codec.proofs.Standing.{scalar_begins, scalar_there, declaration_begins, begins_there}
use Rattle.mof_codec.proofs.Stepping.{after_of}

-- places of a front

pub take_take : (m n : ℕ) (xs : List ℕ) → m ≤ n → take m (take n xs) ≡ take m xs
take_take zero n xs le = refl
take_take (suc m) zero xs le = absurd (omega (arith, le))
take_take (suc m) (suc n) [] le = refl
take_take (suc m) (suc n) (x ∷ xs) le = ap (λ (ys : List ℕ). x ∷ ys) (take_take m n xs (omega (arith, le)))

take_none : (k : ℕ) → take {A = ℕ} k [] ≡ []
take_none zero = refl
take_none (suc k) = refl

pub drop_take : (m n : ℕ) (xs : List ℕ) → drop m (take n xs) ≡ take (n - m) (drop m xs)
drop_take zero n xs = ap (λ (k : ℕ). take k xs) (zero_less n)
  where
    zero_less : (n : ℕ) → n ≡ n - 0
    zero_less n = omega arith
drop_take (suc m) zero xs = nothing m xs
  where
    nothing : (m : ℕ) (xs : List ℕ) → drop (suc m) [] ≡ take (0 - suc m) (drop (suc m) xs)
    nothing m xs = ap (λ (k : ℕ). take k (drop (suc m) xs)) (less m)
      where
        less : (m : ℕ) → 0 ≡ 0 - suc m
        less m = omega arith
drop_take (suc m) (suc n) [] = sym (take_none (suc n - suc m))
drop_take (suc m) (suc n) (x ∷ xs) = drop_take m n xs ∙ ap (λ (k : ℕ). take k (drop m xs)) (same n m)
  where
    same : (n m : ℕ) → n - m ≡ suc n - suc m
    same n m = omega arith

pub begins_in_front : (text : List ℕ) (at end : ℕ) → at ≤ end → BeginsScalar (take end text) at → BeginsScalar text at
begins_in_front text at end le b =
    let same = take_take at end text le in
    record {
      scalar = elim b.scalar [
        | inl f ↦ inl (subst (λ (xs : List ℕ). IsFront (xs ++ 36 ∷ 65 ∷ 59 ∷ [])) same f)
        | inr f ↦ inr (subst (λ (xs : List ℕ). IsFront (xs ++ 36 ∷ 65 ∷ 44 ∷ [])) same f)
      ];
      outside = λ m. b.outside (subst (λ (xs : List ℕ). IsFront (xs ++ 35 ∷ [])) (sym same) m);
    }

pub begins_of_front : (text : List ℕ) (at end : ℕ) → at ≤ end → BeginsScalar text at → BeginsScalar (take end text) at
begins_of_front text at end le b =
    let same = take_take at end text le in
    record {
      scalar = elim b.scalar [
        | inl f ↦ inl (subst (λ (xs : List ℕ). IsFront (xs ++ 36 ∷ 65 ∷ 59 ∷ [])) (sym same) f)
        | inr f ↦ inr (subst (λ (xs : List ℕ). IsFront (xs ++ 36 ∷ 65 ∷ 44 ∷ [])) (sym same) f)
      ];
      outside = λ m. b.outside (subst (λ (xs : List ℕ). IsFront (xs ++ 35 ∷ [])) same m);
    }

-- the character at a place

index_of : (at : ℕ) (text : List ℕ) (c : ℕ) → begins_with (drop at text) c ≡ true → slice_index text at ≡ c
index_of zero [] c e = absurd cc
index_of zero (x ∷ xs) c e = eqb-true x c e
index_of (suc at) [] c e = absurd cc
index_of (suc at) (x ∷ xs) c e = index_of at xs c e

is_indexed : (at : ℕ) (text : List ℕ) (c : ℕ) → 0 < c → slice_index text at ≡ c → begins_with (drop at text) c ≡ true
is_indexed zero [] c lt e = absurd (omega (arith, lt, e))
is_indexed zero (x ∷ xs) c lt e = eq-eqb x c e
is_indexed (suc at) [] c lt e = absurd (omega (arith, lt, e))
is_indexed (suc at) (x ∷ xs) c lt e = is_indexed at xs c lt e

-- words

word_stands : (text : List ℕ) (at : ℕ) (word : List ℕ) → BeginsWord (drop at text) word → WordStands text at word
word_stands text at word b = record {
  same = subst (λ (k : ℕ). SameName (take k (drop at text)) word) (less at (length word)) b.same;
  stops = subst (λ (xs : List ℕ). Stops is_next xs) (dropped at (length word) text) b.stops;
}
  where
    less : (a n : ℕ) → n ≡ (a + n) - a
    less a n = omega arith

    dropped : (a n : ℕ) (xs : List ℕ) → drop n (drop a xs) ≡ drop (a + n) xs
    dropped a n xs = drop-drop n a xs

stands_word : (text : List ℕ) (at : ℕ) (word : List ℕ) → WordStands text at word → BeginsWord (drop at text) word
stands_word text at word w = record {
  same = subst (λ (k : ℕ). SameName (take k (drop at text)) word) (sym (less at (length word))) w.same;
  stops = subst (λ (xs : List ℕ). Stops is_next xs) (sym (dropped at (length word) text)) w.stops;
}
  where
    less : (a n : ℕ) → n ≡ (a + n) - a
    less a n = omega arith

    dropped : (a n : ℕ) (xs : List ℕ) → drop n (drop a xs) ≡ drop (a + n) xs
    dropped a n xs = drop-drop n a xs

-- a word does not begin with a point
no_point : (cs : List ℕ) (l : ℕ) (ls : List ℕ) → (to_ascii_lowercase 46 ≡ l → ⊥) → fold_case (take (length (l ∷ ls)) cs) ≡ l ∷ ls → begins_with cs 46 ≡ true → ⊥
no_point [] l ls n same e = absurd cc
no_point (x ∷ xs) l ls n same e =
    let is : x ≡ 46 = eqb-true x 46 e in
    let head : to_ascii_lowercase x ≡ l = cc in
    n (ap to_ascii_lowercase (sym is) ∙ head)

class_point : (cs : List ℕ) → BeginsWord cs (codes "class") → begins_with cs 46 ≡ true → ⊥
class_point cs w = no_point cs 99 (codes "lass") (λ e. absurd cc) w.same

qualifier_point : (cs : List ℕ) → BeginsWord cs (codes "qualifier") → begins_with cs 46 ≡ true → ⊥
qualifier_point cs w = no_point cs 113 (codes "ualifier") (λ e. absurd cc) w.same

-- two characters do not come first
apart : (cs : List ℕ) (a b : ℕ) → (a ≡ b → ⊥) → begins_with cs a ≡ true → begins_with cs b ≡ true → ⊥
apart [] a b n e f = absurd cc
apart (x ∷ xs) a b n e f = n (sym (eqb-true x a e) ∙ eqb-true x b f)

no_pragma : ◌≡◌ {A = ℕ} 46 35 → ⊥
no_pragma e = omega (arith, e)

no_qualifiers : ◌≡◌ {A = ℕ} 46 91 → ⊥
no_qualifiers e = omega (arith, e)

no_character : ◌≡◌ {A = ℕ} 46 39 → ⊥
no_character e = omega (arith, e)

-- where a point comes, it can be but a floating-point constant
abbrev IsReal : List ℕ → ℕ → ℕ → Type 0
IsReal text fault at = (at ≤ fault) × BeginsScalar text at × BeginsReal (slice_range text at fault)

point_real : (text : List ℕ) (fault at : ℕ) (what : Form) → OutOfProfile text fault at what → begins_with (drop fault text) 46 ≡ true → IsReal text fault at
point_real text fault at what (profile.pragma b c) e = absurd (apart (drop fault text) 46 35 no_pragma e (is_indexed fault text 35 (omega arith) c))
point_real text fault at what (profile.qualifiers b c) e = absurd (apart (drop fault text) 46 91 no_qualifiers e (is_indexed fault text 91 (omega arith) c))
point_real text fault at what (profile.class b w) e = absurd (class_point (drop fault text) (stands_word text fault (codes "class") w) e)
point_real text fault at what (profile.qualifier b w) e = absurd (qualifier_point (drop fault text) (stands_word text fault (codes "qualifier") w) e)
point_real text fault at what (profile.character b c) e = absurd (apart (drop fault text) 46 39 no_character e (is_indexed fault text 39 (omega arith) c))
point_real text fault at what (profile.real n le b r p) e = (le, b, r)

module _ (text : List ℕ) (fault : ℕ) (within : fault ≤ length text) where
  -- what stands elsewhere than a front of a constant
  abbrev NoPoint : Type 0
  NoPoint = begins_with (drop fault text) 46 ≡ true → ⊥

  real_stands : (at : ℕ) → at ≤ fault → BeginsScalar text at → BeginsReal (slice_range text at fault) → ScalarStands Real (take fault text) at
  real_stands at le begins real = record {
    within = omega (arith, le, length-take-le fault text within);
    begins = begins_of_front text at fault le begins;
    stands = subst (λ (cs : List ℕ). BeginsReal cs) (sym (drop_take at fault text)) real;
  }

  stands_there : (at : ℕ) (what : Form) → OutOfProfile text fault at what → begins_with (drop fault text) 46 ≡ true → ScalarStands Real (take fault text) at
  stands_there at what o e = let r = point_real text fault at what o e in real_stands at r.0 r.1 r.2

  pub real_found : (at : ℕ) → begins_with (drop fault text) 46 ≡ true → FirstOf (ScalarStands Real (take fault text)) at → IsFirstForm text fault at forms.Real
  real_found at e f =
      let le : at ≤ fault = omega (arith, f.found.within, length-take-le fault text within) in
      record {
        found = profile.real at le (begins_in_front text at fault le f.found.begins) (subst (λ (cs : List ℕ). BeginsReal cs) (drop_take at fault text) f.found.stands) (index_of fault text 46 e);
        first = λ other what o. f.first other (stands_there other what o e);
      }

  pub real_none : begins_with (drop fault text) 46 ≡ true → ((n : ℕ) → ScalarStands Real (take fault text) n → ⊥) → HasNoForm text fault
  real_none e f = λ other what o. f other (stands_there other what o e)

  module _ (state : State) (s : StandsAfter (take fault text) state) (no_point_here : NoPoint) where
    -- a form that stands there is known by the state and the characters
    told : (at : ℕ) (what : Form) → OutOfProfile text fault at what → StandsForm state (drop fault text) what × (at ≡ fault)
    told at what (profile.pragma b c) = (declared forms.Pragma (begins_there text fault (after_of state s.begun) s.after b) (pragma (is_indexed fault text 35 (omega arith) c)), refl)
    told at what (profile.qualifiers b c) = (declared forms.Qualifiers (begins_there text fault (after_of state s.begun) s.after b) (qualifiers (is_indexed fault text 91 (omega arith) c)), refl)
    told at what (profile.class b w) = (declared forms.Class (begins_there text fault (after_of state s.begun) s.after b) (class (stands_word text fault (codes "class") w)), refl)
    told at what (profile.qualifier b w) = (declared forms.Qualifier (begins_there text fault (after_of state s.begun) s.after b) (qualifier (stands_word text fault (codes "qualifier") w)), refl)
    told at what (profile.character b c) = (character (scalar_there text fault (after_of state s.begun) s.after b) (is_indexed fault text 39 (omega arith) c), refl)
    told at what (profile.real n le b r p) = absurd (no_point_here (is_indexed fault text 46 (omega arith) p))

    declared_stands : (form : Form) → BeginsDeclaration text fault → BeginsForm (drop fault text) form → OutOfProfile text fault fault form
    declared_stands form b (pragma e) = profile.pragma b (index_of fault text 35 e)
    declared_stands form b (qualifiers e) = profile.qualifiers b (index_of fault text 91 e)
    declared_stands form b (class w) = profile.class b (word_stands text fault (codes "class") w)
    declared_stands form b (qualifier w) = profile.qualifier b (word_stands text fault (codes "qualifier") w)

    stands : (form : Form) → StandsForm state (drop fault text) form → OutOfProfile text fault fault form
    stands form (character b e) = profile.character (scalar_begins text fault (after_of state s.begun) s.after b) (index_of fault text 39 e)
    stands form (declared f b e) = declared_stands f (declaration_begins text fault (after_of state s.begun) s.after b) e

    pub here_found : (form : Form) → StandsForm state (drop fault text) form → IsFirstForm text fault fault form
    here_found form f = record { found = stands form f; first = λ other what o. omega (arith, (told other what o).1) }

    pub here_none : ((form : Form) → StandsForm state (drop fault text) form → ⊥) → HasNoForm text fault
    here_none n = λ at what o. n what (told at what o).0
