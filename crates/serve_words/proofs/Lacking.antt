-- Arguments none of which names some option are refused.
use Rattle.std.proofs.Common.{◌≡◌, ◌≢◌, ◌⊎◌, ◌∙◌, ◌++◌, ◌==◌, ℕ, Bool, true, false, List, [], ◌∷◌, refl, sym, ap, subst, Option, Some, None, length, inl, inr, slice_index_or, if◌then◌else◌}
use Rattle.std.specs.List.{All, after_first, before_first, position_or_len}
use Rattle.std.proofs.lemmas.Bool.{cases_lt, eqb-true}
use Rattle.std.proofs.lemmas.List.{take_all}
use Rattle.std.proofs.lemmas.List.Sums.{passes_at_first, split_at_first}
use Rattle.clap.specs.Lexer.{long_of, long_of_rest, strip_byte}
use Rattle.clap.specs.Faults.{fault_of}
use Rattle.clap.specs.Walk.{Text}
use Rattle.serve_words.specs.Laws.{IsOption, Names}
use Rattle.serve_words.specs.Words.{serve_app}
use Rattle.serve_words.proofs.Options.{Which, connections, fault_is, listen, name, shelf, store}
use Rattle.serve_words.proofs.Turns.{Place, closed, full, opened}
use Rattle.serve_words.proofs.Entries.{Each, Entry, each_adds, each_push}
use Rattle.serve_words.proofs.Steps.{Step, ended, ends_with, given, named, valued}
use Rattle.serve_words.proofs.Taken.{found_at_end}

-- ---- an argument that is read as a long option names it

stripped : (c : ℕ) (word rest : Text) → strip_byte c word ≡ Some rest → word ≡ c ∷ rest
stripped c [] rest e = cc
stripped c (x ∷ xs) rest e = go (x == c) refl e
  where
    go : (b : Bool) → b ≡ (x == c) → (if b then Some xs else None) ≡ Some rest → x ∷ xs ≡ c ∷ rest
    go true is found = let same : xs ≡ rest = cc in rw (eqb-true x c (sym is), same) refl
    go false is found = cc

abbrev is_equals : ℕ → Bool
is_equals x = x == 61

-- a text is its name, or its name, `=` and more
name_stands : (s : Text) → (s ≡ before_first is_equals s) ⊎ ((value : Text) × (s ≡ before_first is_equals s ++ 61 ∷ value))
name_stands s = elim (cases_lt (position_or_len is_equals s) (length s)) [
  | inl there ↦
      let mark : slice_index_or s (position_or_len is_equals s) 0 ≡ 61 = eqb-true _ 61 (passes_at_first is_equals s 0 there) in
      inr (after_first is_equals s, split_at_first is_equals s 0 there ∙ ap (λ (c : ℕ). before_first is_equals s ++ c ∷ after_first is_equals s) mark)
  | inr over ↦ inl (sym (take_all (position_or_len is_equals s) s over))
]

long_rest : (n s : Text) (v : Option Text) → long_of_rest s ≡ Some (n, v) → (s ≡ n) ⊎ ((value : Text) × (s ≡ n ++ 61 ∷ value))
long_rest n [] v e = cc
long_rest n (y ∷ ys) v e =
    let is : before_first is_equals (y ∷ ys) ≡ n = ap first_name e in
    elim (name_stands (y ∷ ys)) [
      | inl whole ↦ inl (whole ∙ is)
      | inr more ↦ inr (more.0, more.1 ∙ ap (λ (t : Text). t ++ 61 ∷ more.0) is)
    ]
  where
    first_name : Option (Text × Option Text) → Text
    first_name None = []
    first_name (Some p) = p.0

pub names : (n word : Text) (v : Option Text) → long_of word ≡ Some (n, v) → Names n word
names n word v e = first (strip_byte 45 word) refl
  where
    third : (rest s : Text) → word ≡ 45 ∷ rest → rest ≡ 45 ∷ s → long_of_rest s ≡ Some (n, v) → Names n word
    third rest s one two found =
        let whole : word ≡ 45 ∷ 45 ∷ s = one ∙ ap (λ (t : Text). 45 ∷ t) two in
        elim (long_rest n s v found) [
          | inl is ↦ inl (whole ∙ ap (λ (t : Text). 45 ∷ 45 ∷ t) is)
          | inr more ↦ inr (more.0, whole ∙ ap (λ (t : Text). 45 ∷ 45 ∷ t) more.1)
        ]

    second : (rest : Text) (o : Option Text) → word ≡ 45 ∷ rest → strip_byte 45 rest ≡ o → long_of word ≡ long_of (45 ∷ rest) → Names n word
    second rest None one two same = let bad : ◌≡◌ {A = Option (Text × Option Text)} None (Some (n, v)) = rw two at (sym same ∙ e) in cc
    second rest (Some s) one two same = third rest s one (stripped 45 rest s two) (rw two at (sym same ∙ e))

    first : (o : Option Text) → strip_byte 45 word ≡ o → Names n word
    first None one = let bad : ◌≡◌ {A = Option (Text × Option Text)} None (Some (n, v)) = rw one at e in cc
    first (Some rest) one = let is = stripped 45 word rest one in second rest (strip_byte 45 rest) is refl (ap long_of is)

-- ---- no entry and no place is of the option

abbrev Other : Which → Entry → Type 0
Other o e = e.0 ≡ o → ⊥

abbrev Away : Which → Place → Type 0
Away o closed = Unit {0}
Away o (opened p) = p ≡ o → ⊥
Away o (full p v) = p ≡ o → ⊥

abbrev Unnamed : Which → Text → Type 0
Unnamed o word = Names (name o) word → ⊥

abbrev Without : Which → List Entry → Place → Type 0
Without o es place = Each (Other o) es × Away o place

other_than : (o p : Which) (word : Text) (v : Option Text) → Unnamed o word → long_of word ≡ Some (name p, v) → p ≡ o → ⊥
other_than o p word v unnamed e same = unnamed (names (name o) word v (e ∙ ap (λ (q : Which). Some (name q, v)) same))

stays_without : (o : Which) (word : Text) (es fs : List Entry) (place next : Place) (is_over : Bool) → Unnamed o word
    → Step word es place fs next is_over → Without o es place → Without o fs next
stays_without o word es fs place next is_over q (ended e) holds = holds
stays_without o word es fs place next is_over q (named p gs e adds) holds =
    (each_adds (Other o) place es gs adds holds.0 (λ r v at t. subst (Away o) at holds.1), other_than o p word None q e)
stays_without o word es fs place next is_over q (given p v gs e adds takes) holds = (
  each_push (Other o) gs (p, v) (each_adds (Other o) place es gs adds holds.0 (λ r w at t. subst (Away o) at holds.1))
      (other_than o p word (Some v) q e),
  tt,
)
stays_without o word es fs place next is_over q (valued p e plain) holds = (holds.0, subst (Away o) e holds.1)

without_option : (o : Which) (arguments : List Text) → All (Unnamed o) arguments → fault_of serve_app arguments ≢ []
without_option o arguments all e =
    let end = ends_with (Without o) (Unnamed o) (stays_without o) arguments all [] closed 1 false (tt, tt) (sym (fault_is arguments) ∙ e) in
    (found_at_end (Other o) (Without o) arguments end end.keeps.0 (λ p v at takes. subst (Away o) at end.keeps.1) o).2 refl

pub without_an_option : (n : Text) (arguments : List Text) → IsOption n → All (λ word. Names n word → ⊥) arguments → fault_of serve_app arguments ≢ []
without_an_option n arguments (inl is) all = without_option store arguments (subst (λ (m : Text). All (λ word. Names m word → ⊥) arguments) is all)
without_an_option n arguments (inr (inl is)) all = without_option shelf arguments (subst (λ (m : Text). All (λ word. Names m word → ⊥) arguments) is all)
without_an_option n arguments (inr (inr (inl is))) all = without_option listen arguments (subst (λ (m : Text). All (λ word. Names m word → ⊥) arguments) is all)
without_an_option n arguments (inr (inr (inr is))) all = without_option connections arguments (subst (λ (m : Text). All (λ word. Names m word → ⊥) arguments) is all)
