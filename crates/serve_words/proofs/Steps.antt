-- A walk without faults, argument by argument, in entries.
use Rattle.std.proofs.Common.{◌≡◌, ◌∙◌, ◌++◌, ℕ, suc, Bool, true, false, List, [], ◌∷◌, refl, ap, subst, Some, None, arith}
use Rattle.std.specs.Prelude.{fold}
use Rattle.std.specs.List.{All}
use Rattle.clap.specs.Lexer.{long_of}
use Rattle.clap.specs.Faults.{check_fault, defaults_fault, settle_fault, turn_fault, use_fault, walk_fault}
use Rattle.clap.specs.Kinds.{Kinds, or_else}
use Rattle.clap.specs.Walk.{Row, Text, Walk, finished, settled, used, walked}
use Rattle.serve_words.proofs.Options.{Which, name, remains, rule, rules, shape}
use Rattle.serve_words.proofs.Turns.{Place, Turn, closed, dashes, ends, fills, first_empty, full, gives, held_at, no_turn, opened, opens, state, turn}
use Rattle.serve_words.proofs.Entries.{Adds, Entry, Takes, rows_of, settles, use_adds}

-- what an argument makes of the entries and the place; the last says that `--` was met
pub data Step (word : Text) (es : List Entry) (place : Place) : List Entry → Place → Bool → Type 0 where
  ended : word ≡ dashes → Step word es place es place true
  named : (o : Which) (fs : List Entry) → long_of word ≡ Some (name o, None) → Adds place es fs → Step word es place fs (opened o) false
  given : (o : Which) (v : Text) (fs : List Entry) → long_of word ≡ Some (name o, Some v) → Adds place es fs → Takes (o, v)
      → Step word es place (fs ++ (o, v) ∷ []) closed false
  valued : (o : Which) → place ≡ opened o → long_of word ≡ None → Step word es place es (full o word) false

pub record Stepped (word : Text) (es : List Entry) (place : Place) (position : ℕ) : Type 0 where
  pub fs : List Entry
  pub next : Place
  pub is_over : Bool
  pub walks : walked rules [] (state (rows_of es) place position false) word ≡ state (rows_of fs) next position is_over
  pub step : Step word es place fs next is_over

module _ (word : Text) (es : List Entry) (place : Place) (position : ℕ) where
  stepped_by : (w : Walk) → walked rules [] (state (rows_of es) place position false) word ≡ w → Turn (rows_of es) place position word w
      → Stepped word es place position
  stepped_by w is (ends e) = record { fs = es; next = place; is_over = true; walks = is; step = ended e }
  stepped_by w is (opens o e settle) =
      let now = settles place es settle in
      record {
        fs = now.0;
        next = opened o;
        is_over = false;
        walks = is ∙ ap (λ (rows : List Row). state rows (opened o) position false) now.1;
        step = named o now.0 e now.2;
      }
  stepped_by w is (gives o v e settle using_it) =
      let now = settles place es settle in
      let new = use_adds o v now.0 (subst (λ (rows : List Row). use_fault false (rule o) (v ∷ []) rows ≡ []) now.1 using_it) in
      record {
        fs = now.0 ++ (o, v) ∷ [];
        next = closed;
        is_over = false;
        walks = is ∙ ap (λ (rows : List Row). state (used (rule o) (v ∷ []) rows) closed position false) now.1
            ∙ ap (λ (rows : List Row). state rows closed position false) new.0;
        step = given o v now.0 e now.2 new.1;
      }
  stepped_by w is (fills o e plain) =
      record { fs = es; next = full o word; is_over = false; walks = is; step = valued o e plain }

  pub stepped : turn_fault shape [] (state (rows_of es) place position false) word ≡ [] → Stepped word es place position
  stepped h = stepped_by _ refl (turn (rows_of es) position word place h)

-- ---- many arguments

-- nothing is left to fail after the first argument, if nothing was before it
pub remains_after : (w : Walk) (word : Text) (arguments : List Text) → remains w (word ∷ arguments) ≡ []
    → (turn_fault shape [] w word ≡ []) × (remains (walked rules [] w word) arguments ≡ [])
unfolding walk_fault
remains_after w word arguments h =
    let parts = first_empty _ _ h in
    let walk = first_empty _ _ parts.0 in
    (walk.0, ap (λ (k : Kinds). or_else k (rest arguments (walked rules [] w word))) walk.1 ∙ parts.1)
  where
    rest : List Text → Walk → Kinds
    rest arguments w =
        let end = (fold (walked rules []) w arguments).held in
        or_else (settle_fault rules false end)
        (or_else (defaults_fault (settled rules end).rows rules) (check_fault shape (finished rules end) false))

-- one argument more, from a place where nothing is left to fail
pub record Goes (word : Text) (arguments : List Text) (es : List Entry) (place : Place) (position : ℕ) : Type 0 where
  pub stepped : Stepped word es place position
  pub remains : remains (state (rows_of stepped.fs) stepped.next position stepped.is_over) arguments ≡ []

pub goes : (word : Text) (arguments : List Text) (es : List Entry) (place : Place) (position : ℕ) (is_over : Bool)
    → remains (state (rows_of es) place position is_over) (word ∷ arguments) ≡ [] → Goes word arguments es place position
goes word arguments es place position true h =
    absurd (no_turn (rows_of es) position word place (remains_after (state (rows_of es) place position true) word arguments h).0)
goes word arguments es place position false h =
    let now = remains_after (state (rows_of es) place position false) word arguments h in
    let step = stepped word es place position now.0 in
    record { stepped = step; remains = subst (λ (w : Walk). remains w arguments ≡ []) step.walks now.1 }

-- where a walk that ends without a fault stands
pub record Ends (P : List Entry → Place → Type 0) (arguments : List Text) (w : Walk) : Type 0 where
  pub es : List Entry
  pub place : Place
  pub keeps : P es place
  pub held : (fold (walked rules []) w arguments).held ≡ held_at (rows_of es) place
  pub settles : settle_fault rules false (held_at (rows_of es) place) ≡ []
  pub checks : check_fault shape (finished rules (held_at (rows_of es) place)) false ≡ []

-- what each step keeps holds at the end
pub ends_with : (P : List Entry → Place → Type 0) (Q : Text → Type 0)
    → ((word : Text) (es fs : List Entry) (place next : Place) (is_over : Bool) → Q word → Step word es place fs next is_over → P es place → P fs next)
    → (arguments : List Text) → All Q arguments → (es : List Entry) (place : Place) (position : ℕ) (is_over : Bool) → P es place
    → remains (state (rows_of es) place position is_over) arguments ≡ [] → Ends P arguments (state (rows_of es) place position is_over)
unfolding walk_fault
ends_with P Q keep [] all es place position is_over holds h =
    let parts = first_empty _ _ h in
    record {
      es = es;
      place = place;
      keeps = holds;
      held = refl;
      settles = parts.0;
      checks = (first_empty _ _ parts.1).1;
    }
ends_with P Q keep (word ∷ arguments) all es place position true holds h =
    absurd (no_turn (rows_of es) position word place (remains_after (state (rows_of es) place position true) word arguments h).0)
ends_with P Q keep (word ∷ arguments) all es place position false holds h =
    let on = goes word arguments es place position false h in
    let s = on.stepped in
    let rest = ends_with P Q keep arguments (λ k d lt. all (suc k) d (omega arith)) s.fs s.next position s.is_over
    (keep word es s.fs place s.next s.is_over (all 0 word (omega arith)) s.step holds) on.remains in
    record {
      es = rest.es;
      place = rest.place;
      keeps = rest.keeps;
      held = ap (λ (w : Walk). (fold (walked rules []) w arguments).held) s.walks ∙ rest.held;
      settles = rest.settles;
      checks = rest.checks;
    }
