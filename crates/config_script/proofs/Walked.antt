-- How code goes over a text: separators, tokens, and the places between them.
use Rattle.std.proofs.Common.{◌≡◌, ◌≤◌, length, ℕ, Bool, true, false, not, ◌||◌, List, [], ◌∷◌, ◌++◌, refl, sym, ap, ap₂, subst, ◌∙◌, append_assoc, append-nil, Option, Some, None, cond, arith}
use Rattle.std.specs.Prelude.{◌==◌}
use Rattle.std.proofs.lemmas.Bool.Decides.{nat_tests}
use Rattle.mof_values.specs.Ident.{is_first, is_next}
use Rattle.mof_syntax.specs.Characters.{digit_of, is_blank, Stops}
use Rattle.mof_syntax.specs.Separators.{LineComment, at_end, at_feed, over}
use Rattle.mof_syntax.specs.Scanning.{after, is_in_line}
use Rattle.config_script.specs.declared.place.Place.{Place}
use Rattle.config_script.specs.declared.place.Place.TheVariants.{Start, End}
use Rattle.config_script.specs.Tokens.{Magnitude, nought, digits, Token, IsToken, word, verbatim, quoted, unsigned, negative, true_constant, false_constant, null_constant, left_brace_mark, right_brace_mark, equals_mark, semicolon_mark, comma_mark, array_begin_mark, array_end_mark, Placed, placed, Lexes, end, blank, comment, token}
use Rattle.mof_syntax.specs.Tokens.{identifier}
use Rattle.config_script.specs.Scripts.{Block, Script, IsScript}
use Rattle.config_script.specs.Lexing.{first_token, separated}
use Rattle.config_script.specs.Places.{Event, Step, step, with_event, Goes, script_events}
use Rattle.config_script.specs.Places as places
use Rattle.config_script.proofs.Lexed.{lexed_same, token_is, token_stands}
use Rattle.config_script.proofs.Rules.{goes_back, goes_configuration}

-- ---- separators

-- a character with which a separator begins
abbrev pub separates : ℕ → Bool
separates c = is_blank c || (c == 35)

equal_to : (c d : ℕ) → (c == d) ≡ true → c ≡ d
equal_to c d e = grind (arith, nat_tests)

feed_is_blank : (c : ℕ) → (c == 10) ≡ true → is_blank c ≡ true
feed_is_blank c e = grind (arith, nat_tests)

-- a comment is over at the next line feed, or at the end
commented : (f : Bool) (cs rest : List ℕ) → LineComment cs rest → separated f true cs ≡ separated f false rest
commented f cs rest at_end = refl
commented f cs rest (at_feed r) = refl
commented f cs rest (over c us r e l) = ap (λ (b : Bool). cond b (separated true false us) (separated f true us)) e ∙ commented f us r l

or_true : (x : Bool) → (x || true) ≡ true
or_true true = refl
or_true false = refl

or_false : (x : Bool) → (x || false) ≡ x
or_false true = refl
or_false false = refl

-- the tests of a separator
abbrev tested : Bool → ℕ → List ℕ → Bool → Bool → Bool → Bool × List ℕ
tested f c cs a b d = cond a (separated true false cs) (cond b (separated f false cs) (cond d (separated f true cs) (f, c ∷ cs)))

blank_separated : (f : Bool) (c : ℕ) (cs : List ℕ) → is_blank c ≡ true → separated f false (c ∷ cs) ≡ separated (f || (c == 10)) false cs
blank_separated f c cs e = by (c == 10)
  where
    by : (a : Bool) → tested f c cs a (is_blank c) (c == 35) ≡ separated (f || a) false cs
    by true = ap (λ (x : Bool). separated x false cs) (sym (or_true f))
    by false = ap (λ (b : Bool). tested f c cs false b (c == 35)) e ∙ ap (λ (x : Bool). separated x false cs) (sym (or_false f))

other_separated : (f : Bool) (c : ℕ) (cs : List ℕ) → separates c ≡ false → separated f false (c ∷ cs) ≡ (f, c ∷ cs)
other_separated f c cs e =
    let feed : (c == 10) ≡ false = grind (arith, nat_tests) in
    let no_blank : is_blank c ≡ false = grind (arith, nat_tests) in
    let sign : (c == 35) ≡ false = grind (arith, nat_tests) in
    λ k. tested f c cs (feed k) (no_blank k) (sign k)

pub next_separates : (c : ℕ) → is_next c ≡ true → separates c ≡ false
next_separates c h = grind (arith, nat_tests)

pub first_goes_on : (c : ℕ) → is_first c ≡ true → is_next c ≡ true
first_goes_on c h = grind (arith, nat_tests)

pub digit_goes_on : (c : ℕ) → digit_of 10 c ≡ true → is_next c ≡ true
digit_goes_on c h = grind (arith, nat_tests)

magnitude_separated : (f : Bool) (cs : List ℕ) (n : ℕ) (rest : List ℕ) → Magnitude cs n rest → separated f false cs ≡ (f, cs)
magnitude_separated f cs n rest (nought r) = refl
magnitude_separated f cs n rest (digits d us ds r nz is run) = other_separated f d us (next_separates d (digit_goes_on d is))

token_separated : (f : Bool) (cs : List ℕ) (t : Token) (rest : List ℕ) → IsToken cs t rest → separated f false cs ≡ (f, cs)
token_separated f cs t rest (word us name r (identifier c vs tail q e run s)) = other_separated f c vs (next_separates c (first_goes_on c e))
token_separated f cs t rest (verbatim us text r v) = refl
token_separated f cs t rest (quoted us text r q) = refl
token_separated f cs t rest (unsigned us n r m s) = magnitude_separated f us n r m
token_separated f cs t rest (negative us n r m s) = refl
token_separated f cs t rest (true_constant us name r i same) = refl
token_separated f cs t rest (false_constant us name r i same) = refl
token_separated f cs t rest (null_constant us name r i same) = refl
token_separated f cs t rest (left_brace_mark r) = refl
token_separated f cs t rest (right_brace_mark r) = refl
token_separated f cs t rest (equals_mark r) = refl
token_separated f cs t rest (semicolon_mark r) = refl
token_separated f cs t rest (comma_mark r) = refl
token_separated f cs t rest (array_begin_mark r) = refl
token_separated f cs t rest (array_end_mark r) = refl

line_after : (cs : List ℕ) → LineComment cs (after is_in_line cs)
line_after [] = at_end
line_after (c ∷ cs) = by (c == 10) refl (line_after cs)
  where
    by : (b : Bool) → (c == 10) ≡ b → LineComment cs (after is_in_line cs) → LineComment (c ∷ cs) (cond (not b) (after is_in_line cs) (c ∷ cs))
    by true e h = subst (λ (x : ℕ). LineComment (x ∷ cs) (x ∷ cs)) (sym (equal_to c 10 e)) (at_feed cs)
    by false e h = over c cs (after is_in_line cs) e h

-- a comment, up to its line feed or the end
pub comment_passed : (f : Bool) (text left rest after_line : List ℕ) (c : ℕ) → separated false false text ≡ separated f false left → left ≡ c ∷ rest → c ≡ 35
    → after_line ≡ after is_in_line rest → separated false false text ≡ separated f false after_line
comment_passed f text left rest after_line c so_far is sign e =
    so_far ∙ ap (separated f false) (is ∙ ap (λ (x : ℕ). x ∷ rest) sign) ∙ commented f rest (after is_in_line rest) (line_after rest) ∙ ap (separated f false) (sym e)

pub after_short : (p : ℕ → Bool) (cs : List ℕ) → length (after p cs) ≤ length cs
after_short p [] = omega arith
after_short p (c ∷ cs) = by (p c) (after_short p cs)
  where
    by : (b : Bool) → length (after p cs) ≤ length cs → length (cond b (after p cs) (c ∷ cs)) ≤ length (c ∷ cs)
    by true h = omega arith
    by false h = omega arith

-- what is in a list of tokens is there after its separators
pub separated_on : (f : Bool) (cs : List ℕ) (ts : List Placed) → Lexes f cs ts → Lexes (separated f false cs).0 (separated f false cs).1 ts
separated_on f cs ts (end g) = end g
separated_on f cs ts (blank g c us vs e l) =
    subst (λ (s : Bool × List ℕ). Lexes s.0 s.1 vs) (sym (blank_separated g c us e)) (separated_on (g || (c == 10)) us vs l)
separated_on f cs ts (comment g us rest vs c l) =
    subst (λ (s : Bool × List ℕ). Lexes s.0 s.1 vs) (sym (commented g us rest c)) (separated_on g rest vs l)
separated_on f cs ts (token g us t rest vs is l) =
    subst (λ (s : Bool × List ℕ). Lexes s.0 s.1 (placed g us t ∷ vs)) (sym (token_separated g us t rest is)) (token g us t rest vs is l)

-- and the other way round; within a comment its end is found
abbrev Back : Bool → Bool → List ℕ → List Placed → Type 0
Back false f cs ts = Lexes f cs ts
Back true f cs ts = (rest : List ℕ) × LineComment cs rest × Lexes f rest ts

back : (within f : Bool) (cs : List ℕ) (ts : List Placed) → Lexes (separated f within cs).0 (separated f within cs).1 ts → Back within f cs ts
back true f [] ts l = ([], at_end, l)
back false f [] ts l = l
back true f (c ∷ cs) ts l = by (c == 10) refl (back false true cs ts) (back true f cs ts) l
  where
    by : (a : Bool) → (c == 10) ≡ a
        → (Lexes (separated true false cs).0 (separated true false cs).1 ts → Lexes true cs ts)
        → (Lexes (separated f true cs).0 (separated f true cs).1 ts → Back true f cs ts)
        → Lexes (cond a (separated true false cs) (separated f true cs)).0 (cond a (separated true false cs) (separated f true cs)).1 ts
        → Back true f (c ∷ cs) ts
    by true e fresh on l =
        subst (λ (x : ℕ). Back true f (x ∷ cs) ts) (sym (equal_to c 10 e))
        (10 ∷ cs, at_feed cs, blank f 10 cs ts refl (subst (λ (g : Bool). Lexes g cs ts) (sym (or_true f)) (fresh l)))
    by false e fresh on l = let h = on l in (h.0, over c cs h.0 e h.1, h.2)
back false f (c ∷ cs) ts l = by (c == 10) (is_blank c) (c == 35) refl refl refl (back false true cs ts) (back false f cs ts) (back true f cs ts) l
  where
    by : (a b d : Bool) → (c == 10) ≡ a → is_blank c ≡ b → (c == 35) ≡ d
        → (Lexes (separated true false cs).0 (separated true false cs).1 ts → Lexes true cs ts)
        → (Lexes (separated f false cs).0 (separated f false cs).1 ts → Lexes f cs ts)
        → (Lexes (separated f true cs).0 (separated f true cs).1 ts → Back true f cs ts)
        → Lexes (tested f c cs a b d).0 (tested f c cs a b d).1 ts → Lexes f (c ∷ cs) ts
    by true b d e g h fresh on commented l =
        blank f c cs ts (feed_is_blank c e) (subst (λ (x : Bool). Lexes (f || x) cs ts) (sym e) (subst (λ (x : Bool). Lexes x cs ts) (sym (or_true f)) (fresh l)))
    by false true d e g h fresh on commented l =
        blank f c cs ts g (subst (λ (x : Bool). Lexes (f || x) cs ts) (sym e) (subst (λ (x : Bool). Lexes x cs ts) (sym (or_false f)) (on l)))
    by false false true e g h fresh on commented l =
        let r = commented l in
        subst (λ (x : ℕ). Lexes f (x ∷ cs) ts) (sym (equal_to c 35 h)) (comment f cs r.0 ts r.1 r.2)
    by false false false e g h fresh on commented l = l

pub separated_back : (f : Bool) (cs : List ℕ) (ts : List Placed) → Lexes (separated f false cs).0 (separated f false cs).1 ts → Lexes f cs ts
separated_back f cs ts l = back false f cs ts l

-- ---- tokens

pub blank_or_sign : (c : ℕ) → is_blank c ≡ true → separates c ≡ true
blank_or_sign c e = ap (λ (b : Bool). b || (c == 35)) e

-- no separator comes first after the separators
pub separated_stops : (within f : Bool) (cs : List ℕ) → Stops separates (separated f within cs).1
separated_stops true f [] = tt
separated_stops false f [] = tt
separated_stops true f (c ∷ cs) = by (c == 10) (separated_stops false true cs) (separated_stops true f cs)
  where
    by : (a : Bool) → Stops separates (separated true false cs).1 → Stops separates (separated f true cs).1
        → Stops separates (cond a (separated true false cs) (separated f true cs)).1
    by true fresh on = fresh
    by false fresh on = on
separated_stops false f (c ∷ cs) = by (c == 10) (is_blank c) (c == 35) refl refl (separated_stops false true cs) (separated_stops false f cs) (separated_stops true f cs)
  where
    by : (a b d : Bool) → is_blank c ≡ b → (c == 35) ≡ d → Stops separates (separated true false cs).1 → Stops separates (separated f false cs).1
        → Stops separates (separated f true cs).1 → Stops separates (tested f c cs a b d).1
    by true b d g h fresh on commented = fresh
    by false true d g h fresh on commented = on
    by false false true g h fresh on commented = commented
    by false false false g h fresh on commented = ap₂ (λ (x y : Bool). x || y) g h

pub at_text_end : (f : Bool) (ts : List Placed) → Lexes f [] ts → ts ≡ []
at_text_end f ts (end g) = refl
at_text_end f ts (token g us t rest vs is l) = let found = token_is us t rest is in cc

pub token_found : (f : Bool) (cs : List ℕ) (ts : List Placed) (t : Token) (rest : List ℕ) → Stops separates cs → first_token cs ≡ Some (t, rest) → Lexes f cs ts
    → (us : List Placed) × (ts ≡ placed f cs t ∷ us) × Lexes false rest us
token_found f cs ts t rest s e (end g) = cc
token_found f cs ts t rest s e (blank g c us vs is l) = let no = blank_or_sign c is in cc
token_found f cs ts t rest s e (comment g us after vs c l) = cc
token_found f cs ts t rest s e (token g us u after vs is l) =
    let found = token_is us u after is in
    let same = lexed_same u after t rest (sym found ∙ e) in
    (vs, ap (λ (x : Token). placed g us x ∷ vs) same.0, subst (λ (xs : List ℕ). Lexes false xs vs) same.1 l)

token_missing : (f : Bool) (c : ℕ) (cs : List ℕ) (ts : List Placed) → Stops separates (c ∷ cs) → first_token (c ∷ cs) ≡ None → Lexes f (c ∷ cs) ts → ⊥
token_missing f c cs ts s e (blank g d us vs is l) = let no = blank_or_sign d is in cc
token_missing f c cs ts s e (comment g us after vs d l) = cc
token_missing f c cs ts s e (token g us u after vs is l) = let found = token_is us u after is in cc

-- ---- the walk over a text

-- the text up to what is left was gone over to the place, and added these events: a list of tokens that goes on from here
-- is one of the whole text, and the other way round
pub record ReadSoFar (text : List ℕ) (fed : Bool) (left : List ℕ) (place : Place) (es : List Event) : Type 0 where
  pub clear : Stops separates left
  pub back : (ts : List Placed) (fs : List Event) → Lexes fed left ts → Goes place ts fs
      → (us : List Placed) × Lexes false text us × Goes Start us (es ++ fs)
  pub on : (us : List Placed) (gs : List Event) → Lexes false text us → Goes Start us gs
      → (ts : List Placed) × (fs : List Event) × Lexes fed left ts × Goes place ts fs × (gs ≡ es ++ fs)

pub read_start : (text : List ℕ) → ReadSoFar text (separated false false text).0 (separated false false text).1 Start []
read_start text = record {
  clear = separated_stops false false text;
  back = λ ts fs l g. (ts, separated_back false text ts l, g);
  on = λ us gs l g. (us, gs, separated_on false text us l, g, refl);
}

pub goes_inverse : (p : Place) (f : Bool) (c : List ℕ) (t : Token) (ts : List Placed) (es : List Event) → Goes p (placed f c t ∷ ts) es
    → (s : Step) × (fs : List Event) × (step p f c t ≡ Some s) × Goes s.place ts fs × (es ≡ with_event s.event fs)
goes_inverse p f c t ts es (places.on q g d u s us fs is more) = (s, fs, is, more, refl)

-- an event at the end of a list
event_last : (es : List Event) (e : Option Event) (fs : List Event) → (es ++ with_event e []) ++ fs ≡ es ++ with_event e fs
event_last es None fs = ap (λ (xs : List Event). xs ++ fs) (append-nil es)
event_last es (Some e) fs = append_assoc es (e ∷ []) fs

module _ (text : List ℕ) (fed : Bool) (left : List ℕ) (place : Place) (es : List Event) (so_far : ReadSoFar text fed left place es) where
  pub read_next : (t : Token) (rest : List ℕ) (s : Step) → first_token left ≡ Some (t, rest) → step place fed left t ≡ Some s
      → ReadSoFar text (separated false false rest).0 (separated false false rest).1 s.place (es ++ with_event s.event [])
  read_next t rest s found is = record {
    clear = separated_stops false false rest;
    back = λ ts fs l g.
        let r = so_far.back (placed fed left t ∷ ts) (with_event s.event fs)
        (token fed left t rest ts (token_stands left t rest found) (separated_back false rest ts l)) (places.on place fed left t s ts fs is g) in
        (r.0, r.1, subst (λ (xs : List Event). Goes Start r.0 xs) (sym (event_last es s.event fs)) r.2);
    on = λ us gs l g.
        let r = so_far.on us gs l g in
        let f = token_found fed left r.0 t rest so_far.clear found r.2 in
        let i = goes_inverse place fed left t f.0 r.1 (subst (λ (xs : List Placed). Goes place xs r.1) f.1 r.3) in
        let same : i.0 ≡ s = same_step i.0 i.2 in (
          f.0,
          i.1,
          separated_on false rest f.0 f.2,
          subst (λ (x : Step). Goes x.place f.0 i.1) same i.3,
          r.4 ∙ ap (λ (xs : List Event). es ++ xs) (i.4 ∙ ap (λ (x : Step). with_event x.event i.1) same) ∙ sym (event_last es s.event i.1),
        );
  }
    where
      same_step : (x : Step) → step place fed left t ≡ Some x → x ≡ s
      same_step x e = cc

  -- what is read at the end of a script
  pub read_whole : left ≡ [] → place ≡ End → (title : List ℕ) × (blocks : List Block) × Script text title blocks × (es ≡ script_events title blocks)
  read_whole empty ended =
      let r = so_far.back [] [] (subst (λ (xs : List ℕ). Lexes fed xs []) (sym empty) (end fed)) (subst (λ (p : Place). Goes p [] []) (sym ended) places.end) in
      let g = goes_back Start r.0 (es ++ []) r.2 in
      (g.0, g.1, (r.0, r.1, g.2), sym (append-nil es) ∙ g.3)

  gone : IsScript text → (ts : List Placed) × (fs : List Event) × Lexes fed left ts × Goes place ts fs
  gone script =
      let s = script.2 in
      let r = so_far.on s.0 (script_events script.0 script.1) s.1 (goes_configuration s.0 script.0 script.1 s.2) in
      (r.0, r.1, r.2, r.3)

  pub read_cut : left ≡ [] → (place ≡ End → ⊥) → IsScript text → ⊥
  read_cut empty open_place script =
      let r = gone script in
      at_none r.1 (subst (λ (xs : List Placed). Goes place xs r.1) (at_text_end fed r.0 (subst (λ (xs : List ℕ). Lexes fed xs r.0) empty r.2)) r.3)
    where
      only_end : (p : Place) (fs : List Event) → Goes p [] fs → p ≡ End
      only_end p fs places.end = refl

      at_none : (fs : List Event) → Goes place [] fs → ⊥
      at_none fs g = open_place (only_end place fs g)

  pub read_torn : (c : ℕ) (cs : List ℕ) → left ≡ c ∷ cs → first_token left ≡ None → IsScript text → ⊥
  read_torn c cs is none script =
      let r = gone script in
      token_missing fed c cs r.0 (subst (Stops separates) is so_far.clear) (ap first_token (sym is) ∙ none) (subst (λ (xs : List ℕ). Lexes fed xs r.0) is r.2)

  pub read_stuck : (t : Token) (rest : List ℕ) → first_token left ≡ Some (t, rest) → step place fed left t ≡ None → IsScript text → ⊥
  read_stuck t rest found none script =
      let r = gone script in
      let f = token_found fed left r.0 t rest so_far.clear found r.2 in
      let i = goes_inverse place fed left t f.0 r.1 (subst (λ (xs : List Placed). Goes place xs r.1) f.1 r.3) in
      clash i.0 i.2
    where
      clash : (s : Step) → step place fed left t ≡ Some s → ⊥
      clash s e = cc
