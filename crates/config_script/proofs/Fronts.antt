-- Fronts of the rest of a script, from a place on.
use Rattle.std.proofs.Common.{◌≡◌, ℕ, Bool, true, false, ◌||◌, List, [], ◌∷◌, ◌++◌, length, length-append, ◌<◌, ◌≤◌, ◌+◌, suc, refl, sym, ap, subst, ◌∙◌, append_assoc, Option, Some, None, cond, arith}
use Rattle.std.specs.Prelude.{◌==◌, option_map}
use Rattle.std.proofs.lemmas.Bool.{true≢false}
use Rattle.std.proofs.lemmas.Bool.Decides.{nat_tests}
use Rattle.mof_values.specs.Ident.{is_first}
use Rattle.mof_syntax.specs.Characters.{digit_of, is_blank}
use Rattle.mof_syntax.specs.Separators.{LineComment, at_feed, over}
use Rattle.mof_syntax.specs.Tokens.{Identifier, identifier}
use Rattle.config_script.specs.declared.place.Place.{Place}
use Rattle.config_script.specs.declared.place.Place.TheVariants.{InBlock, InResource, AfterValue, AfterSemicolon}
use Rattle.config_script.specs.Lexing.{Lexed, first_token, separated}
use Rattle.config_script.specs.Places.{Event, Step, step, with_event, Goes}
use Rattle.config_script.specs.Places as places
use Rattle.config_script.specs.Tokens.{Magnitude, Token, Word, IsToken, word, unsigned, Placed, placed, Lexes}
use Rattle.config_script.specs.Tokens as tokens
use Rattle.config_script.proofs.Lexed.{token_is, token_stands}
use Rattle.config_script.proofs.Kept.{Alike, same, fed, token_kept}

-- from the place on the characters are the rest of a script
abbrev pub From : Place → Bool → List ℕ → Type 0
From p f cs = (ts : List Placed) × (es : List Event) × Lexes f cs ts × Goes p ts es

-- the longest front with which something that P holds of begins; where that is nothing, a line feed may follow
pub record Torn (P : List ℕ → Type 0) (cs out : List ℕ) : Type 0 where
  pub front : List ℕ
  pub split : cs ≡ front ++ out
  pub others : List ℕ
  pub goes_on : P (front ++ others)
  pub feeds : front ≡ [] → (k : List ℕ) × (others ≡ 10 ∷ k)
  pub longest : (c : ℕ) (us vs : List ℕ) → out ≡ c ∷ us → P (front ++ c ∷ vs) → ⊥

both : (b : Bool) → b ≡ true → b ≡ false → ⊥
both b t f = true≢false (sym t ∙ f)

-- ---- tokens

no_identifier : (name r : List ℕ) → Identifier [] name r → ⊥
no_identifier name r i = elim i [ ]

no_magnitude : (n : ℕ) (r : List ℕ) → Magnitude [] n r → ⊥
no_magnitude n r m = elim m [ ]

no_token : (t : Token) (r : List ℕ) → IsToken [] t r → ⊥
no_token t r (word us n q i) = no_identifier n q i
no_token t r (unsigned us n q m s) = no_magnitude n q m

first_apart : (c : ℕ) → is_first c ≡ true → (is_blank c ≡ false) × ((c == 35) ≡ false)
first_apart c e = (blank c e, sign c e)
  where
    blank : (c : ℕ) → is_first c ≡ true → is_blank c ≡ false
    blank c e = grind (arith, nat_tests)

    sign : (c : ℕ) → is_first c ≡ true → (c == 35) ≡ false
    sign c e = grind (arith, nat_tests)

digit_apart : (c : ℕ) → digit_of 10 c ≡ true → (is_blank c ≡ false) × ((c == 35) ≡ false)
digit_apart c e = (blank c e, sign c e)
  where
    blank : (c : ℕ) → digit_of 10 c ≡ true → is_blank c ≡ false
    blank c e = grind (arith, nat_tests)

    sign : (c : ℕ) → digit_of 10 c ≡ true → (c == 35) ≡ false
    sign c e = grind (arith, nat_tests)

identifier_apart : (c : ℕ) (cs name r : List ℕ) → Identifier (c ∷ cs) name r → (is_blank c ≡ false) × ((c == 35) ≡ false)
identifier_apart c cs name r (identifier d us tail q e run s) = first_apart c e

magnitude_apart : (c : ℕ) (cs : List ℕ) (n : ℕ) (r : List ℕ) → Magnitude (c ∷ cs) n r → (is_blank c ≡ false) × ((c == 35) ≡ false)
magnitude_apart c cs n r (tokens.nought x) = (refl, refl)
magnitude_apart c cs n r (tokens.digits d us ds x nz e run) = digit_apart c e

-- no token begins as a separator does
pub token_apart : (c : ℕ) (cs : List ℕ) (t : Token) (r : List ℕ) → IsToken (c ∷ cs) t r → (is_blank c ≡ false) × ((c == 35) ≡ false)
token_apart c cs t r (word us n q i) = identifier_apart c cs n q i
token_apart c cs t r (unsigned us n q m s) = magnitude_apart c cs n q m
token_apart c cs t r i = (refl, refl)

pub pair_same : (t : Token) (r : List ℕ) (u : Token) (q : List ℕ) → ◌≡◌ {A = Lexed} (Some (t, r)) (Some (u, q)) → (t ≡ u) × (r ≡ q)
pair_same t r u q e =
    let p : ◌≡◌ {A = Token × List ℕ} (t, r) (u, q) = cc in
    (ap (λ (x : Token × List ℕ). x.0) p, ap (λ (x : Token × List ℕ). x.1) p)

token_same : (cs : List ℕ) (t : Token) (r : List ℕ) (u : Token) (q : List ℕ) → IsToken cs t r → IsToken cs u q → (t ≡ u) × (r ≡ q)
token_same cs t r u q i j = pair_same t r u q (sym (token_is cs t r i) ∙ token_is cs u q j)

lexes_token : (f : Bool) (cs : List ℕ) (t : Token) (r : List ℕ) (ts : List Placed) → IsToken cs t r → Lexes f cs ts
    → (us : List Placed) × (ts ≡ placed f cs t ∷ us) × Lexes false r us
lexes_token f cs t r ts i (tokens.end g) = absurd (no_token t r i)
lexes_token f cs t r ts i (tokens.blank g c us vs b l) = absurd (both (is_blank c) b (token_apart c us t r i).0)
lexes_token f cs t r ts i (tokens.comment g us rest vs m l) = absurd (both (35 == 35) refl (token_apart 35 us t r i).1)
lexes_token f cs t r ts i (tokens.token g us u q vs j l) =
    let e = token_same cs t r u q i j in
    (vs, ap (λ (x : Token). placed f cs x ∷ vs) (sym e.0), subst (λ (xs : List ℕ). Lexes false xs vs) (sym e.1) l)

-- ---- steps

same_place : (p : Place) (f : Bool) (c d : List ℕ) (t : Token) → option_map (λ (x : Step). x.place) (step p f c t) ≡ option_map (λ (x : Step). x.place) (step p f d t)
same_place AfterValue true c d (Word w) = refl
same_place AfterValue false c d (Word w) = refl
same_place InBlock f c d (Word w) = refl
same_place InResource f c d (Word w) = refl
same_place AfterSemicolon f c d (Word w) = refl
same_place p f c d t = refl

-- where a token stands is nothing to the place after it
other_step : (p : Place) (f : Bool) (c d : List ℕ) (t : Token) (s : Step) → step p f c t ≡ Some s → (z : Step) × (step p f d t ≡ Some z) × (z.place ≡ s.place)
other_step p f c d t s e = pick (step p f d t) refl (sym (same_place p f c d t) ∙ ap (option_map (λ (x : Step). x.place)) e)
  where
    pick : (o : Option Step) → step p f d t ≡ o → option_map (λ (x : Step). x.place) o ≡ Some s.place → (z : Step) × (step p f d t ≡ Some z) × (z.place ≡ s.place)
    pick None e m = cc
    pick (Some z) e m = (z, e, cc)

pub lead : (p : Place) (f : Bool) (cs : List ℕ) (t : Token) (r : List ℕ) (s : Step) → IsToken cs t r → step p f cs t ≡ Some s → From s.place false r → From p f cs
lead p f cs t r s i e g = (placed f cs t ∷ g.0, with_event s.event g.1, tokens.token f cs t r g.0 i g.2, places.on p f cs t s g.0 g.1 e g.3)

step_back : (p : Place) (f : Bool) (c : List ℕ) (t : Token) (us : List Placed) (es : List Event) → Goes p (placed f c t ∷ us) es
    → (z : Step) × (fs : List Event) × (step p f c t ≡ Some z) × Goes z.place us fs
step_back p f c t us es (places.on q g d u z vs fs e go) = (z, fs, e, go)

-- behind a token that stands
behind : (p : Place) (f : Bool) (c cs : List ℕ) (t : Token) (r : List ℕ) (s : Step) → IsToken cs t r → step p f c t ≡ Some s → From p f cs → From s.place false r
behind p f c cs t r s i e g =
    let h = lexes_token f cs t r g.0 i g.2 in
    let b = step_back p f cs t h.0 g.1 (subst (λ (xs : List Placed). Goes p xs g.1) h.1 g.3) in
    let z = other_step p f c cs t s e in
    let one : Some b.0 ≡ Some z.0 = sym b.2 ∙ z.1 in
    (h.0, b.1, h.2, subst (λ (q : Place). Goes q h.0 b.1) (same_then one ∙ z.2) b.3)
  where
    same_then : {x y : Step} → Some x ≡ Some y → x.place ≡ y.place
    same_then e = cc

ahead : (p : Place) (f : Bool) (c cs : List ℕ) (t : Token) (r : List ℕ) (s : Step) → IsToken cs t r → step p f c t ≡ Some s → From s.place false r → From p f cs
ahead p f c cs t r s i e g =
    let z = other_step p f c cs t s e in
    lead p f cs t r z.0 i z.1 (subst (λ (q : Place). From q false r) (sym z.2) g)

alike_others : (front out others rest : List ℕ) → rest ≡ front ++ out → (front ≡ [] → (k : List ℕ) × (others ≡ 10 ∷ k)) → Alike rest (front ++ others)
alike_others [] out others rest e feeds = let h = feeds refl in subst (λ (xs : List ℕ). Alike rest xs) (sym h.1) (fed rest h.0)
alike_others (x ∷ fr) out others rest e feeds = subst (λ (xs : List ℕ). Alike xs (x ∷ (fr ++ others))) (sym e) (same x (fr ++ out) (fr ++ others))

alike_next : (front out rest us vs : List ℕ) (c : ℕ) → rest ≡ front ++ out → out ≡ c ∷ us → Alike rest (front ++ c ∷ vs)
alike_next [] out rest us vs c e o = subst (λ (xs : List ℕ). Alike xs (c ∷ vs)) (sym (e ∙ o)) (same c us vs)
alike_next (x ∷ fr) out rest us vs c e o = subst (λ (xs : List ℕ). Alike xs (x ∷ (fr ++ c ∷ vs))) (sym e) (same x (fr ++ out) (fr ++ c ∷ vs))

nothing_behind : (a b : List ℕ) → a ++ b ≡ [] → b ≡ []
nothing_behind [] b e = e
nothing_behind (x ∷ xs) b e = cc

-- over a token
pub front_on : (p : Place) (f : Bool) (cs : List ℕ) (t : Token) (rest : List ℕ) (s : Step) (out : List ℕ) → IsToken cs t rest → step p f cs t ≡ Some s
    → Torn (From s.place false) rest out → Torn (From p f) cs out
front_on p f cs t rest s out i e k =
    let kept = token_kept cs t rest i in
    record {
      front = kept.0 ++ k.front;
      split = kept.1 ∙ ap (λ (xs : List ℕ). kept.0 ++ xs) k.split ∙ sym (append_assoc kept.0 k.front out);
      others = k.others;
      goes_on = subst (λ (xs : List ℕ). From p f xs) (sym (append_assoc kept.0 k.front k.others))
          (ahead p f cs (kept.0 ++ (k.front ++ k.others)) t (k.front ++ k.others) s
          (kept.2 (k.front ++ k.others) (alike_others k.front out k.others rest k.split k.feeds)) e k.goes_on);
      feeds = λ n. k.feeds (nothing_behind kept.0 k.front n);
      longest = λ c us vs o g. k.longest c us vs o (behind p f cs (kept.0 ++ (k.front ++ c ∷ vs)) t (k.front ++ c ∷ vs) s
          (kept.2 (k.front ++ c ∷ vs) (alike_next k.front out rest us vs c k.split o)) e
          (subst (λ (xs : List ℕ). From p f xs) (append_assoc kept.0 k.front (c ∷ vs)) g));
    }

-- ---- separators

-- the same inside a comment
abbrev pub Fed : Place → Bool → Bool → List ℕ → Type 0
Fed p f true cs = (rest : List ℕ) × LineComment cs rest × From p f rest
Fed p f false cs = From p f cs

torn_next : (P Q : List ℕ → Type 0) (c : ℕ) (cs out : List ℕ) → ((us : List ℕ) → P us → Q (c ∷ us)) → ((us : List ℕ) → Q (c ∷ us) → P us)
    → Torn P cs out → Torn Q (c ∷ cs) out
torn_next P Q c cs out a b k = record {
  front = c ∷ k.front;
  split = ap (λ (xs : List ℕ). c ∷ xs) k.split;
  others = k.others;
  goes_on = a (k.front ++ k.others) k.goes_on;
  feeds = λ n. absurd (no_cons k.front n);
  longest = λ d us vs o g. k.longest d us vs o (b (k.front ++ d ∷ vs) g);
}
  where
    no_cons : (xs : List ℕ) → c ∷ xs ≡ [] → ⊥
    no_cons xs n = cc

feed_on : (p : Place) (f : Bool) (cs : List ℕ) → From p true cs → From p f (10 ∷ cs)
feed_on p true cs g = (g.0, g.1, tokens.blank true 10 cs g.0 refl g.2, g.3)
feed_on p false cs g = (g.0, g.1, tokens.blank false 10 cs g.0 refl g.2, g.3)

-- whether a feed came, after one more blank
fed_by : (f b d : Bool) → b ≡ d → (f || b) ≡ (f || d)
fed_by f b d e = ap (λ (x : Bool). f || x) e

or_false : (f : Bool) → (f || false) ≡ f
or_false true = refl
or_false false = refl

or_true : (f : Bool) → (f || true) ≡ true
or_true true = refl
or_true false = refl

blank_on : (p : Place) (f : Bool) (c : ℕ) (cs : List ℕ) → is_blank c ≡ true → From p (f || (c == 10)) cs → From p f (c ∷ cs)
blank_on p f c cs b g = (g.0, g.1, tokens.blank f c cs g.0 b g.2, g.3)

behind_blank : (p : Place) (f : Bool) (c : ℕ) (cs : List ℕ) (ts : List Placed) (es : List Event) → is_blank c ≡ true → Lexes f (c ∷ cs) ts → Goes p ts es
    → From p (f || (c == 10)) cs
behind_blank p f c cs ts es b (tokens.blank h d us vs e l) go = (vs, es, l, go)
behind_blank p f c cs ts es b (tokens.comment h us rest vs m l) go = absurd (both (is_blank 35) b refl)
behind_blank p f c cs ts es b (tokens.token h us t q vs i l) go = absurd (both (is_blank c) b (token_apart c cs t q i).0)

blank_back : (p : Place) (f : Bool) (c : ℕ) (cs : List ℕ) → is_blank c ≡ true → From p f (c ∷ cs) → From p (f || (c == 10)) cs
blank_back p f c cs b g = behind_blank p f c cs g.0 g.1 b g.2 g.3

comment_on : (p : Place) (f : Bool) (cs : List ℕ) → Fed p f true cs → From p f (35 ∷ cs)
comment_on p f cs g = (g.2.0, g.2.1, tokens.comment f cs g.0 g.2.0 g.1 g.2.2, g.2.3)

behind_sign : (p : Place) (f : Bool) (cs : List ℕ) (ts : List Placed) (es : List Event) → Lexes f (35 ∷ cs) ts → Goes p ts es → Fed p f true cs
behind_sign p f cs ts es (tokens.blank h d us vs e l) go = absurd (both (is_blank 35) e refl)
behind_sign p f cs ts es (tokens.comment h us rest vs m l) go = (rest, m, (vs, es, l, go))
behind_sign p f cs ts es (tokens.token h us t q vs i l) go = absurd (both (35 == 35) refl (token_apart 35 cs t q i).1)

comment_back : (p : Place) (f : Bool) (cs : List ℕ) → From p f (35 ∷ cs) → Fed p f true cs
comment_back p f cs g = behind_sign p f cs g.0 g.1 g.2 g.3

over_on : (p : Place) (f : Bool) (c : ℕ) (cs : List ℕ) → (c == 10) ≡ false → Fed p f true cs → Fed p f true (c ∷ cs)
over_on p f c cs e g = (g.0, over c cs g.0 e g.1, g.2)

behind_over : (p : Place) (f : Bool) (c : ℕ) (cs rest : List ℕ) → (c == 10) ≡ false → LineComment (c ∷ cs) rest → From p f rest → Fed p f true cs
behind_over p f c cs rest e (at_feed x) go = absurd (both (10 == 10) refl e)
behind_over p f c cs rest e (over d us x n l) go = (rest, l, go)

over_back : (p : Place) (f : Bool) (c : ℕ) (cs : List ℕ) → (c == 10) ≡ false → Fed p f true (c ∷ cs) → Fed p f true cs
over_back p f c cs e g = behind_over p f c cs g.0 e g.1 g.2

comment_feed : (cs rest : List ℕ) → LineComment (10 ∷ cs) rest → rest ≡ 10 ∷ cs
comment_feed cs rest (at_feed x) = refl
comment_feed cs rest (over d us x n l) = absurd (both (10 == 10) refl n)

equal_to : (c d : ℕ) → (c == d) ≡ true → c ≡ d
equal_to c d e = grind (arith, nat_tests)

feed_torn : (p : Place) (f w : Bool) (cs out : List ℕ) → Torn (From p true) cs out → Torn (Fed p f w) (10 ∷ cs) out
feed_torn p f true cs out k = torn_next (From p true) (Fed p f true) 10 cs out (λ us g. (10 ∷ us, at_feed us, feed_on p f us g))
    (λ us g. subst (λ (b : Bool). From p b us) (or_true f) (blank_back p f 10 us refl (subst (λ (xs : List ℕ). From p f xs) (comment_feed us g.0 g.1) g.2))) k
feed_torn p f false cs out k = torn_next (From p true) (From p f) 10 cs out (feed_on p f)
    (λ us g. subst (λ (b : Bool). From p b us) (or_true f) (blank_back p f 10 us refl g)) k

nothing_torn : (p : Place) (f : Bool) (out : List ℕ) → Torn (From p f) [] out → Torn (Fed p f true) [] out
nothing_torn p f out k = by k.front k.others k.split k.goes_on k.feeds k.longest
  where
    by : (front others : List ℕ) → [] ≡ front ++ out → From p f (front ++ others) → (front ≡ [] → (x : List ℕ) × (others ≡ 10 ∷ x))
        → ((c : ℕ) (us vs : List ℕ) → out ≡ c ∷ us → From p f (front ++ c ∷ vs) → ⊥) → Torn (Fed p f true) [] out
    by (x ∷ fr) others s g feeds longest = cc
    by [] others s g feeds longest =
        let h = feeds refl in
        record {
          front = [];
          split = s;
          others = others;
          goes_on = subst (λ (xs : List ℕ). Fed p f true xs) (sym h.1) (10 ∷ h.0, at_feed h.0, subst (λ (xs : List ℕ). From p f xs) h.1 g);
          feeds = feeds;
          longest = λ c us vs o q. no_cons c us (s ∙ o);
        }
      where
        no_cons : (c : ℕ) (us : List ℕ) → [] ≡ c ∷ us → ⊥
        no_cons c us e = cc

abbrev Ahead : Place → Bool × List ℕ → List ℕ → Type 0
Ahead p x out = Torn (From p x.0) x.1 out

-- one character of a comment
line_next : (p : Place) (f : Bool) (c : ℕ) (cs out : List ℕ) → (Ahead p (separated true false cs) out → Torn (Fed p true false) cs out)
    → (Ahead p (separated f true cs) out → Torn (Fed p f true) cs out) → (a : Bool) → (c == 10) ≡ a
    → Ahead p (cond a (separated true false cs) (separated f true cs)) out → Torn (Fed p f true) (c ∷ cs) out
line_next p f c cs out feeds within true e k = subst (λ (x : ℕ). Torn (Fed p f true) (x ∷ cs) out) (sym (equal_to c 10 e)) (feed_torn p f true cs out (feeds k))
line_next p f c cs out feeds within false e k = torn_next (Fed p f true) (Fed p f true) c cs out (λ us g. over_on p f c us e g) (λ us g. over_back p f c us e g) (within k)

blank_next : (p : Place) (f : Bool) (c : ℕ) (cs out : List ℕ) → (c == 10) ≡ false → is_blank c ≡ true → Torn (From p f) cs out → Torn (From p f) (c ∷ cs) out
blank_next p f c cs out e h k =
    let still : (f || (c == 10)) ≡ f = fed_by f (c == 10) false e ∙ or_false f in
    torn_next (From p f) (From p f) c cs out
    (λ us g. blank_on p f c us h (subst (λ (b : Bool). From p b us) (sym still) g))
    (λ us g. subst (λ (b : Bool). From p b us) still (blank_back p f c us h g)) k

gap_next : (p : Place) (f : Bool) (c : ℕ) (cs out : List ℕ) → (Ahead p (separated true false cs) out → Torn (Fed p true false) cs out)
    → (Ahead p (separated f false cs) out → Torn (Fed p f false) cs out) → (Ahead p (separated f true cs) out → Torn (Fed p f true) cs out)
    → (a b d : Bool) → (c == 10) ≡ a → is_blank c ≡ b → (c == 35) ≡ d
    → Ahead p (cond a (separated true false cs) (cond b (separated f false cs) (cond d (separated f true cs) (f, c ∷ cs)))) out → Torn (Fed p f false) (c ∷ cs) out
gap_next p f c cs out feeds apart within true b d e h i k = subst (λ (x : ℕ). Torn (From p f) (x ∷ cs) out) (sym (equal_to c 10 e)) (feed_torn p f false cs out (feeds k))
gap_next p f c cs out feeds apart within false true d e h i k = blank_next p f c cs out e h (apart k)
gap_next p f c cs out feeds apart within false false true e h i k = subst (λ (x : ℕ). Torn (From p f) (x ∷ cs) out) (sym (equal_to c 35 i))
    (torn_next (Fed p f true) (From p f) 35 cs out (λ us g. comment_on p f us g) (λ us g. comment_back p f us g) (within k))
gap_next p f c cs out feeds apart within false false false e h i k = k

-- over separators
pub torn_after : (p : Place) (f w : Bool) (cs out : List ℕ) → Ahead p (separated f w cs) out → Torn (Fed p f w) cs out
torn_after p f true [] out k = nothing_torn p f out k
torn_after p f false [] out k = k
torn_after p f true (c ∷ cs) out k =
    line_next p f c cs out (λ x. torn_after p true false cs out x) (λ x. torn_after p f true cs out x) (c == 10) refl k
torn_after p f false (c ∷ cs) out k =
    gap_next p f c cs out (λ x. torn_after p true false cs out x) (λ x. torn_after p f false cs out x) (λ x. torn_after p f true cs out x)
    (c == 10) (is_blank c) (c == 35) refl refl refl k

-- what comes after separators is none
abbrev pub IsApart : List ℕ → Type 0
IsApart [] = Unit {0}
IsApart (c ∷ cs) = (is_blank c ≡ false) × ((c == 35) ≡ false)

abbrev Apart : Bool × List ℕ → Type 0
Apart x = IsApart x.1

apart_line : (a : Bool) (x y : Bool × List ℕ) → Apart x → Apart y → Apart (cond a x y)
apart_line true x y m n = m
apart_line false x y m n = n

apart_gap : (f : Bool) (c : ℕ) (cs : List ℕ) (a b d : Bool) (x y z : Bool × List ℕ) → is_blank c ≡ b → (c == 35) ≡ d → Apart x → Apart y → Apart z
    → Apart (cond a x (cond b y (cond d z (f, c ∷ cs))))
apart_gap f c cs true b d x y z h i m n o = m
apart_gap f c cs false true d x y z h i m n o = n
apart_gap f c cs false false true x y z h i m n o = o
apart_gap f c cs false false false x y z h i m n o = (h, i)

pub apart_after : (f w : Bool) (cs : List ℕ) → IsApart (separated f w cs).1
apart_after f true [] = tt
apart_after f false [] = tt
apart_after f true (c ∷ cs) = apart_line (c == 10) (separated true false cs) (separated f true cs) (apart_after true false cs) (apart_after f true cs)
apart_after f false (c ∷ cs) = apart_gap f c cs (c == 10) (is_blank c) (c == 35) (separated true false cs) (separated f false cs) (separated f true cs) refl refl
    (apart_after true false cs) (apart_after f false cs) (apart_after f true cs)

-- ---- what is left is shorter

abbrev Shorter : List ℕ → Bool × List ℕ → Type 0
Shorter cs x = length x.1 ≤ length cs

shorter_next : (c : ℕ) (cs : List ℕ) (x : Bool × List ℕ) → Shorter cs x → Shorter (c ∷ cs) x
shorter_next c cs x e = omega arith

shorter_line : (cs : List ℕ) (a : Bool) (x y : Bool × List ℕ) → Shorter cs x → Shorter cs y → Shorter cs (cond a x y)
shorter_line cs true x y m n = m
shorter_line cs false x y m n = n

all_left : (cs : List ℕ) → length cs ≤ length cs
all_left cs = omega arith

separated_shorter : (f w : Bool) (cs : List ℕ) → Shorter cs (separated f w cs)
separated_shorter f true [] = all_left []
separated_shorter f false [] = all_left []
separated_shorter f true (c ∷ cs) = shorter_line (c ∷ cs) (c == 10) (separated true false cs) (separated f true cs)
    (shorter_next c cs (separated true false cs) (separated_shorter true false cs)) (shorter_next c cs (separated f true cs) (separated_shorter f true cs))
separated_shorter f false (c ∷ cs) = shorter_line (c ∷ cs) (c == 10) (separated true false cs) _
    (shorter_next c cs (separated true false cs) (separated_shorter true false cs))
    (shorter_line (c ∷ cs) (is_blank c) (separated f false cs) _ (shorter_next c cs (separated f false cs) (separated_shorter f false cs))
    (shorter_line (c ∷ cs) (c == 35) (separated f true cs) (f, c ∷ cs) (shorter_next c cs (separated f true cs) (separated_shorter f true cs)) (all_left (c ∷ cs))))

token_shorter : (cs : List ℕ) (t : Token) (rest : List ℕ) → IsToken cs t rest → length rest < length cs
token_shorter cs t rest i =
    let k = token_kept cs t rest i in
    by k.0 k.1 (k.2 (10 ∷ []) (fed rest []))
  where
    less : (a b : List ℕ) (n : ℕ) → n ≡ length a + length b → length b < suc n
    less a b n e = omega arith

    by : (front : List ℕ) → cs ≡ front ++ rest → IsToken (front ++ 10 ∷ []) t (10 ∷ []) → length rest < length cs
    by [] e j = absurd (both (is_blank 10) refl (token_apart 10 [] t (10 ∷ []) j).0)
    by (x ∷ fr) e j = subst (λ (xs : List ℕ). length rest < length xs) (sym e) (less fr rest (length (fr ++ rest)) (length-append fr rest))

pub left_shorter : (cs : List ℕ) (t : Token) (rest : List ℕ) (f w : Bool) → first_token cs ≡ Some (t, rest) → length (separated f w rest).1 < length cs
left_shorter cs t rest f w e = between (separated_shorter f w rest) (token_shorter cs t rest (token_stands cs t rest e))
  where
    between : {a b c : ℕ} → a ≤ b → b < c → a < c
    between m n = omega arith
