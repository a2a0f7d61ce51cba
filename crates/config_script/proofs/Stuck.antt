-- From each place there is an end, and where no token of the place stands the longest front ends as code finds it.
use Rattle.std.proofs.Common.{◌≡◌, ℕ, Bool, true, false, List, [], ◌∷◌, ◌++◌, refl, sym, ap, subst, ◌∙◌, Option, Some, None, codes, cond, arith}
use Rattle.std.specs.Prelude.{◌==◌}
use Rattle.std.proofs.lemmas.Bool.{true≢false}
use Rattle.std.proofs.lemmas.Bool.Decides.{nat_tests}
use Rattle.std.proofs.lemmas.Slice.Eq.{bytes_eq-Decides}
use Rattle.mof_values.specs.Fold.{SameName, same_name, fold_case}
use Rattle.mof_values.specs.Ident.{is_next}
use Rattle.mof_values.specs.declared.value.Scalar.{Scalar}
use Rattle.mof_syntax.specs.Characters.{digit_of, is_blank, stop}
use Rattle.mof_syntax.specs.Scanning.{after}
use Rattle.mof_syntax.specs.Tokens.{Identifier, identifier}
use Rattle.config_script.specs.declared.place.Place.{Place}
use Rattle.config_script.specs.declared.place.Place.TheVariants.{Start, AfterConfiguration, AfterTitle, InConfiguration, AfterNode, AfterNodeName, InBlock, AfterKind, AfterResourceName, InResource, AfterEmpty, AfterProperty, AfterEquals, AfterValue, AfterSemicolon, InArray, AfterComma, AfterElement, End}
use Rattle.config_script.specs.Fronts.{front_rest, keyword_front, scalar_front}
use Rattle.config_script.specs.Lexing.{taken}
use Rattle.config_script.specs.Places.{Event, Step, goes, keyword, named, valued, step, Goes}
use Rattle.config_script.specs.Places as places
use Rattle.config_script.specs.Scripts.{name_in, scalar_in}
use Rattle.config_script.specs.Tokens.{Magnitude, Token, Word, Text, LeftBrace, RightBrace, EqualsSign, Semicolon, Comma, ArrayBegin, ArrayEnd, IsToken, word, quoted, unsigned, left_brace_mark, right_brace_mark, equals_mark, semicolon_mark, comma_mark, array_begin_mark, array_end_mark, Placed, placed, Lexes}
use Rattle.config_script.specs.Tokens as tokens
use Rattle.config_script.proofs.Lexed.{runs}
use Rattle.config_script.proofs.Cuts.{Cut, Never, cut_on, cut_here, cut_end, Key, key_self, key_cut, key_word, word_key}
use Rattle.config_script.proofs.Scalars.{Name, One, name_cut, one_cut}
use Rattle.config_script.proofs.Fronts.{From, Torn, IsApart, lead}
use Rattle.config_script.proofs.Rules.{keyword_taken, at_equals, in_array}

both : (b : Bool) → b ≡ true → b ≡ false → ⊥
both b t f = true≢false (sym t ∙ f)

equal_to : (c d : ℕ) → (c == d) ≡ true → c ≡ d
equal_to c d e = grind (arith, nat_tests)

-- ---- ends

-- a token, and what goes on from the place after it
toward : (p q : Place) (f : Bool) (cs r : List ℕ) (t : Token) (e : Option Event) → IsToken cs t r → step p f cs t ≡ Some (record { place = q; event = e })
    → From q false r → From p f cs
toward p q f cs r t e i s g = lead p f cs t r (record { place = q; event = e }) i s g

an_empty : (r : List ℕ) → IsToken (34 ∷ 34 ∷ r) (Text []) r
an_empty r = quoted (34 ∷ r) [] r (stop (34 ∷ r))

-- a text that completes a script from the place on
abbrev ending : Place → List ℕ
ending Start = codes "configuration" ++ 10 ∷ 97 ∷ 123 ∷ 125 ∷ []
ending AfterConfiguration = 97 ∷ 123 ∷ 125 ∷ []
ending AfterTitle = 123 ∷ 125 ∷ []
ending InConfiguration = 125 ∷ []
ending AfterNode = 34 ∷ 34 ∷ 123 ∷ 125 ∷ 125 ∷ []
ending AfterNodeName = 123 ∷ 125 ∷ 125 ∷ []
ending InBlock = 125 ∷ 125 ∷ []
ending AfterKind = 34 ∷ 34 ∷ 123 ∷ 125 ∷ 125 ∷ 125 ∷ []
ending AfterResourceName = 123 ∷ 125 ∷ 125 ∷ 125 ∷ []
ending InResource = 125 ∷ 125 ∷ 125 ∷ []
ending AfterEmpty = 125 ∷ 125 ∷ 125 ∷ []
ending AfterProperty = 61 ∷ 34 ∷ 34 ∷ 125 ∷ 125 ∷ 125 ∷ []
ending AfterEquals = 34 ∷ 34 ∷ 125 ∷ 125 ∷ 125 ∷ []
ending AfterValue = 125 ∷ 125 ∷ 125 ∷ []
ending AfterSemicolon = 125 ∷ 125 ∷ 125 ∷ []
ending InArray = 41 ∷ 125 ∷ 125 ∷ 125 ∷ []
ending AfterComma = 34 ∷ 34 ∷ 41 ∷ 125 ∷ 125 ∷ 125 ∷ []
ending AfterElement = 41 ∷ 125 ∷ 125 ∷ 125 ∷ []
ending End = []

at_configuration_end : (f : Bool) → From InConfiguration f (125 ∷ [])
at_configuration_end f = toward InConfiguration End f _ [] RightBrace None (right_brace_mark []) refl ([], [], tokens.end false, places.end)

at_block_end : (f : Bool) → From InBlock f (125 ∷ 125 ∷ [])
at_block_end f = toward InBlock InConfiguration f _ _ RightBrace _ (right_brace_mark _) refl (at_configuration_end false)

at_title : (f : Bool) → From AfterTitle f (123 ∷ 125 ∷ [])
at_title f = toward AfterTitle InConfiguration f _ _ LeftBrace _ (left_brace_mark _) refl (at_configuration_end false)

at_configuration : (f : Bool) → From AfterConfiguration f (97 ∷ 123 ∷ 125 ∷ [])
at_configuration f = toward AfterConfiguration AfterTitle f _ (123 ∷ 125 ∷ []) (Word (97 ∷ [])) _
    (word _ (97 ∷ []) (123 ∷ 125 ∷ []) (identifier 97 (123 ∷ 125 ∷ []) [] (123 ∷ 125 ∷ []) refl (stop (123 ∷ 125 ∷ [])) refl)) refl (at_title false)

-- a token that leads to that place
abbrev Takes : Place → Bool → Place → List ℕ → List ℕ → Type 0
Takes p f q cs r = (t : Token) × (s : Step) × IsToken cs t r × (step p f cs t ≡ Some s) × (s.place ≡ q)

start_takes : (f : Bool) (us r : List ℕ) → Key (codes "configuration") us r → Takes Start f AfterConfiguration us r
start_takes f us r k =
    let w = key_word 99 (codes "onfiguration") us r refl k in
    (Word w.0, _, word us w.0 r w.1, keyword_taken w.0 (codes "configuration") AfterConfiguration w.2, refl)

at_start : (f : Bool) → From Start f (codes "configuration" ++ 10 ∷ 97 ∷ 123 ∷ 125 ∷ [])
at_start f =
    let cs = codes "configuration" ++ 10 ∷ 97 ∷ 123 ∷ 125 ∷ [] in
    let h = start_takes f cs (10 ∷ 97 ∷ 123 ∷ 125 ∷ []) (key_self (codes "configuration") (97 ∷ 123 ∷ 125 ∷ []) refl) in
    let g = at_configuration true in
    lead Start f cs h.0 (10 ∷ 97 ∷ 123 ∷ 125 ∷ []) h.1 h.2 h.3
    (subst (λ (q : Place). From q false (10 ∷ 97 ∷ 123 ∷ 125 ∷ [])) (sym h.4) (g.0, g.1, tokens.blank false 10 (97 ∷ 123 ∷ 125 ∷ []) g.0 refl g.2, g.3))

at_resource_end : (p : Place) (f : Bool) (e : Option Event) → step p f (125 ∷ 125 ∷ 125 ∷ []) RightBrace ≡ Some (record { place = InBlock; event = e }) → From p f (125 ∷ 125 ∷ 125 ∷ [])
at_resource_end p f e s = toward p InBlock f _ _ RightBrace e (right_brace_mark _) s (at_block_end false)

at_node_name : (f : Bool) → From AfterNodeName f (123 ∷ 125 ∷ 125 ∷ [])
at_node_name f = toward AfterNodeName InBlock f _ _ LeftBrace _ (left_brace_mark _) refl (at_block_end false)

at_resource_name : (f : Bool) → From AfterResourceName f (123 ∷ 125 ∷ 125 ∷ 125 ∷ [])
at_resource_name f = toward AfterResourceName InResource f _ _ LeftBrace _ (left_brace_mark _) refl (at_resource_end InResource false _ refl)

at_value : (f : Bool) → From AfterEquals f (34 ∷ 34 ∷ 125 ∷ 125 ∷ 125 ∷ [])
at_value f = toward AfterEquals AfterValue f _ (125 ∷ 125 ∷ 125 ∷ []) (Text []) _ (an_empty (125 ∷ 125 ∷ 125 ∷ [])) refl (at_resource_end AfterValue false _ refl)

at_element : (f : Bool) → From AfterElement f (41 ∷ 125 ∷ 125 ∷ 125 ∷ [])
at_element f = toward AfterElement AfterValue f _ _ ArrayEnd _ (array_end_mark _) refl (at_resource_end AfterValue false _ refl)

ends : (p : Place) (f : Bool) → From p f (ending p)
ends Start f = at_start f
ends AfterConfiguration f = at_configuration f
ends AfterTitle f = at_title f
ends InConfiguration f = at_configuration_end f
ends AfterNode f = toward AfterNode AfterNodeName f _ (123 ∷ 125 ∷ 125 ∷ []) (Text []) _ (an_empty (123 ∷ 125 ∷ 125 ∷ [])) refl (at_node_name false)
ends AfterNodeName f = at_node_name f
ends InBlock f = at_block_end f
ends AfterKind f = toward AfterKind AfterResourceName f _ (123 ∷ 125 ∷ 125 ∷ 125 ∷ []) (Text []) _ (an_empty (123 ∷ 125 ∷ 125 ∷ 125 ∷ [])) refl (at_resource_name false)
ends AfterResourceName f = at_resource_name f
ends InResource f = at_resource_end InResource f _ refl
ends AfterEmpty f = at_resource_end AfterEmpty f _ refl
ends AfterProperty f = toward AfterProperty AfterEquals f _ _ EqualsSign _ (equals_mark _) refl (at_value false)
ends AfterEquals f = at_value f
ends AfterValue f = at_resource_end AfterValue f _ refl
ends AfterSemicolon f = at_resource_end AfterSemicolon f _ refl
ends InArray f = toward InArray AfterValue f _ _ ArrayEnd _ (array_end_mark _) refl (at_resource_end AfterValue false _ refl)
ends AfterComma f = toward AfterComma AfterElement f _ (41 ∷ 125 ∷ 125 ∷ 125 ∷ []) (Text []) _ (an_empty (41 ∷ 125 ∷ 125 ∷ 125 ∷ [])) refl (at_element false)
ends AfterElement f = at_element f
ends End f = ([], [], tokens.end f, places.end)

-- after a line feed
fed_ends : (p : Place) (f : Bool) → From p f (10 ∷ ending p)
fed_ends p true = let g = ends p true in (g.0, g.1, tokens.blank true 10 (ending p) g.0 refl g.2, g.3)
fed_ends p false = let g = ends p true in (g.0, g.1, tokens.blank false 10 (ending p) g.0 refl g.2, g.3)

-- the whole text is a front
pub all_front : (p : Place) (f : Bool) → Torn (From p f) [] []
all_front p f = record {
  front = [];
  split = refl;
  others = 10 ∷ ending p;
  goes_on = fed_ends p f;
  feeds = λ _. (ending p, refl);
  longest = λ c us vs o g. no_cons c us o;
}
  where
    no_cons : (c : ℕ) (us : List ℕ) → [] ≡ c ∷ us → ⊥
    no_cons c us e = cc

-- ---- torn tokens

-- no token of the place stands
abbrev pub Stuck : Place → Bool → List ℕ → Type 0
Stuck p f cs = (t : Token) (s : Step) (r : List ℕ) → IsToken cs t r → step p f cs t ≡ Some s → ⊥

-- a token that stands there and is taken
abbrev There : Place → Bool → List ℕ → Type 0
There p f cs = (t : Token) × (s : Step) × (r : List ℕ) × IsToken cs t r × (step p f cs t ≡ Some s)

there_first : (p : Place) (f : Bool) (cs : List ℕ) (t : Token) (q : List ℕ) (us : List Placed) (es : List Event) → IsToken cs t q → Goes p (placed f cs t ∷ us) es
    → There p f cs
there_first p f cs t q us es i (places.on a g d u z vs fs e go) = (t, z, q, i, e)

there : (p : Place) (f : Bool) (c : ℕ) (cs : List ℕ) (ts : List Placed) (es : List Event) → IsApart (c ∷ cs) → Lexes f (c ∷ cs) ts → Goes p ts es → There p f (c ∷ cs)
there p f c cs ts es apart (tokens.blank h d us vs e l) go = absurd (both (is_blank c) e apart.0)
there p f c cs ts es apart (tokens.comment h us rest vs m l) go = absurd (both (35 == 35) refl apart.1)
there p f c cs ts es apart (tokens.token h us t q vs i l) go = there_first p f (c ∷ cs) t q vs es i go

token_there : (p : Place) (f : Bool) (c : ℕ) (cs : List ℕ) → IsApart (c ∷ cs) → From p f (c ∷ cs) → There p f (c ∷ cs)
token_there p f c cs apart g = there p f c cs g.0 g.1 apart g.2 g.3

-- the first character of a front and of what goes on from it
begins : (c : ℕ) (cs front out : List ℕ) (d : ℕ) (us vs : List ℕ) → c ∷ cs ≡ front ++ out → out ≡ d ∷ us → (zs : List ℕ) × (front ++ d ∷ vs ≡ c ∷ zs)
begins c cs [] out d us vs s o = (vs, sym (head_same (s ∙ o)))
  where
    head_same : c ∷ cs ≡ d ∷ us → c ∷ vs ≡ d ∷ vs
    head_same e = cc
begins c cs (x ∷ fr) out d us vs s o = (fr ++ d ∷ vs, sym (head_same s))
  where
    head_same : c ∷ cs ≡ x ∷ (fr ++ out) → c ∷ (fr ++ d ∷ vs) ≡ x ∷ (fr ++ d ∷ vs)
    head_same e = cc

torn_by : (p : Place) (f : Bool) (q : Place) (L : List ℕ → List ℕ → Type 0) (c : ℕ) (cs out : List ℕ) → IsApart (c ∷ cs)
    → ((us r : List ℕ) → L us r → Takes p f q us r)
    → ((us r : List ℕ) (t : Token) (s : Step) → IsToken (c ∷ us) t r → step p f (c ∷ us) t ≡ Some s → L (c ∷ us) r)
    → Cut L (c ∷ cs) out → Torn (From p f) (c ∷ cs) out
torn_by p f q L c cs out apart into back k = pick k.front k.split (k.whole (ending q)) k.stops
  where
    goes_no_longer : (front : List ℕ) → c ∷ cs ≡ front ++ out → ((d : ℕ) (us vs r : List ℕ) → out ≡ d ∷ us → L (front ++ d ∷ vs) r → ⊥)
        → (d : ℕ) (us vs : List ℕ) → out ≡ d ∷ us → From p f (front ++ d ∷ vs) → ⊥
    goes_no_longer front split stops d us vs o g =
        let b = begins c cs front out d us vs split o in
        let h = token_there p f c b.0 apart (subst (λ (xs : List ℕ). From p f xs) b.1 g) in
        stops d us vs h.2 o (subst (λ (xs : List ℕ). L xs h.2) (sym b.1) (back b.0 h.2 h.0 h.1 h.3 h.4))

    pick : (front : List ℕ) → c ∷ cs ≡ front ++ out → L (front ++ (k.others ++ 10 ∷ ending q)) (10 ∷ ending q)
        → ((d : ℕ) (us vs r : List ℕ) → out ≡ d ∷ us → L (front ++ d ∷ vs) r → ⊥) → Torn (From p f) (c ∷ cs) out
    pick [] split whole stops = record {
      front = [];
      split = split;
      others = 10 ∷ ending p;
      goes_on = fed_ends p f;
      feeds = λ _. (ending p, refl);
      longest = goes_no_longer [] split stops;
    }
    pick (x ∷ fr) split whole stops =
        let h = into ((x ∷ fr) ++ (k.others ++ 10 ∷ ending q)) (10 ∷ ending q) whole in
        record {
          front = x ∷ fr;
          split = split;
          others = k.others ++ 10 ∷ ending q;
          goes_on = lead p f ((x ∷ fr) ++ (k.others ++ 10 ∷ ending q)) h.0 (10 ∷ ending q) h.1 h.2 h.3
              (subst (λ (z : Place). From z false (10 ∷ ending q)) (sym h.4) (fed_ends q false));
          feeds = λ n. absurd (no_cons n);
          longest = goes_no_longer (x ∷ fr) split stops;
        }
      where
        no_cons : x ∷ fr ≡ [] → ⊥
        no_cons n = cc

-- ---- places whose tokens are told by their first character

abbrev Again : Token → List ℕ → Type 0
Again (Word w) cs = (name : List ℕ) × (r : List ℕ) × IsToken cs (Word name) r
Again LeftBrace cs = (r : List ℕ) × IsToken cs LeftBrace r
Again RightBrace cs = (r : List ℕ) × IsToken cs RightBrace r
Again EqualsSign cs = (r : List ℕ) × IsToken cs EqualsSign r
Again Semicolon cs = (r : List ℕ) × IsToken cs Semicolon r
Again Comma cs = (r : List ℕ) × IsToken cs Comma r
Again ArrayEnd cs = (r : List ℕ) × IsToken cs ArrayEnd r
Again _ cs = Unit {0}

again_word : (c : ℕ) (us name r cs : List ℕ) → Identifier (c ∷ us) name r → Again (Word name) (c ∷ cs)
again_word c us name r cs (identifier d xs tail q e run s) = (
  c ∷ taken is_next cs,
  after is_next cs,
  word (c ∷ cs) (c ∷ taken is_next cs) (after is_next cs) (identifier c cs (taken is_next cs) (after is_next cs) e (runs is_next cs).0 (runs is_next cs).1),
)

again : (c : ℕ) (us : List ℕ) (t : Token) (r cs : List ℕ) → IsToken (c ∷ us) t r → Again t (c ∷ cs)
again c us t r cs (word xs n q i) = again_word c us n q cs i
again c us t r cs (left_brace_mark q) = (cs, left_brace_mark cs)
again c us t r cs (right_brace_mark q) = (cs, right_brace_mark cs)
again c us t r cs (equals_mark q) = (cs, equals_mark cs)
again c us t r cs (semicolon_mark q) = (cs, semicolon_mark cs)
again c us t r cs (comma_mark q) = (cs, comma_mark cs)
again c us t r cs (array_end_mark q) = (cs, array_end_mark cs)
again c us t r cs i = tt

-- the places with other tokens
abbrev IsSimple : Place → Type 0
IsSimple Start = ⊥
IsSimple InConfiguration = ⊥
IsSimple AfterNode = ⊥
IsSimple AfterKind = ⊥
IsSimple AfterEquals = ⊥
IsSimple InArray = ⊥
IsSimple AfterComma = ⊥
IsSimple _ = Unit {0}

stuck_again : (p : Place) (f : Bool) (us cs : List ℕ) (t : Token) (s : Step) → IsSimple p → step p f us t ≡ Some s → Again t cs → Stuck p f cs → ⊥
stuck_again AfterConfiguration f us cs (Word w) s simple e a stuck = stuck (Word a.0) _ a.1 a.2 refl
stuck_again AfterTitle f us cs LeftBrace s simple e a stuck = stuck LeftBrace _ a.0 a.1 refl
stuck_again AfterNodeName f us cs Comma s simple e a stuck = stuck Comma _ a.0 a.1 refl
stuck_again AfterNodeName f us cs LeftBrace s simple e a stuck = stuck LeftBrace _ a.0 a.1 refl
stuck_again InBlock f us cs (Word w) s simple e a stuck = stuck (Word a.0) _ a.1 a.2 refl
stuck_again InBlock f us cs RightBrace s simple e a stuck = stuck RightBrace _ a.0 a.1 refl
stuck_again AfterResourceName f us cs LeftBrace s simple e a stuck = stuck LeftBrace _ a.0 a.1 refl
stuck_again InResource f us cs (Word w) s simple e a stuck = stuck (Word a.0) _ a.1 a.2 refl
stuck_again InResource f us cs Semicolon s simple e a stuck = stuck Semicolon _ a.0 a.1 refl
stuck_again InResource f us cs RightBrace s simple e a stuck = stuck RightBrace _ a.0 a.1 refl
stuck_again AfterEmpty f us cs Semicolon s simple e a stuck = stuck Semicolon _ a.0 a.1 refl
stuck_again AfterEmpty f us cs RightBrace s simple e a stuck = stuck RightBrace _ a.0 a.1 refl
stuck_again AfterProperty f us cs EqualsSign s simple e a stuck = stuck EqualsSign _ a.0 a.1 refl
stuck_again AfterValue true us cs (Word w) s simple e a stuck = stuck (Word a.0) _ a.1 a.2 refl
stuck_again AfterValue f us cs Semicolon s simple e a stuck = stuck Semicolon _ a.0 a.1 refl
stuck_again AfterValue f us cs RightBrace s simple e a stuck = stuck RightBrace _ a.0 a.1 refl
stuck_again AfterSemicolon f us cs (Word w) s simple e a stuck = stuck (Word a.0) _ a.1 a.2 refl
stuck_again AfterSemicolon f us cs Semicolon s simple e a stuck = stuck Semicolon _ a.0 a.1 refl
stuck_again AfterSemicolon f us cs RightBrace s simple e a stuck = stuck RightBrace _ a.0 a.1 refl
stuck_again AfterElement f us cs Comma s simple e a stuck = stuck Comma _ a.0 a.1 refl
stuck_again AfterElement f us cs ArrayEnd s simple e a stuck = stuck ArrayEnd _ a.0 a.1 refl
stuck_again Start f us cs t s simple e a stuck = simple
stuck_again InConfiguration f us cs t s simple e a stuck = simple
stuck_again AfterNode f us cs t s simple e a stuck = simple
stuck_again AfterKind f us cs t s simple e a stuck = simple
stuck_again AfterEquals f us cs t s simple e a stuck = simple
stuck_again InArray f us cs t s simple e a stuck = simple
stuck_again AfterComma f us cs t s simple e a stuck = simple
stuck_again p f us cs t s simple e a stuck = cc

torn_here : (p : Place) (f : Bool) (c : ℕ) (cs : List ℕ) → IsSimple p → IsApart (c ∷ cs) → Stuck p f (c ∷ cs) → Torn (From p f) (c ∷ cs) (c ∷ cs)
torn_here p f c cs simple apart stuck = record {
  front = [];
  split = refl;
  others = 10 ∷ ending p;
  goes_on = fed_ends p f;
  feeds = λ _. (ending p, refl);
  longest = λ d us vs o g.
      let h = token_there p f c vs apart (subst (λ (x : ℕ). From p f (x ∷ vs)) (sym (head_same d us o)) g) in
      stuck_again p f (c ∷ vs) (c ∷ cs) h.0 h.1 simple h.4 (again c vs h.0 h.2 cs h.3) stuck;
}
  where
    head_same : (d : ℕ) (us : List ℕ) → c ∷ cs ≡ d ∷ us → c ≡ d
    head_same d us e = cc

-- ---- keywords

keyword_same : (w k : List ℕ) (q : Place) (s : Step) → keyword w k q ≡ Some s → SameName w k
keyword_same w k q s e = by (same_name w k) refl e
  where
    by : (b : Bool) → same_name w k ≡ b → cond b (goes q) None ≡ Some s → SameName w k
    by true h e = (bytes_eq-Decides (fold_case w) (fold_case k)).0 h
    by false h e = cc

start_back : (f : Bool) (us r : List ℕ) (t : Token) (s : Step) → IsToken us t r → step Start f us t ≡ Some s → Key (codes "configuration") us r
start_back f us r t s (word xs n q i) e = word_key us n q (codes "configuration") i (keyword_same n (codes "configuration") AfterConfiguration s e)
start_back f us r t s i e = cc

node_takes : (f : Bool) (us r : List ℕ) → Key (codes "node") us r → Takes InConfiguration f AfterNode us r
node_takes f us r k =
    let w = key_word 110 (codes "ode") us r refl k in
    (Word w.0, _, word us w.0 r w.1, keyword_taken w.0 (codes "node") AfterNode w.2, refl)

-- where no right brace comes first
node_back : (f : Bool) (us r : List ℕ) (t : Token) (s : Step) → IsToken us t r → step InConfiguration f us t ≡ Some s
    → ((q : List ℕ) → us ≡ 125 ∷ q → ⊥) → Key (codes "node") us r
node_back f us r t s (word xs n q i) e lacks = word_key us n q (codes "node") i (keyword_same n (codes "node") AfterNode s e)
node_back f us r t s (right_brace_mark q) e lacks = absurd (lacks q refl)
node_back f us r t s i e lacks = cc

head_is : (c d : ℕ) (us vs : List ℕ) → c ∷ us ≡ d ∷ vs → c ≡ d
head_is c d us vs e = cc

-- ---- names

name_at : (event : List ℕ → Event) (q : Place) (o : Option (List ℕ)) (s : Step) → named event q o ≡ Some s → (name : List ℕ) × (o ≡ Some name)
name_at event q None s e = cc
name_at event q (Some name) s e = (name, refl)

value_at : (event : Scalar → Event) (q : Place) (o : Option Scalar) (s : Step) → valued event q o ≡ Some s → (x : Scalar) × (o ≡ Some x)
value_at event q None s e = cc
value_at event q (Some x) s e = (x, refl)

-- ---- values

equals_scalar : (f : Bool) (cs : List ℕ) (t : Token) (s : Step) → step AfterEquals f cs t ≡ Some s → (t ≡ ArrayBegin → ⊥) → (x : Scalar) × (scalar_in t ≡ Some x)
equals_scalar f cs ArrayBegin s e lacks = absurd (lacks refl)
equals_scalar f cs t s e lacks = value_at places.One AfterValue (scalar_in t) s e

array_scalar : (f : Bool) (cs : List ℕ) (t : Token) (s : Step) → step InArray f cs t ≡ Some s → (t ≡ ArrayEnd → ⊥) → (x : Scalar) × (scalar_in t ≡ Some x)
array_scalar f cs ArrayEnd s e lacks = absurd (lacks refl)
array_scalar f cs t s e lacks = value_at places.Element AfterElement (scalar_in t) s e

begin_first : (c : ℕ) (us r : List ℕ) → IsToken (c ∷ us) ArrayBegin r → c ≡ 64
begin_first c us r (array_begin_mark q) = refl

end_first : (c : ℕ) (us r : List ℕ) → IsToken (c ∷ us) ArrayEnd r → c ≡ 41
end_first c us r (array_end_mark q) = refl

abbrev Opening : List ℕ → List ℕ → Type 0
Opening cs r = cs ≡ 40 ∷ r

abbrev Array : List ℕ → List ℕ → Type 0
Array cs r = cs ≡ 64 ∷ 40 ∷ r

opening_cut : (cs : List ℕ) → Never Opening cs → Cut Opening cs cs
opening_cut [] lacks = cut_end Opening (40 ∷ []) (λ r. refl)
opening_cut (d ∷ cs) lacks = cut_here Opening d cs (40 ∷ []) (λ r. refl) (λ vs r e. lacks cs (ap (λ (x : ℕ). x ∷ cs) (head_is d 40 vs r e)))

array_cut : (cs : List ℕ) → Never Array (64 ∷ cs) → Cut Array (64 ∷ cs) cs
array_cut cs lacks = cut_on Opening Array 64 cs cs (λ us r e. ap (λ (xs : List ℕ). 64 ∷ xs) e) (λ us r e. tail_same us r e)
    (opening_cut cs (λ r e. lacks r (ap (λ (xs : List ℕ). 64 ∷ xs) e)))
  where
    tail_same : (us r : List ℕ) → 64 ∷ us ≡ 64 ∷ 40 ∷ r → us ≡ 40 ∷ r
    tail_same us r e = cc

array_takes : (f : Bool) (us r : List ℕ) → Array us r → Takes AfterEquals f InArray us r
array_takes f us r e = subst (λ (xs : List ℕ). Takes AfterEquals f InArray xs r) (sym e) (ArrayBegin, _, array_begin_mark r, refl, refl)

digit_is : (c : ℕ) (cs : List ℕ) (n : ℕ) (r : List ℕ) → Magnitude (c ∷ cs) n r → digit_of 10 c ≡ true
digit_is c cs n r (tokens.nought x) = refl
digit_is c cs n r (tokens.digits d us ds x nz e run) = e

array_back : (f : Bool) (us r : List ℕ) (t : Token) (s : Step) → IsToken (64 ∷ us) t r → step AfterEquals f (64 ∷ us) t ≡ Some s → Array (64 ∷ us) r
array_back f us r t s (word xs n q i) e = cc
array_back f us r t s (unsigned xs n q m x) e = absurd (both (digit_of 10 64) (digit_is 64 us n q m) refl)
array_back f us r t s (array_begin_mark q) e = refl

equals_takes : (f : Bool) (us r : List ℕ) → One us r → Takes AfterEquals f AfterValue us r
equals_takes f us r o = (o.0, _, o.2, at_equals f us o.0 o.1 o.3, refl)

array_takes_one : (f : Bool) (us r : List ℕ) → One us r → Takes InArray f AfterElement us r
array_takes_one f us r o = (o.0, _, o.2, in_array f us o.0 o.1 o.3, refl)

comma_takes : (f : Bool) (us r : List ℕ) → One us r → Takes AfterComma f AfterElement us r
comma_takes f us r o = (o.0, _, o.2, ap (valued places.Further AfterElement) o.3, refl)

node_name_takes : (f : Bool) (us r : List ℕ) → Name us r → Takes AfterNode f AfterNodeName us r
node_name_takes f us r n = (n.0, _, n.2, ap (named places.Node AfterNodeName) n.3, refl)

resource_name_takes : (f : Bool) (us r : List ℕ) → Name us r → Takes AfterKind f AfterResourceName us r
resource_name_takes f us r n = (n.0, _, n.2, ap (named places.ResourceName AfterResourceName) n.3, refl)

-- nothing stands where nothing is taken
never : (p q : Place) (f : Bool) (L : List ℕ → List ℕ → Type 0) (cs : List ℕ) → ((us r : List ℕ) → L us r → Takes p f q us r) → Stuck p f cs → Never L cs
never p q f L cs into stuck r l = let h = into cs r l in stuck h.0 h.1 r h.2 h.3

torn_value : (f : Bool) (c : ℕ) (cs : List ℕ) → IsApart (c ∷ cs) → Stuck AfterEquals f (c ∷ cs) → Torn (From AfterEquals f) (c ∷ cs) (front_rest AfterEquals (c ∷ cs))
torn_value f c cs apart stuck = by (c == 64) refl
  where
    by : (a : Bool) → (c == 64) ≡ a → Torn (From AfterEquals f) (c ∷ cs) (cond a cs (scalar_front (c ∷ cs)))
    by true e =
        let same = equal_to c 64 e in
        subst (λ (x : ℕ). Torn (From AfterEquals f) (x ∷ cs) cs) (sym same)
        (torn_by AfterEquals f InArray Array 64 cs cs (subst (λ (x : ℕ). IsApart (x ∷ cs)) same apart) (array_takes f) (array_back f)
        (array_cut cs (never AfterEquals InArray f Array (64 ∷ cs) (array_takes f) (subst (λ (x : ℕ). Stuck AfterEquals f (x ∷ cs)) same stuck))))
    by false e = torn_by AfterEquals f AfterValue One c cs (scalar_front (c ∷ cs)) apart (equals_takes f)
        (λ us r t s i st.
        let lacks : t ≡ ArrayBegin → ⊥ = λ is. both (c == 64) (first_test us r t i is) e in
        let x = equals_scalar f (c ∷ us) t s st lacks in
        (t, x.0, i, x.1))
        (one_cut c cs (never AfterEquals AfterValue f One (c ∷ cs) (equals_takes f) stuck))
      where
        first_test : (us r : List ℕ) (t : Token) → IsToken (c ∷ us) t r → t ≡ ArrayBegin → (c == 64) ≡ true
        first_test us r t i is = ap (λ (x : ℕ). x == 64) (begin_first c us r (subst (λ (u : Token). IsToken (c ∷ us) u r) is i))

torn_element : (f : Bool) (c : ℕ) (cs : List ℕ) → IsApart (c ∷ cs) → Stuck InArray f (c ∷ cs) → Torn (From InArray f) (c ∷ cs) (scalar_front (c ∷ cs))
torn_element f c cs apart stuck = torn_by InArray f AfterElement One c cs (scalar_front (c ∷ cs)) apart (array_takes_one f)
    (λ us r t s i st.
    let x = array_scalar f (c ∷ us) t s st (λ is. lacks us r t i is) in
    (t, x.0, i, x.1))
    (one_cut c cs (never InArray AfterElement f One (c ∷ cs) (array_takes_one f) stuck))
  where
    lacks : (us r : List ℕ) (t : Token) → IsToken (c ∷ us) t r → t ≡ ArrayEnd → ⊥
    lacks us r t i is =
        let same = end_first c us r (subst (λ (u : Token). IsToken (c ∷ us) u r) is i) in
        stuck ArrayEnd _ cs (subst (λ (x : ℕ). IsToken (x ∷ cs) ArrayEnd cs) (sym same) (array_end_mark cs)) refl

torn_node : (f : Bool) (c : ℕ) (cs : List ℕ) → IsApart (c ∷ cs) → Stuck InConfiguration f (c ∷ cs)
    → Torn (From InConfiguration f) (c ∷ cs) (keyword_front (codes "node") (c ∷ cs))
torn_node f c cs apart stuck = torn_by InConfiguration f AfterNode (Key (codes "node")) c cs (keyword_front (codes "node") (c ∷ cs)) apart (node_takes f)
    (λ us r t s i st. node_back f (c ∷ us) r t s i st (λ q e. lacks us q e))
    (key_cut (codes "node") (c ∷ cs) refl (never InConfiguration AfterNode f (Key (codes "node")) (c ∷ cs) (node_takes f) stuck))
  where
    lacks : (us q : List ℕ) → c ∷ us ≡ 125 ∷ q → ⊥
    lacks us q e = stuck RightBrace _ cs (subst (λ (x : ℕ). IsToken (x ∷ cs) RightBrace cs) (sym (head_is c 125 us q e)) (right_brace_mark cs)) refl

torn_start : (f : Bool) (c : ℕ) (cs : List ℕ) → IsApart (c ∷ cs) → Stuck Start f (c ∷ cs) → Torn (From Start f) (c ∷ cs) (keyword_front (codes "configuration") (c ∷ cs))
torn_start f c cs apart stuck = torn_by Start f AfterConfiguration (Key (codes "configuration")) c cs (keyword_front (codes "configuration") (c ∷ cs)) apart (start_takes f)
    (λ us r t s i st. start_back f (c ∷ us) r t s i st)
    (key_cut (codes "configuration") (c ∷ cs) refl (never Start AfterConfiguration f (Key (codes "configuration")) (c ∷ cs) (start_takes f) stuck))

pub torn_stuck : (p : Place) (f : Bool) (c : ℕ) (cs : List ℕ) → IsApart (c ∷ cs) → Stuck p f (c ∷ cs) → Torn (From p f) (c ∷ cs) (front_rest p (c ∷ cs))
torn_stuck Start f c cs apart stuck = torn_start f c cs apart stuck
torn_stuck InConfiguration f c cs apart stuck = torn_node f c cs apart stuck
torn_stuck AfterNode f c cs apart stuck = torn_by AfterNode f AfterNodeName Name c cs _ apart (node_name_takes f)
    (λ us r t s i st. let n = name_at places.Node AfterNodeName (name_in t) s st in (t, n.0, i, n.1))
    (name_cut c cs (never AfterNode AfterNodeName f Name (c ∷ cs) (node_name_takes f) stuck))
torn_stuck AfterKind f c cs apart stuck = torn_by AfterKind f AfterResourceName Name c cs _ apart (resource_name_takes f)
    (λ us r t s i st. let n = name_at places.ResourceName AfterResourceName (name_in t) s st in (t, n.0, i, n.1))
    (name_cut c cs (never AfterKind AfterResourceName f Name (c ∷ cs) (resource_name_takes f) stuck))
torn_stuck AfterEquals f c cs apart stuck = torn_value f c cs apart stuck
torn_stuck InArray f c cs apart stuck = torn_element f c cs apart stuck
torn_stuck AfterComma f c cs apart stuck = torn_by AfterComma f AfterElement One c cs _ apart (comma_takes f)
    (λ us r t s i st. let x = value_at places.Further AfterElement (scalar_in t) s st in (t, x.0, i, x.1))
    (one_cut c cs (never AfterComma AfterElement f One (c ∷ cs) (comma_takes f) stuck))
torn_stuck p f c cs apart stuck = torn_here p f c cs tt apart stuck
