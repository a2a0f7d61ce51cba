-- Every state can be finished, and so the machine stops exactly where the text leaves the grammar.
use Rattle.std.proofs.Common.{◌≡◌, ℕ, zero, suc, ◌+◌, ◌<◌, true, List, [], ◌∷◌, ◌++◌, Option, Some, None, length, drop, take, refl, sym, subst, arith, append_assoc, append-nil, take-append-drop}
use Rattle.std.specs.Prelude.{nat_le, ◌&&◌, slice_index}
use Rattle.std.proofs.lemmas.Bool.Decides.{nat_tests}
use Rattle.std.specs.Char.{to_ascii_lowercase}
use Rattle.mof_values.specs.declared.instance.Instance.{Instance}
use Rattle.mof_syntax.specs.Tokens.{Lexeme}
use Rattle.mof_syntax.specs.Grammar.{WideSpells, Wide}
use Rattle.mof_syntax.specs.Fronts.{IsFront, IsSyntaxFault}
use Rattle.mof_codec.specs.declared.machine.state.Keyword.{Keyword}
use Rattle.mof_codec.specs.declared.machine.state.Place.{Place}
use Rattle.mof_codec.specs.declared.machine.state.Place.TheVariants.{Start, AfterInstance, AfterOf, AfterClass, AfterAs, AfterAlias, Body, AfterBody, AfterName, AfterEquals, AfterStrings, AfterValue, InArray, AfterComma, AfterElementStrings, AfterElement}
use Rattle.mof_codec.specs.declared.machine.state.Numeral.TheVariants as numerals
use Rattle.mof_codec.specs.declared.machine.state.Half.{Half}
use Rattle.mof_codec.specs.declared.machine.state.Half.TheVariants as halves
use Rattle.mof_codec.specs.declared.machine.state.State.{State}
use Rattle.mof_codec.specs.declared.machine.state.Event.{Event}
use Rattle.mof_codec.specs.declared.machine.state.Event.TheVariants as events
use Rattle.std.proofs.lemmas.List.{take_more, take_all}
use Rattle.mof_syntax.proofs.Bodies.{and_left, and_right}
use Rattle.mof_syntax.proofs.FrontLaws.{IsSyntaxFault-from_next}
use Rattle.mof_codec.specs.Machine.{letters, begin, step}
use Rattle.mof_codec.specs.Walked.{tally, AfterWalk, walked}
use Rattle.mof_codec.specs.Events.{events_of}
use Rattle.mof_codec.proofs.Goes.{goes_left}
use Rattle.mof_codec.proofs.Walks.{declarations_on}
use Rattle.mof_codec.proofs.Runs.{Next, Whole, Ends, Runs, After, Any}
use Rattle.mof_codec.proofs.Forward.{runs_from, key_step, drop_one}
use Rattle.mof_codec.proofs.Left.{Common, Admits, Along}
use Rattle.mof_codec.proofs.StepsBack.{left_runs, small, small_letters, small_dropped}
use Rattle.mof_codec.proofs.Walking.{goes_on, only_so}

-- the grammar's texts are those that the machine takes
pub wide_runs : (cs : List ℕ) → Wide cs → Runs Any cs halves.Gap Start []
wide_runs cs w = runs_from Any cs w.1.0 w.1.1 Start [] (declarations_on Any [] w.1.0 w.0 w.1.2 tt)

abbrev pub Is : List Event → List Event → Type 0
Is total acc = acc ≡ total

pub spells_runs : (cs : List ℕ) (is : List Instance) → WideSpells cs is → Runs (Is (events_of is [])) cs halves.Gap Start []
spells_runs cs is w = runs_from (Is (events_of is [])) cs w.0 w.1 Start [] (declarations_on (Is (events_of is [])) [] w.0 is w.2 refl)

abbrev AnyToken : Lexeme → Type 0
AnyToken t = Unit {0}

any_common : Common AnyToken
any_common = record { left_brace = tt; right_brace = tt; equals_sign = tt; semicolon = tt; comma = tt; literal = λ t. tt; keyword = λ k w e. tt }

any_admits : (h : Half) (p : Place) (cs : List ℕ) → Admits AnyToken h p cs
any_admits halves.Gap p cs = (λ s z r i e. tt, λ n w r i. tt)
any_admits halves.Name p cs = λ s z r i e. tt
any_admits (halves.Key k n) p cs = λ s z r i e. tt
any_admits (halves.Integer f) p cs = λ s z r i e. tt
any_admits halves.Alias p cs = λ w r i. tt
any_admits h p cs = tt

next_along : (E : List Event → Type 0) (s : Option State) (cs : List ℕ) (acc : List Event)
    → ((h : Half) (p : Place) (a : List Event) → Runs E cs h p a → Along AnyToken cs h p) → Next s (After E cs acc) → Next s (λ k q e. Along AnyToken cs k q)
next_along E None cs acc f r = r
next_along E (Some s) cs acc f r = f s.half s.place (tally s.begun acc) r

any_along : (E : List Event → Type 0) (cs : List ℕ) (h : Half) (p : Place) (acc : List Event) → Runs E cs h p acc → Along AnyToken cs h p
any_along E [] h p acc r = any_admits h p []
any_along E (c ∷ cs) h p acc r = (any_admits h p (c ∷ cs), next_along E (step h p c) cs acc (any_along E cs) r)

pub runs_wide : (cs : List ℕ) → Runs Any cs halves.Gap Start [] → Wide cs
runs_wide cs r =
    let l = left_runs AnyToken any_common Any cs halves.Gap Start [] (any_along Any cs halves.Gap Start [] r) r in
    let d = goes_left l.0 Start l.2 in
    (d.0, (l.0, l.1, d.1))

-- a text that completes one from the place on
abbrev ending : Place → List ℕ
ending Start = []
ending AfterInstance = 111 ∷ 102 ∷ 32 ∷ 97 ∷ 123 ∷ 125 ∷ 59 ∷ []
ending AfterOf = 97 ∷ 123 ∷ 125 ∷ 59 ∷ []
ending AfterClass = 123 ∷ 125 ∷ 59 ∷ []
ending AfterAs = 36 ∷ 97 ∷ 123 ∷ 125 ∷ 59 ∷ []
ending AfterAlias = 123 ∷ 125 ∷ 59 ∷ []
ending Body = 125 ∷ 59 ∷ []
ending AfterBody = 59 ∷ []
ending AfterName = 61 ∷ 48 ∷ 59 ∷ 125 ∷ 59 ∷ []
ending AfterEquals = 48 ∷ 59 ∷ 125 ∷ 59 ∷ []
ending AfterStrings = 59 ∷ 125 ∷ 59 ∷ []
ending AfterValue = 59 ∷ 125 ∷ 59 ∷ []
ending InArray = 125 ∷ 59 ∷ 125 ∷ 59 ∷ []
ending AfterComma = 48 ∷ 125 ∷ 59 ∷ 125 ∷ 59 ∷ []
ending AfterElementStrings = 125 ∷ 59 ∷ 125 ∷ 59 ∷ []
ending AfterElement = 125 ∷ 59 ∷ 125 ∷ 59 ∷ []

ends : (p : Place) (acc : List Event) → Runs Any (ending p) halves.Gap p acc
unfolding begin
ends Start acc = ((refl, refl), tt)
ends AfterInstance acc = ((refl, refl), tt)
ends AfterOf acc = ((refl, refl), tt)
ends AfterClass acc = ((refl, refl), tt)
ends AfterAs acc = ((refl, refl), tt)
ends AfterAlias acc = ((refl, refl), tt)
ends Body acc = ((refl, refl), tt)
ends AfterBody acc = ((refl, refl), tt)
ends AfterName acc = ((refl, refl), tt)
ends AfterEquals acc = ((refl, refl), tt)
ends AfterStrings acc = ((refl, refl), tt)
ends AfterValue acc = ((refl, refl), tt)
ends InArray acc = ((refl, refl), tt)
ends AfterComma acc = ((refl, refl), tt)
ends AfterElementStrings acc = ((refl, refl), tt)
ends AfterElement acc = ((refl, refl), tt)

-- and one that first completes the token or the separator
abbrev finish : Half → List ℕ → List ℕ
finish halves.Gap cs = cs
finish halves.Slash cs = 42 ∷ 42 ∷ 47 ∷ cs
finish halves.Line cs = 10 ∷ cs
finish halves.Block cs = 42 ∷ 47 ∷ cs
finish halves.Star cs = 47 ∷ cs
finish halves.Name cs = 32 ∷ cs
finish halves.Alias cs = 97 ∷ 32 ∷ cs
finish (halves.Key k n) cs = drop n (letters k) ++ 32 ∷ cs
finish (halves.Integer numerals.Sign) cs = 48 ∷ 32 ∷ cs
finish (halves.Integer numerals.Prefix) cs = 48 ∷ 32 ∷ cs
finish (halves.Integer f) cs = 32 ∷ cs
finish halves.Literal cs = 34 ∷ cs
finish halves.Escape cs = 92 ∷ 34 ∷ cs
finish halves.EscapeX cs = 48 ∷ 34 ∷ cs
finish (halves.Digits n v) cs = 34 ∷ cs

lower_small : (l : ℕ) (ls : List ℕ) → small (l ∷ ls) ≡ true → to_ascii_lowercase l ≡ l
lower_small l ls h =
    let low : nat_le 97 l ≡ true = and_left (nat_le 97 l) (nat_le l 122 && small ls) h in
    still l low
  where
    still : (l : ℕ) → nat_le 97 l ≡ true → to_ascii_lowercase l ≡ l
    still l h = grind (arith, nat_tests)

key_ends : (ls : List ℕ) (k : Keyword) (n : ℕ) (p : Place) (acc : List Event) (cs : List ℕ) → drop n (letters k) ≡ ls → small ls ≡ true → Runs Any cs halves.Gap p acc → Runs Any (ls ++ 32 ∷ cs) (halves.Key k n) p acc
unfolding begin
key_ends [] k n p acc cs e s r = rw e r
key_ends (l ∷ ls) k n p acc cs e s r =
    rw e (key_step Any events.Quiet k n l ls p acc l (ls ++ 32 ∷ cs) (lower_small l ls s) (key_ends ls k (n + 1) p acc cs (drop_one k n l ls e) (and_right (nat_le l 122) (small ls) (and_right (nat_le 97 l) (nat_le l 122 && small ls) s)) r))

finishes : (h : Half) (p : Place) (acc : List Event) (cs : List ℕ) → Runs Any cs halves.Gap p acc → Runs Any (finish h cs) h p acc
unfolding begin
finishes (halves.Key k n) p acc cs r = key_ends (drop n (letters k)) k n p acc cs refl (small_dropped n (letters k) (small_letters k)) r
finishes (halves.Digits zero v) p acc cs r = r
finishes (halves.Digits (suc n) v) p acc cs r = r
finishes (halves.Integer numerals.Sign) p acc cs r = r
finishes (halves.Integer numerals.Prefix) p acc cs r = r
finishes (halves.Integer f) p acc cs r = r
finishes h p acc cs r = r

pub is_front : (front : List ℕ) (b : AfterWalk) → walked front ≡ Some b → IsFront front
is_front front b is =
    let rest = finish b.half (ending b.place) in
    (rest, runs_wide (front ++ rest) (goes_on (Ends Any) front rest b is (finishes b.half b.place b.begun (ending b.place) (ends b.place b.begun))))

-- no text of the grammar goes on with this character
pub no_front : (front : List ℕ) (c : ℕ) (b : AfterWalk) → walked front ≡ Some b → step b.half b.place c ≡ None → IsFront (front ++ c ∷ []) → ⊥
no_front front c b is stuck begins =
    let runs = wide_runs ((front ++ c ∷ []) ++ begins.0) begins.1 in
    let here = subst (λ (x : List ℕ). Runs Any x halves.Gap Start []) (append_assoc front (c ∷ []) begins.0) runs in
    subst (λ (x : Option State). Next x (After Any begins.0 b.begun)) stuck (only_so (Ends Any) front (c ∷ begins.0) b is here)

-- where the machine is stuck, the text goes wrong
pub fault_here : (text : List ℕ) (at : ℕ) (b : AfterWalk) → at < length text → walked (take at text) ≡ Some b → step b.half b.place (slice_index text at) ≡ None → IsSyntaxFault text at
fault_here text at b lt is stuck =
    let none : IsFront (take (at + 1) text) → ⊥ = λ f. no_front (take at text) (slice_index text at) b is stuck (subst (λ (x : List ℕ). IsFront x) (take_more text at 0 lt) f) in
    IsSyntaxFault-from_next text at
    (λ w. none (drop (at + 1) text, subst (λ (x : List ℕ). Wide x) (sym (take-append-drop (at + 1) text)) w))
    (omega arith) (is_front (take at text) b is) (λ _ f. none f)

-- at the text's end

pub whole_here : (text : List ℕ) (b : AfterWalk) → walked text ≡ Some b → Whole b.half b.place → Wide text
whole_here text b is w = runs_wide text (subst (λ (x : List ℕ). Runs Any x halves.Gap Start []) (append-nil text) (goes_on (Ends Any) text [] b is (w, tt)))

pub whole_there : (text : List ℕ) (b : AfterWalk) → walked text ≡ Some b → Wide text → Whole b.half b.place
whole_there text b is w = (only_so (Ends Any) text [] b is (subst (λ (x : List ℕ). Runs Any x halves.Gap Start []) (sym (append-nil text)) (wide_runs text w))).0

pub fault_end : (text : List ℕ) (b : AfterWalk) → walked text ≡ Some b → (Whole b.half b.place → ⊥) → IsSyntaxFault text (length text)
fault_end text b is no_end = IsSyntaxFault-from_next text (length text)
    (λ w. no_end (whole_there text b is w))
    (omega arith)
    (subst (λ (x : List ℕ). IsFront x) (sym (take_all (length text) text (omega arith))) (is_front text b is))
    (λ lt. absurd (omega (arith, lt)))

-- what is begun in the instances is what the machine was given
pub events_here : (text : List ℕ) (b : AfterWalk) → walked text ≡ Some b → (is : List Instance) → WideSpells text is → b.begun ≡ events_of is []
events_here text b e is w =
    (only_so (Ends (Is (events_of is []))) text [] b e (subst (λ (x : List ℕ). Runs (Is (events_of is [])) x halves.Gap Start []) (sym (append-nil text)) (spells_runs text is w))).1
