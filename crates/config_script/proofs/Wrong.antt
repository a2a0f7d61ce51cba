-- The longest front of a script from its start on is that of the definitions, and tells the line on which a text goes wrong.
use Rattle.std.proofs.Common.{◌≡◌, inl, inr, ◌<◌, ◌≤◌, ◌+◌, ℕ, zero, suc, Bool, true, false, Some, None, List, [], ◌∷◌, ◌++◌, length, take, refl, sym, ap, subst, ◌∙◌, append_assoc, length-append, cond, arith}
use Rattle.std.specs.Prelude.{◌==◌, ◌-◌}
use Rattle.std.proofs.lemmas.Bool.Decides.{leb_tells}
use Rattle.config_script.specs.declared.place.Place.{Place}
use Rattle.config_script.specs.declared.place.Place.TheVariants.{Start}
use Rattle.config_script.specs.Fronts.{LongestFront, front_rest}
use Rattle.config_script.specs.Lexing.{Lexed, lexed, first_token, separated}
use Rattle.config_script.specs.Places.{script_events, Step, step}
use Rattle.config_script.specs.Scripts.{IsScript, IsFront, GoesWrongOn}
use Rattle.config_script.specs.Tokens.{feeds, line_of, Token}
use Rattle.config_script.proofs.Fronts.{From, Torn, IsApart, apart_after, front_on, left_shorter, pair_same, torn_after}
use Rattle.config_script.proofs.Lexed.{token_is, token_stands}
use Rattle.config_script.proofs.Rules.{goes_back, goes_configuration}
use Rattle.config_script.proofs.Stuck.{Stuck, all_front, torn_stuck}

from_script : (cs : List ℕ) → IsScript cs → From Start false cs
from_script cs s = (s.2.0, script_events s.0 s.1, s.2.1, goes_configuration s.2.0 s.0 s.1 s.2.2)

script_from : (cs : List ℕ) → From Start false cs → IsScript cs
script_from cs g = let r = goes_back Start g.0 g.1 g.3 in (r.0, r.1, (g.0, g.2, r.2))

pub longest_front : (text out : List ℕ) → Torn (From Start false) text out → LongestFront IsScript text out
longest_front text out k = record {
  front = k.front;
  split = k.split;
  others = k.others;
  goes_on = script_from (k.front ++ k.others) k.goes_on;
  longest = λ c us vs o s. k.longest c us vs o (from_script (k.front ++ c ∷ vs) s);
}

take_front : (front rest : List ℕ) → take (length front) (front ++ rest) ≡ front
take_front [] rest = refl
take_front (x ∷ fr) rest = ap (λ (xs : List ℕ). x ∷ xs) (take_front fr rest)

-- a longer front goes on with the first character of the rest
longer : (front rest : List ℕ) (n : ℕ) → length front < n → n ≤ length (front ++ rest)
    → (c : ℕ) × (us : List ℕ) × (vs : List ℕ) × (rest ≡ c ∷ us) × (take n (front ++ rest) ≡ front ++ c ∷ vs)
longer [] [] zero lt le = absurd (omega arith)
longer [] [] (suc n) lt le = absurd (omega arith)
longer [] (c ∷ us) zero lt le = absurd (omega arith)
longer [] (c ∷ us) (suc n) lt le = (c, us, take n us, refl, refl)
longer (x ∷ fr) rest zero lt le = absurd (omega arith)
longer (x ∷ fr) rest (suc n) lt le =
    let h = longer fr rest n (omega arith) (omega arith) in
    (h.0, h.1, h.2, h.3, ap (λ (xs : List ℕ). x ∷ xs) h.4)

none_more : (x : ℕ) → x ≡ 0 + x
none_more x = omega arith

one_more : (x a b : ℕ) → x ≡ a + b → suc x ≡ suc a + b
one_more x a b e = omega arith

feeds_append : (a b : List ℕ) → feeds (a ++ b) ≡ feeds a + feeds b
feeds_append [] b = none_more (feeds b)
feeds_append (c ∷ cs) b = by (c == 10) (feeds_append cs b)
  where
    by : (t : Bool) → feeds (cs ++ b) ≡ feeds cs + feeds b → cond t (suc (feeds (cs ++ b))) (feeds (cs ++ b)) ≡ cond t (suc (feeds cs)) (feeds cs) + feeds b
    by true e = one_more (feeds (cs ++ b)) (feeds cs) (feeds b) e
    by false e = e

taken_away : (x a b : ℕ) → x ≡ a + b → x - b ≡ a
taken_away x a b e = omega arith

pub goes_wrong : (text rest : List ℕ) → LongestFront IsScript text rest → (IsScript text → ⊥) → GoesWrongOn text (line_of text rest)
goes_wrong text rest k none =
    let front_is : take (length k.front) text ≡ k.front = ap (take (length k.front)) k.split ∙ take_front k.front rest in
    record {
      none = none;
      at = length k.front;
      within = subst (λ (xs : List ℕ). length k.front ≤ length xs) (sym k.split) (no_longer k.front rest);
      front = (k.others, subst (λ (xs : List ℕ). IsScript (xs ++ k.others)) (sym front_is) k.goes_on);
      longest = λ n le begins. by_length n le begins;
      counted = taken_away (feeds text) (feeds (take (length k.front) text)) (feeds rest)
          (ap feeds k.split ∙ feeds_append k.front rest ∙ ap (λ (xs : List ℕ). feeds xs + feeds rest) (sym front_is));
    }
  where
    no_longer : (a b : List ℕ) → length a ≤ length (a ++ b)
    no_longer a b = subst (λ (x : ℕ). length a ≤ x) (sym (length-append a b)) (omega arith)

    past : (n : ℕ) → length k.front < n → n ≤ length text → IsFront (take n text) → ⊥
    past n lt le begins =
        let h = longer k.front rest n lt (subst (λ (xs : List ℕ). n ≤ length xs) k.split le) in
        let same : take n text ≡ k.front ++ h.0 ∷ h.2 = ap (take n) k.split ∙ h.4 in
        k.longest h.0 h.1 (h.2 ++ begins.0) h.3
        (subst (λ (xs : List ℕ). IsScript xs) (append_assoc k.front (h.0 ∷ h.2) begins.0)
        (subst (λ (xs : List ℕ). IsScript (xs ++ begins.0)) same begins.1))

    by_length : (n : ℕ) → n ≤ length text → IsFront (take n text) → n ≤ length k.front
    by_length n le begins = elim (leb_tells n (length k.front)) [ inl is ↦ is.1 | inr more ↦ absurd (past n more.1 le begins) ]

-- ---- from one place to the next

-- the longest front of what is left, from the place on, is that of the text
abbrev pub Onward : List ℕ → Place → Bool → List ℕ → Type 0
Onward text p f left = (out : List ℕ) → Torn (From p f) left out → Torn (From Start false) text out

pub onward_begins : (text : List ℕ) → Onward text Start (separated false false text).0 (separated false false text).1
onward_begins text out k = torn_after Start false false text out k

pub onward_step : (text : List ℕ) (p : Place) (f : Bool) (left : List ℕ) (t : Token) (rest : List ℕ) (s : Step) → Onward text p f left → first_token left ≡ Some (t, rest)
    → step p f left t ≡ Some s → Onward text s.place (separated false false rest).0 (separated false false rest).1
onward_step text p f left t rest s w i e out k =
    w out (front_on p f left t rest s out (token_stands left t rest i) e (torn_after s.place false false rest out k))

pub onward_all : (text : List ℕ) (p : Place) (f : Bool) (left : List ℕ) → Onward text p f left → left ≡ [] → LongestFront IsScript text left
onward_all text p f left w e = longest_front text left (w left (subst (λ (xs : List ℕ). Torn (From p f) xs xs) (sym e) (all_front p f)))

stuck_here : (text : List ℕ) (p : Place) (f : Bool) (left : List ℕ) → Onward text p f left → IsApart left → (left ≡ [] → ⊥) → Stuck p f left
    → LongestFront IsScript text (front_rest p left)
stuck_here text p f [] w apart some stuck = absurd (some refl)
stuck_here text p f (c ∷ cs) w apart some stuck = longest_front text (front_rest p (c ∷ cs)) (w (front_rest p (c ∷ cs)) (torn_stuck p f c cs apart stuck))

-- where no token stands
pub onward_none : (text : List ℕ) (p : Place) (f : Bool) (left : List ℕ) → Onward text p f left → IsApart left → (left ≡ [] → ⊥) → first_token left ≡ None
    → LongestFront IsScript text (front_rest p left)
onward_none text p f left w apart some none = stuck_here text p f left w apart some (λ t s r i e. no_other t r (sym none ∙ token_is left t r i))
  where
    no_other : (t : Token) (r : List ℕ) → ◌≡◌ {A = Lexed} None (Some (t, r)) → ⊥
    no_other t r e = cc

-- where one stands that the place does not take
pub onward_stuck : (text : List ℕ) (p : Place) (f : Bool) (left : List ℕ) (t : Token) (rest : List ℕ) → Onward text p f left → IsApart left → (left ≡ [] → ⊥)
    → first_token left ≡ Some (t, rest) → step p f left t ≡ None → LongestFront IsScript text (front_rest p left)
onward_stuck text p f left t rest w apart some i none = stuck_here text p f left w apart some
    (λ u s r j e. no_other s (sym none ∙ subst (λ (x : Token). step p f left x ≡ Some s) (sym (pair_same t rest u r (sym i ∙ token_is left u r j)).0) e))
  where
    no_other : (s : Step) → None ≡ Some s → ⊥
    no_other s e = cc

-- ---- the same of what code has at hand

pub first_place : (text left : List ℕ) (f : Bool) → f ≡ (separated false false text).0 → left ≡ (separated false false text).1 → IsApart left × Onward text Start f left
first_place text left f e g = subst (λ (b : Bool). IsApart left × Onward text Start b left) (sym e)
    (subst (λ (xs : List ℕ). IsApart xs × Onward text Start (separated false false text).0 xs) (sym g) (apart_after false false text, onward_begins text))

pub next_place : (text left rest later : List ℕ) (p : Place) (f g : Bool) (t : Token) (s : Step) → Onward text p f left → first_token left ≡ lexed t rest
    → step p f left t ≡ Some s → g ≡ (separated false false rest).0 → later ≡ (separated false false rest).1 → IsApart later × Onward text s.place g later
next_place text left rest later p f g t s w i e h k = subst (λ (b : Bool). IsApart later × Onward text s.place b later) (sym h)
    (subst (λ (xs : List ℕ). IsApart xs × Onward text s.place (separated false false rest).0 xs) (sym k)
    (apart_after false false rest, onward_step text p f left t rest s w i e))

pub next_shorter : (left rest later : List ℕ) (t : Token) → first_token left ≡ lexed t rest → later ≡ (separated false false rest).1 → length later < length left
next_shorter left rest later t i k = subst (λ (xs : List ℕ). length xs < length left) (sym k) (left_shorter left t rest false false i)
