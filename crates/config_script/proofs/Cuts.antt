-- Where a token is torn: its longest front, what completes it, and that it goes on with nothing else.
use Rattle.std.proofs.Common.{◌≡◌, inl, inr, ℕ, Bool, true, false, not, ◌||◌, List, [], ◌∷◌, ◌++◌, refl, sym, ap, subst, ◌∙◌, append-nil, cond, arith}
use Rattle.std.specs.Prelude.{◌==◌, nat_le, ◌&&◌}
use Rattle.std.specs.Char.{to_ascii_lowercase}
use Rattle.std.proofs.lemmas.Bool.{true≢false}
use Rattle.std.proofs.lemmas.Bool.Decides.{nat_tests}
use Rattle.mof_values.specs.Fold.{fold_case}
use Rattle.mof_values.specs.Ident.{is_first, is_next}
use Rattle.mof_syntax.specs.Characters.{digit_of, Stops, Run, stop, more}
use Rattle.mof_syntax.specs.Scanning.{after}
use Rattle.mof_syntax.specs.Tokens.{Identifier, identifier}
use Rattle.mof_syntax.proofs.Scans.{test_or}
use Rattle.config_script.specs.Fronts.{keyword_front, quoted_front, digits_front}
use Rattle.config_script.specs.Tokens.{is_apostrophe, is_inert, Verbatim, Magnitude}
use Rattle.config_script.specs.Tokens as tokens

-- the longest front of what L says, what completes it, and that it goes on so and not otherwise
pub record Cut (L : List ℕ → List ℕ → Type 0) (cs out : List ℕ) : Type 0 where
  pub front : List ℕ
  pub split : cs ≡ front ++ out
  pub others : List ℕ
  pub whole : (r : List ℕ) → L (front ++ (others ++ 10 ∷ r)) (10 ∷ r)
  pub stops : (c : ℕ) (us vs r : List ℕ) → out ≡ c ∷ us → L (front ++ c ∷ vs) r → ⊥

abbrev pub Never : (List ℕ → List ℕ → Type 0) → List ℕ → Type 0
Never L cs = (r : List ℕ) → L cs r → ⊥

pub cut_on : (L M : List ℕ → List ℕ → Type 0) (c : ℕ) (cs out : List ℕ) → ((us r : List ℕ) → L us r → M (c ∷ us) r) → ((us r : List ℕ) → M (c ∷ us) r → L us r)
    → Cut L cs out → Cut M (c ∷ cs) out
cut_on L M c cs out f g k = record {
  front = c ∷ k.front;
  split = ap (λ (xs : List ℕ). c ∷ xs) k.split;
  others = k.others;
  whole = λ r. f (k.front ++ (k.others ++ 10 ∷ r)) (10 ∷ r) (k.whole r);
  stops = λ d us vs r e m. k.stops d us vs r e (g (k.front ++ d ∷ vs) r m);
}

-- nothing of it stands
pub cut_here : (L : List ℕ → List ℕ → Type 0) (c : ℕ) (cs others : List ℕ) → ((r : List ℕ) → L (others ++ 10 ∷ r) (10 ∷ r)) → ((vs r : List ℕ) → L (c ∷ vs) r → ⊥)
    → Cut L (c ∷ cs) (c ∷ cs)
cut_here L c cs others f g = record {
  front = [];
  split = refl;
  others = others;
  whole = f;
  stops = λ d us vs r e m. g vs r (subst (λ (x : ℕ). L (x ∷ vs) r) (sym (head_same c d cs us e)) m);
}
  where
    head_same : (c d : ℕ) (cs us : List ℕ) → c ∷ cs ≡ d ∷ us → c ≡ d
    head_same c d cs us e = cc

pub cut_end : (L : List ℕ → List ℕ → Type 0) (others : List ℕ) → ((r : List ℕ) → L (others ++ 10 ∷ r) (10 ∷ r)) → Cut L [] []
cut_end L others f = record { front = []; split = refl; others = others; whole = f; stops = λ d us vs r e m. no_cons d us e }
  where
    no_cons : (d : ℕ) (us : List ℕ) → [] ≡ d ∷ us → ⊥
    no_cons d us e = cc

-- the same by other words
pub cut_as : (L M : List ℕ → List ℕ → Type 0) (cs out : List ℕ) → ((us r : List ℕ) → L us r → M us r) → ((us r : List ℕ) → M us r → L us r) → Cut L cs out → Cut M cs out
cut_as L M cs out f g k = record {
  front = k.front;
  split = k.split;
  others = k.others;
  whole = λ r. f (k.front ++ (k.others ++ 10 ∷ r)) (10 ∷ r) (k.whole r);
  stops = λ d us vs r e m. k.stops d us vs r e (g (k.front ++ d ∷ vs) r m);
}

both : (b : Bool) → b ≡ true → b ≡ false → ⊥
both b t f = true≢false (sym t ∙ f)

equal_to : (c d : ℕ) → (c == d) ≡ true → c ≡ d
equal_to c d e = grind (arith, nat_tests)

-- ---- keywords

-- the letters by fold, which no identifier character follows
abbrev pub Key : List ℕ → List ℕ → List ℕ → Type 0
Key [] cs r = (cs ≡ r) × Stops is_next cs
Key (l ∷ ls) [] r = ⊥
Key (l ∷ ls) (c ∷ cs) r = ((to_ascii_lowercase c == l) ≡ true) × Key ls cs r

-- all are letters in lower case
abbrev pub small : List ℕ → Bool
small [] = true
small (l ∷ ls) = (nat_le 97 l && nat_le l 122) && small ls

and_both : (a b : Bool) → (a && b) ≡ true → (a ≡ true) × (b ≡ true)
and_both true true e = (refl, refl)
and_both true false e = cc
and_both false b e = cc

lower_small : (l : ℕ) → (nat_le 97 l && nat_le l 122) ≡ true → (to_ascii_lowercase l == l) ≡ true
lower_small l h = grind (arith, nat_tests)

letter_first : (c l : ℕ) → (nat_le 97 l && nat_le l 122) ≡ true → (to_ascii_lowercase c == l) ≡ true → is_first c ≡ true
letter_first c l h e = grind (arith, nat_tests)

letter_next : (c l : ℕ) → (nat_le 97 l && nat_le l 122) ≡ true → (to_ascii_lowercase c == l) ≡ true → is_next c ≡ true
letter_next c l h e = grind (arith, nat_tests)

same_test : (a b : ℕ) → a ≡ b → (a == b) ≡ true
same_test a b e = grind (arith, nat_tests)

pub key_self : (ls r : List ℕ) → small ls ≡ true → Key ls (ls ++ 10 ∷ r) (10 ∷ r)
key_self [] r s = (refl, refl)
key_self (l ∷ ls) r s =
    let h = and_both (nat_le 97 l && nat_le l 122) (small ls) s in
    (lower_small l h.0, key_self ls r h.1)

pub key_cut : (ls cs : List ℕ) → small ls ≡ true → Never (Key ls) cs → Cut (Key ls) cs (keyword_front ls cs)
key_cut [] [] s lacks = absurd (lacks [] (refl, tt))
key_cut [] (c ∷ cs) s lacks = cut_here (Key []) c cs [] (λ r. (refl, refl)) (λ vs r k. lacks (c ∷ cs) (refl, k.1))
key_cut (l ∷ ls) [] s lacks = cut_end (Key (l ∷ ls)) (l ∷ ls) (λ r. key_self (l ∷ ls) r s)
key_cut (l ∷ ls) (c ∷ cs) s lacks = elim (test_or (to_ascii_lowercase c == l)) [
  | inl is ↦ rw is (cut_on (Key ls) (Key (l ∷ ls)) c cs (keyword_front ls cs) (λ us r k. (is, k)) (λ us r k. k.1)
      (key_cut ls cs (and_both (nat_le 97 l && nat_le l 122) (small ls) s).1 (λ r k. lacks r (is, k))))
  | inr other ↦ rw other (cut_here (Key (l ∷ ls)) c cs (l ∷ ls) (λ r. key_self (l ∷ ls) r s) (λ vs r k. both (to_ascii_lowercase c == l) k.0 other))
]

key_run : (ls cs r : List ℕ) → small ls ≡ true → Key ls cs r → (run : List ℕ) × Run is_next cs run r × (fold_case run ≡ ls) × Stops is_next r
key_run [] cs r s k = ([], subst (λ (xs : List ℕ). Run is_next cs [] xs) k.0 (stop cs), refl, subst (λ (xs : List ℕ). Stops is_next xs) k.0 k.1)
key_run (l ∷ ls) [] r s k = absurd k
key_run (l ∷ ls) (c ∷ cs) r s k =
    let h = and_both (nat_le 97 l && nat_le l 122) (small ls) s in
    let on = key_run ls cs r h.1 k.1 in (
      c ∷ on.0,
      more c cs on.0 r (letter_next c l h.0 k.0) on.1,
      ap (λ (x : ℕ). x ∷ fold_case on.0) (equal_to (to_ascii_lowercase c) l k.0) ∙ ap (λ (xs : List ℕ). l ∷ xs) on.2,
      on.3,
    )

-- the word that is the keyword
pub key_word : (l : ℕ) (ls cs r : List ℕ) → small (l ∷ ls) ≡ true → Key (l ∷ ls) cs r → (name : List ℕ) × Identifier cs name r × (fold_case name ≡ l ∷ ls)
key_word l ls [] r s k = absurd k
key_word l ls (c ∷ cs) r s k =
    let h = and_both (nat_le 97 l && nat_le l 122) (small ls) s in
    let on = key_run ls cs r h.1 k.1 in (
      c ∷ on.0,
      identifier c cs on.0 r (letter_first c l h.0 k.0) on.1 on.3,
      ap (λ (x : ℕ). x ∷ fold_case on.0) (equal_to (to_ascii_lowercase c) l k.0) ∙ ap (λ (xs : List ℕ). l ∷ xs) on.2,
    )

run_key : (cs run r : List ℕ) → Run is_next cs run r → Stops is_next r → Key (fold_case run) cs r
run_key cs run r (stop q) s = (refl, s)
run_key cs run r (more c us v q e on) s = (same_test (to_ascii_lowercase c) (to_ascii_lowercase c) refl, run_key us v q on s)

pub word_key : (cs name r ls : List ℕ) → Identifier cs name r → fold_case name ≡ ls → Key ls cs r
word_key cs name r ls (identifier c us tail q e run s) same =
    subst (λ (xs : List ℕ). Key xs (c ∷ us) q) same (same_test (to_ascii_lowercase c) (to_ascii_lowercase c) refl, run_key us tail q run s)

-- ---- texts

abbrev pub Verb : List ℕ → List ℕ → Type 0
Verb cs r = (text : List ℕ) × Verbatim cs text r

open_plain : (c : ℕ) (cs rest : List ℕ) → (c == 39) ≡ false → Verb (cs ++ 39 ∷ rest) rest → Verb (c ∷ (cs ++ 39 ∷ rest)) rest
open_plain c cs rest e v = (c ∷ v.0, tokens.plain c (cs ++ 39 ∷ rest) v.0 rest e v.1)

open_doubled : (c d : ℕ) (cs rest : List ℕ) → c ≡ 39 → d ≡ 39 → Verb cs rest → Verb (c ∷ d ∷ cs) rest
open_doubled c d cs rest e f v = subst (λ (x : ℕ). Verb (x ∷ d ∷ cs) rest) (sym e) (subst (λ (x : ℕ). Verb (39 ∷ x ∷ cs) rest) (sym f)
    (39 ∷ v.0, tokens.doubled cs v.0 rest v.1))

shut_text : (c : ℕ) (cs : List ℕ) → c ≡ 39 → Stops is_apostrophe cs → Verb (c ∷ cs) cs
shut_text c cs e s = subst (λ (x : ℕ). Verb (x ∷ cs) cs) (sym e) ([], tokens.closed cs s)

open_text : (cs : List ℕ) → Never Verb cs → (rest : List ℕ) → Stops is_apostrophe rest → Verb (cs ++ 39 ∷ rest) rest
open_text [] lacks rest s = ([], tokens.closed rest s)
open_text (c ∷ []) lacks rest s = elim (test_or (c == 39)) [
  | inl is ↦ absurd (lacks [] (shut_text c [] (equal_to c 39 is) tt))
  | inr other ↦ open_plain c [] rest other ([], tokens.closed rest s)
]
open_text (c ∷ d ∷ cs) lacks rest s = elim (test_or (c == 39)) [
  | inl is ↦ elim (test_or (d == 39)) [
    | inl two ↦ open_doubled c d (cs ++ 39 ∷ rest) rest (equal_to c 39 is) (equal_to d 39 two)
        (open_text cs (λ r v. lacks r (open_doubled c d cs r (equal_to c 39 is) (equal_to d 39 two) v)) rest s)
    | inr one ↦ absurd (lacks (d ∷ cs) (shut_text c (d ∷ cs) (equal_to c 39 is) one))
  ]
  | inr other ↦ open_plain c (d ∷ cs) rest other
      (open_text (d ∷ cs) (λ r v. lacks r (c ∷ v.0, tokens.plain c (d ∷ cs) v.0 r other v.1)) rest s)
]

pub verbatim_cut : (cs : List ℕ) → Never Verb cs → Cut Verb cs []
verbatim_cut cs lacks = record {
  front = cs;
  split = sym (append-nil cs);
  others = 39 ∷ [];
  whole = λ r. open_text cs lacks (10 ∷ r) refl;
  stops = λ d us vs r e m. no_cons d us e;
}
  where
    no_cons : (d : ℕ) (us : List ℕ) → [] ≡ d ∷ us → ⊥
    no_cons d us e = cc

abbrev pub Quoted : List ℕ → List ℕ → Type 0
Quoted cs r = (text : List ℕ) × Run is_inert cs text (34 ∷ r)

inert_tests : (c : ℕ) → is_inert c ≡ true → ((c == 34) ≡ false) × ((c == 36 || c == 96) ≡ false)
inert_tests c e = by (c == 34) (c == 36) (c == 96) e
  where
    by : (a b d : Bool) → not (a || b || d) ≡ true → (a ≡ false) × ((b || d) ≡ false)
    by false false false e = (refl, refl)
    by true b d e = cc
    by false true d e = cc
    by false false true e = cc

inert_by : (c : ℕ) → (c == 34) ≡ false → (c == 36 || c == 96) ≡ false → is_inert c ≡ true
inert_by c e f = grind (arith, nat_tests)

quoted_first : (c : ℕ) (cs text r : List ℕ) → Run is_inert (c ∷ cs) text (34 ∷ r) → (c == 34) ≡ false → (c == 36 || c == 96) ≡ true → ⊥
quoted_first c cs text r (stop q) e f = both (34 == 34) refl e
quoted_first c cs text r (more d us v q i on) e f = both (c == 36 || c == 96) f (inert_tests c i).1

quoted_behind : (c : ℕ) (cs text r : List ℕ) → (c == 34) ≡ false → Run is_inert (c ∷ cs) text (34 ∷ r) → Quoted cs r
quoted_behind c cs text r e (stop x) = absurd (both (34 == 34) refl e)
quoted_behind c cs text r e (more d us v x i on) = (v, on)

quoted_next : (c : ℕ) (cs r : List ℕ) → (c == 34) ≡ false → Quoted (c ∷ cs) r → Quoted cs r
quoted_next c cs r e q = quoted_behind c cs q.0 r e q.1

pub quoted_cut : (cs : List ℕ) → Never Quoted cs → Cut Quoted cs (quoted_front cs)
quoted_cut [] lacks = cut_end Quoted (34 ∷ []) (λ r. ([], stop (34 ∷ 10 ∷ r)))
quoted_cut (c ∷ cs) lacks = elim (test_or (c == 34)) [
  | inl is ↦ absurd (lacks cs ([], subst (λ (x : ℕ). Run is_inert (x ∷ cs) [] (34 ∷ cs)) (sym (equal_to c 34 is)) (stop (34 ∷ cs))))
  | inr e ↦ elim (test_or (c == 36 || c == 96)) [
    | inl f ↦ rw f (cut_here Quoted c cs (34 ∷ []) (λ r. ([], stop (34 ∷ 10 ∷ r))) (λ vs r q. quoted_first c vs q.0 r q.1 e f))
    | inr f ↦ rw f (cut_on Quoted Quoted c cs (quoted_front cs)
        (λ us r q. (c ∷ q.0, more c us q.0 (34 ∷ r) (inert_by c e f) q.1)) (λ us r q. quoted_next c us r e q)
        (quoted_cut cs (λ r q. lacks r (c ∷ q.0, more c cs q.0 (34 ∷ r) (inert_by c e f) q.1))))
  ]
]

-- ---- integers

-- digits, which no identifier character follows
abbrev Decimal : List ℕ → List ℕ → Type 0
Decimal cs r = (ds : List ℕ) × Run (digit_of 10) cs ds r × Stops is_next r

digit_is_next : (c : ℕ) → digit_of 10 c ≡ true → is_next c ≡ true
digit_is_next c e = grind (arith, nat_tests)

next_no : (c : ℕ) → is_next c ≡ false → digit_of 10 c ≡ false
next_no c e = elim (test_or (digit_of 10 c)) [ inl is ↦ absurd (both (is_next c) (digit_is_next c is) e) | inr other ↦ other ]

decimal_behind : (c : ℕ) (cs r ds : List ℕ) → digit_of 10 c ≡ true → Run (digit_of 10) (c ∷ cs) ds r → Stops is_next r → Decimal cs r
decimal_behind c cs r ds e (stop x) s = absurd (both (is_next c) (digit_is_next c e) s)
decimal_behind c cs r ds e (more x us v q i on) s = (v, on, s)

decimal_next : (c : ℕ) (cs r : List ℕ) → digit_of 10 c ≡ true → Decimal (c ∷ cs) r → Decimal cs r
decimal_next c cs r e d = decimal_behind c cs r d.0 e d.1 d.2

decimal_stopped : (c : ℕ) (vs r ds : List ℕ) → digit_of 10 c ≡ false → Run (digit_of 10) (c ∷ vs) ds r → Stops is_next r → is_next c ≡ false
decimal_stopped c vs r ds e (stop x) s = s
decimal_stopped c vs r ds e (more x us v q i on) s = absurd (both (digit_of 10 c) i e)

decimal_first : (c : ℕ) (vs r : List ℕ) → digit_of 10 c ≡ false → Decimal (c ∷ vs) r → is_next c ≡ false
decimal_first c vs r e d = decimal_stopped c vs r d.0 e d.1 d.2

decimal_cut : (cs : List ℕ) → Never Decimal cs → Cut Decimal cs (after (digit_of 10) cs)
decimal_cut [] lacks = absurd (lacks [] ([], stop [], tt))
decimal_cut (c ∷ cs) lacks = elim (test_or (digit_of 10 c)) [
  | inl is ↦ rw is (cut_on Decimal Decimal c cs (after (digit_of 10) cs) (λ us r d. (c ∷ d.0, more c us d.0 r is d.1, d.2)) (λ us r d. decimal_next c us r is d)
      (decimal_cut cs (λ r d. lacks r (c ∷ d.0, more c cs d.0 r is d.1, d.2))))
  | inr other ↦ rw other (cut_here Decimal c cs [] (λ r. ([], stop (10 ∷ r), refl))
      (λ vs r d. lacks (c ∷ cs) ([], stop (c ∷ cs), decimal_first c vs r other d)))
]

abbrev pub Whole : List ℕ → List ℕ → Type 0
Whole cs r = (n : ℕ) × Magnitude cs n r × Stops is_next r

-- after a 0
abbrev Stopped : List ℕ → List ℕ → Type 0
Stopped cs r = (cs ≡ r) × Stops is_next cs

stopped_cut : (cs : List ℕ) → Never Stopped cs → Cut Stopped cs cs
stopped_cut [] lacks = absurd (lacks [] (refl, tt))
stopped_cut (c ∷ cs) lacks = cut_here Stopped c cs [] (λ r. (refl, refl)) (λ vs r k. lacks (c ∷ cs) (refl, k.1))

nought_behind : (cs : List ℕ) (n : ℕ) (r : List ℕ) → Magnitude (48 ∷ cs) n r → Stops is_next r → Stopped cs r
nought_behind cs n r (tokens.nought x) s = (refl, s)
nought_behind cs n r (tokens.digits d us ds x nz e run) s = absurd (both (48 == 48) refl nz)

nought_next : (cs r : List ℕ) → Whole (48 ∷ cs) r → Stopped cs r
nought_next cs r w = nought_behind cs w.0 r w.1 w.2

nought_on : (cs r : List ℕ) → Stopped cs r → Whole (48 ∷ cs) r
nought_on cs r k = subst (λ (x : List ℕ). Whole (48 ∷ cs) x) k.0 (0, tokens.nought cs, k.1)

digits_behind : (c : ℕ) (cs : List ℕ) (n : ℕ) (r : List ℕ) → (c == 48) ≡ false → Magnitude (c ∷ cs) n r → Stops is_next r → Decimal cs r
digits_behind c cs n r z (tokens.nought x) s = absurd (both (48 == 48) refl z)
digits_behind c cs n r z (tokens.digits d us ds x nz e run) s = (ds, run, s)

digits_next : (c : ℕ) (cs r : List ℕ) → (c == 48) ≡ false → Whole (c ∷ cs) r → Decimal cs r
digits_next c cs r z w = digits_behind c cs w.0 r z w.1 w.2

digits_on : (c : ℕ) (cs r : List ℕ) → (c == 48) ≡ false → digit_of 10 c ≡ true → Decimal cs r → Whole (c ∷ cs) r
digits_on c cs r z e d = (_, tokens.digits c cs d.0 r z e d.1, d.2)

magnitude_first : (c : ℕ) (cs : List ℕ) (n : ℕ) (r : List ℕ) → Magnitude (c ∷ cs) n r → digit_of 10 c ≡ true
magnitude_first c cs n r (tokens.nought x) = refl
magnitude_first c cs n r (tokens.digits d us ds x nz e run) = e

pub digits_cut : (cs : List ℕ) → Never Whole cs → Cut Whole cs (digits_front cs)
digits_cut [] lacks = cut_end Whole (48 ∷ []) (λ r. (0, tokens.nought (10 ∷ r), refl))
digits_cut (c ∷ cs) lacks = by (c == 48) (digit_of 10 c) refl refl
  where
    by : (a b : Bool) → (c == 48) ≡ a → digit_of 10 c ≡ b → Cut Whole (c ∷ cs) (cond a cs (cond b (after (digit_of 10) cs) (c ∷ cs)))
    by true b e f = subst (λ (x : ℕ). Cut Whole (x ∷ cs) cs) (sym (equal_to c 48 e)) (cut_on Stopped Whole 48 cs cs nought_on nought_next
        (stopped_cut cs (λ r k. lacks r (subst (λ (x : ℕ). Whole (x ∷ cs) r) (sym (equal_to c 48 e)) (nought_on cs r k)))))
    by false true e f = cut_on Decimal Whole c cs (after (digit_of 10) cs) (λ us r d. digits_on c us r e f d) (λ us r w. digits_next c us r e w)
        (decimal_cut cs (λ r d. lacks r (digits_on c cs r e f d)))
    by false false e f = cut_here Whole c cs (48 ∷ []) (λ r. (0, tokens.nought (10 ∷ r), refl)) (λ vs r w. both (digit_of 10 c) (magnitude_first c vs w.0 r w.1) f)
