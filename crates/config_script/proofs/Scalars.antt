-- Where a name or a scalar is torn.
use Rattle.std.proofs.Common.{◌≡◌, ◌⊎◌, inl, inr, ℕ, Bool, true, false, List, [], ◌∷◌, ◌++◌, refl, sym, subst, ◌∙◌, Some, codes, pos, neg_ℤ, cond, arith}
use Rattle.std.specs.Prelude.{◌==◌}
use Rattle.std.specs.Char.{to_ascii_lowercase}
use Rattle.std.proofs.lemmas.Bool.{true≢false}
use Rattle.std.proofs.lemmas.Bool.Decides.{nat_tests}
use Rattle.mof_values.specs.Ident.{is_first, is_next}
use Rattle.mof_values.specs.declared.value.Scalar.{Scalar}
use Rattle.mof_values.specs.declared.value.Scalar.TheVariants as scalars
use Rattle.mof_syntax.specs.Characters.{digit_of, stop}
use Rattle.mof_syntax.specs.Scanning.{after}
use Rattle.mof_syntax.specs.Tokens.{Identifier, identifier}
use Rattle.config_script.specs.Fronts.{keyword_front, quoted_front, text_front, digits_front, constant_front, scalar_front}
use Rattle.config_script.specs.Lexing.{taken}
use Rattle.config_script.specs.Scripts.{name_in, scalar_in}
use Rattle.config_script.specs.Tokens.{Magnitude, Token, Word, Text, Integer, True, False, Null, IsToken, word, verbatim, quoted, unsigned, negative, true_constant, false_constant, null_constant}
use Rattle.config_script.specs.Tokens as tokens
use Rattle.config_script.proofs.Lexed.{runs}
use Rattle.config_script.proofs.Cuts.{Cut, Never, cut_on, cut_here, cut_end, Key, key_self, key_cut, key_word, word_key, Verb, verbatim_cut, Quoted, quoted_cut, Whole, digits_cut}

-- the same where the first character is known
pub cut_first : (L M : List ℕ → List ℕ → Type 0) (c : ℕ) (cs out : List ℕ) → ((us r : List ℕ) → L us r → M us r) → ((us r : List ℕ) → M (c ∷ us) r → L (c ∷ us) r)
    → Cut L (c ∷ cs) out → Cut M (c ∷ cs) out
cut_first L M c cs out f g k = record {
  front = k.front;
  split = k.split;
  others = k.others;
  whole = λ r. f (k.front ++ (k.others ++ 10 ∷ r)) (10 ∷ r) (k.whole r);
  stops = λ d us vs r e m. k.stops d us vs r e (back k.front d us vs r k.split e m);
}
  where
    back : (front : List ℕ) (d : ℕ) (us vs r : List ℕ) → c ∷ cs ≡ front ++ out → out ≡ d ∷ us → M (front ++ d ∷ vs) r → L (front ++ d ∷ vs) r
    back [] d us vs r s e m =
        let same : c ≡ d = cc in
        subst (λ (x : ℕ). L (x ∷ vs) r) same (g vs r (subst (λ (x : ℕ). M (x ∷ vs) r) (sym same) m))
    back (x ∷ fr) d us vs r s e m =
        let same : c ≡ x = cc in
        subst (λ (y : ℕ). L (y ∷ (fr ++ d ∷ vs)) r) same (g (fr ++ d ∷ vs) r (subst (λ (y : ℕ). M (y ∷ (fr ++ d ∷ vs)) r) (sym same) m))

equal_to : (c d : ℕ) → (c == d) ≡ true → c ≡ d
equal_to c d e = grind (arith, nat_tests)

both : (b : Bool) → b ≡ true → b ≡ false → ⊥
both b t f = true≢false (sym t ∙ f)

first_is : (c : ℕ) (cs name r : List ℕ) → Identifier (c ∷ cs) name r → is_first c ≡ true
first_is c cs name r (identifier d us tail q e run s) = e

digit_is : (c : ℕ) (cs : List ℕ) (n : ℕ) (r : List ℕ) → Magnitude (c ∷ cs) n r → digit_of 10 c ≡ true
digit_is c cs n r (tokens.nought x) = refl
digit_is c cs n r (tokens.digits d us ds x nz e run) = e

-- ---- names

abbrev pub Name : List ℕ → List ℕ → Type 0
Name cs r = (t : Token) × (name : List ℕ) × IsToken cs t r × (name_in t ≡ Some name)

name_verbatim : (us r : List ℕ) (t : Token) (name : List ℕ) → IsToken (39 ∷ us) t r → name_in t ≡ Some name → Verb us r
name_verbatim us r t name (word xs n q i) e = absurd (both (is_first 39) (first_is 39 us n q i) refl)
name_verbatim us r t name (verbatim xs text q v) e = (text, v)
name_verbatim us r t name i e = cc

name_quoted : (us r : List ℕ) (t : Token) (name : List ℕ) → IsToken (34 ∷ us) t r → name_in t ≡ Some name → Quoted us r
name_quoted us r t name (word xs n q i) e = absurd (both (is_first 34) (first_is 34 us n q i) refl)
name_quoted us r t name (quoted xs text q v) e = (text, v)
name_quoted us r t name i e = cc

name_first : (c : ℕ) (us r : List ℕ) (t : Token) (name : List ℕ) → IsToken (c ∷ us) t r → name_in t ≡ Some name → (c == 39) ≡ false → (c == 34) ≡ false
    → is_first c ≡ true
name_first c us r t name (word xs n q i) e f g = first_is c us n q i
name_first c us r t name (verbatim xs text q v) e f g = absurd (both (39 == 39) refl f)
name_first c us r t name (quoted xs text q v) e f g = absurd (both (34 == 34) refl g)
name_first c us r t name i e f g = cc

empty_text : (r : List ℕ) → IsToken (34 ∷ 34 ∷ 10 ∷ r) (Text []) (10 ∷ r)
empty_text r = quoted (34 ∷ 10 ∷ r) [] (10 ∷ r) (stop (34 ∷ 10 ∷ r))

pub name_cut : (c : ℕ) (cs : List ℕ) → Never Name (c ∷ cs) → Cut Name (c ∷ cs) (text_front (c ∷ cs))
name_cut c cs lacks = by (c == 39) (c == 34) refl refl
  where
    by : (a b : Bool) → (c == 39) ≡ a → (c == 34) ≡ b → Cut Name (c ∷ cs) (cond a [] (cond b (quoted_front cs) (c ∷ cs)))
    by true b e f = subst (λ (x : ℕ). Cut Name (x ∷ cs) []) (sym (equal_to c 39 e)) (cut_on Verb Name 39 cs []
        (λ us r v. (Text v.0, v.0, verbatim us v.0 r v.1, refl)) (λ us r n. name_verbatim us r n.0 n.1 n.2 n.3)
        (verbatim_cut cs (λ r v. lacks r (subst (λ (x : ℕ). Name (x ∷ cs) r) (sym (equal_to c 39 e)) (Text v.0, v.0, verbatim cs v.0 r v.1, refl)))))
    by false true e f = subst (λ (x : ℕ). Cut Name (x ∷ cs) (quoted_front cs)) (sym (equal_to c 34 f)) (cut_on Quoted Name 34 cs (quoted_front cs)
        (λ us r v. (Text v.0, v.0, quoted us v.0 r v.1, refl)) (λ us r n. name_quoted us r n.0 n.1 n.2 n.3)
        (quoted_cut cs (λ r v. lacks r (subst (λ (x : ℕ). Name (x ∷ cs) r) (sym (equal_to c 34 f)) (Text v.0, v.0, quoted cs v.0 r v.1, refl)))))
    by false false e f = cut_here Name c cs (34 ∷ 34 ∷ []) (λ r. (Text [], [], empty_text r, refl))
        (λ vs r n. lacks (after is_next cs) (
          Word (c ∷ taken is_next cs),
          c ∷ taken is_next cs,
          word (c ∷ cs) (c ∷ taken is_next cs) (after is_next cs)
              (identifier c cs (taken is_next cs) (after is_next cs) (name_first c vs r n.0 n.1 n.2 n.3 e f) (runs is_next cs).0 (runs is_next cs).1),
          refl,
        ))

-- ---- scalars

abbrev pub One : List ℕ → List ℕ → Type 0
One cs r = (t : Token) × (s : Scalar) × IsToken cs t r × (scalar_in t ≡ Some s)

-- after the dollar sign of one
abbrev Constant : List ℕ → List ℕ → Type 0
Constant cs r = One (36 ∷ cs) r

true_on : (cs r : List ℕ) → Key (codes "true") cs r → Constant cs r
true_on cs r k = let w = key_word 116 (codes "rue") cs r refl k in (True, scalars.Bool true, true_constant cs w.0 r w.1 w.2, refl)

false_on : (cs r : List ℕ) → Key (codes "false") cs r → Constant cs r
false_on cs r k = let w = key_word 102 (codes "alse") cs r refl k in (False, scalars.Bool false, false_constant cs w.0 r w.1 w.2, refl)

null_on : (cs r : List ℕ) → Key (codes "null") cs r → Constant cs r
null_on cs r k = let w = key_word 110 (codes "ull") cs r refl k in (Null, scalars.Null, null_constant cs w.0 r w.1 w.2, refl)

abbrev AnyKey : List ℕ → List ℕ → Type 0
AnyKey cs r = Key (codes "true") cs r ⊎ (Key (codes "false") cs r ⊎ Key (codes "null") cs r)

constant_key : (cs r : List ℕ) (t : Token) (s : Scalar) → IsToken (36 ∷ cs) t r → scalar_in t ≡ Some s → AnyKey cs r
constant_key cs r t s (word xs n q i) e = cc
constant_key cs r t s (unsigned xs n q m x) e = absurd (both (digit_of 10 36) (digit_is 36 cs n q m) refl)
constant_key cs r t s (true_constant xs name q i same) e = inl (word_key xs name q (codes "true") i same)
constant_key cs r t s (false_constant xs name q i same) e = inr (inl (word_key xs name q (codes "false") i same))
constant_key cs r t s (null_constant xs name q i same) e = inr (inr (word_key xs name q (codes "null") i same))

clash : (x a b : ℕ) → (x == a) ≡ true → (x == b) ≡ true → (a == b) ≡ false → ⊥
clash x a b e f g = grind (arith, nat_tests)

null_whole : (r : List ℕ) → Constant (codes "null" ++ 10 ∷ r) (10 ∷ r)
null_whole r = null_on (codes "null" ++ 10 ∷ r) (10 ∷ r) (key_self (codes "null") r refl)

constant_cut : (cs : List ℕ) → Never Constant cs → Cut Constant cs (constant_front cs)
constant_cut [] lacks = cut_end Constant (codes "null") null_whole
constant_cut (c ∷ cs) lacks = by (to_ascii_lowercase c == 116) (to_ascii_lowercase c == 102) (to_ascii_lowercase c == 110) refl refl refl
  where
    key_true : (us r : List ℕ) → (to_ascii_lowercase c == 116) ≡ true → AnyKey (c ∷ us) r → Key (codes "rue") us r
    key_true us r e (inl k) = k.1
    key_true us r e (inr (inl k)) = absurd (clash (to_ascii_lowercase c) 116 102 e k.0 refl)
    key_true us r e (inr (inr k)) = absurd (clash (to_ascii_lowercase c) 116 110 e k.0 refl)

    key_false : (us r : List ℕ) → (to_ascii_lowercase c == 102) ≡ true → AnyKey (c ∷ us) r → Key (codes "alse") us r
    key_false us r e (inl k) = absurd (clash (to_ascii_lowercase c) 102 116 e k.0 refl)
    key_false us r e (inr (inl k)) = k.1
    key_false us r e (inr (inr k)) = absurd (clash (to_ascii_lowercase c) 102 110 e k.0 refl)

    key_null : (us r : List ℕ) → (to_ascii_lowercase c == 110) ≡ true → AnyKey (c ∷ us) r → Key (codes "ull") us r
    key_null us r e (inl k) = absurd (clash (to_ascii_lowercase c) 110 116 e k.0 refl)
    key_null us r e (inr (inl k)) = absurd (clash (to_ascii_lowercase c) 110 102 e k.0 refl)
    key_null us r e (inr (inr k)) = k.1

    none_key : (us r : List ℕ) → (to_ascii_lowercase c == 116) ≡ false → (to_ascii_lowercase c == 102) ≡ false → (to_ascii_lowercase c == 110) ≡ false
        → AnyKey (c ∷ us) r → ⊥
    none_key us r e f g (inl k) = both (to_ascii_lowercase c == 116) k.0 e
    none_key us r e f g (inr (inl k)) = both (to_ascii_lowercase c == 102) k.0 f
    none_key us r e f g (inr (inr k)) = both (to_ascii_lowercase c == 110) k.0 g

    by : (a b d : Bool) → (to_ascii_lowercase c == 116) ≡ a → (to_ascii_lowercase c == 102) ≡ b → (to_ascii_lowercase c == 110) ≡ d
        → Cut Constant (c ∷ cs) (cond a (cond (to_ascii_lowercase c == 116) (keyword_front (codes "rue") cs) (c ∷ cs))
        (cond b (cond (to_ascii_lowercase c == 102) (keyword_front (codes "alse") cs) (c ∷ cs))
        (cond d (cond (to_ascii_lowercase c == 110) (keyword_front (codes "ull") cs) (c ∷ cs)) (c ∷ cs))))
    by true b d e f g = rw e (cut_on (Key (codes "rue")) Constant c cs (keyword_front (codes "rue") cs)
        (λ us r k. true_on (c ∷ us) r (e, k)) (λ us r k. key_true us r e (constant_key (c ∷ us) r k.0 k.1 k.2 k.3))
        (key_cut (codes "rue") cs refl (λ r k. lacks r (true_on (c ∷ cs) r (e, k)))))
    by false true d e f g = rw f (cut_on (Key (codes "alse")) Constant c cs (keyword_front (codes "alse") cs)
        (λ us r k. false_on (c ∷ us) r (f, k)) (λ us r k. key_false us r f (constant_key (c ∷ us) r k.0 k.1 k.2 k.3))
        (key_cut (codes "alse") cs refl (λ r k. lacks r (false_on (c ∷ cs) r (f, k)))))
    by false false true e f g = rw g (cut_on (Key (codes "ull")) Constant c cs (keyword_front (codes "ull") cs)
        (λ us r k. null_on (c ∷ us) r (g, k)) (λ us r k. key_null us r g (constant_key (c ∷ us) r k.0 k.1 k.2 k.3))
        (key_cut (codes "ull") cs refl (λ r k. lacks r (null_on (c ∷ cs) r (g, k)))))
    by false false false e f g = cut_here Constant c cs (codes "null") null_whole
        (λ vs r k. none_key vs r e f g (constant_key (c ∷ vs) r k.0 k.1 k.2 k.3))

one_negative : (us r : List ℕ) (t : Token) (s : Scalar) → IsToken (45 ∷ us) t r → scalar_in t ≡ Some s → Whole us r
one_negative us r t s (word xs n q i) e = cc
one_negative us r t s (unsigned xs n q m x) e = absurd (both (digit_of 10 45) (digit_is 45 us n q m) refl)
one_negative us r t s (negative xs n q m x) e = (n, m, x)

one_digits : (c : ℕ) (us r : List ℕ) (t : Token) (s : Scalar) → IsToken (c ∷ us) t r → scalar_in t ≡ Some s → digit_of 10 c ≡ true → Whole (c ∷ us) r
one_digits c us r t s (word xs n q i) e d = cc
one_digits c us r t s (unsigned xs n q m x) e d = (n, m, x)
one_digits c us r t s (verbatim xs text q v) e d = absurd (both (digit_of 10 39) d refl)
one_digits c us r t s (quoted xs text q v) e d = absurd (both (digit_of 10 34) d refl)
one_digits c us r t s (negative xs n q m x) e d = absurd (both (digit_of 10 45) d refl)
one_digits c us r t s (true_constant xs name q i same) e d = absurd (both (digit_of 10 36) d refl)
one_digits c us r t s (false_constant xs name q i same) e d = absurd (both (digit_of 10 36) d refl)
one_digits c us r t s (null_constant xs name q i same) e d = absurd (both (digit_of 10 36) d refl)
one_digits c us r t s i e d = cc

one_verbatim : (us r : List ℕ) (t : Token) (s : Scalar) → IsToken (39 ∷ us) t r → scalar_in t ≡ Some s → Verb us r
one_verbatim us r t s (word xs n q i) e = cc
one_verbatim us r t s (verbatim xs text q v) e = (text, v)
one_verbatim us r t s (unsigned xs n q m x) e = absurd (both (digit_of 10 39) (digit_is 39 us n q m) refl)

one_quoted : (us r : List ℕ) (t : Token) (s : Scalar) → IsToken (34 ∷ us) t r → scalar_in t ≡ Some s → Quoted us r
one_quoted us r t s (word xs n q i) e = cc
one_quoted us r t s (quoted xs text q v) e = (text, v)
one_quoted us r t s (unsigned xs n q m x) e = absurd (both (digit_of 10 34) (digit_is 34 us n q m) refl)

one_no : (c : ℕ) (us r : List ℕ) (t : Token) (s : Scalar) → IsToken (c ∷ us) t r → scalar_in t ≡ Some s
    → (c == 36) ≡ false → (c == 45) ≡ false → digit_of 10 c ≡ false → (c == 39) ≡ false → (c == 34) ≡ false → ⊥
one_no c us r t s (word xs n q i) e f g h k l = cc
one_no c us r t s (verbatim xs text q v) e f g h k l = both (39 == 39) refl k
one_no c us r t s (quoted xs text q v) e f g h k l = both (34 == 34) refl l
one_no c us r t s (unsigned xs n q m x) e f g h k l = both (digit_of 10 c) (digit_is c us n q m) h
one_no c us r t s (negative xs n q m x) e f g h k l = both (45 == 45) refl g
one_no c us r t s (true_constant xs name q i same) e f g h k l = both (36 == 36) refl f
one_no c us r t s (false_constant xs name q i same) e f g h k l = both (36 == 36) refl f
one_no c us r t s (null_constant xs name q i same) e f g h k l = both (36 == 36) refl f
one_no c us r t s i e f g h k l = cc

one_text : (c : ℕ) (cs : List ℕ) → (c == 36) ≡ false → (c == 45) ≡ false → digit_of 10 c ≡ false → Never One (c ∷ cs) → Cut One (c ∷ cs) (text_front (c ∷ cs))
one_text c cs h k l lacks = by (c == 39) (c == 34) refl refl
  where
    by : (a b : Bool) → (c == 39) ≡ a → (c == 34) ≡ b → Cut One (c ∷ cs) (cond a [] (cond b (quoted_front cs) (c ∷ cs)))
    by true b e f = subst (λ (x : ℕ). Cut One (x ∷ cs) []) (sym (equal_to c 39 e)) (cut_on Verb One 39 cs []
        (λ us r v. (Text v.0, scalars.Text v.0, verbatim us v.0 r v.1, refl)) (λ us r n. one_verbatim us r n.0 n.1 n.2 n.3)
        (verbatim_cut cs (λ r v. lacks r (subst (λ (x : ℕ). One (x ∷ cs) r) (sym (equal_to c 39 e)) (Text v.0, scalars.Text v.0, verbatim cs v.0 r v.1, refl)))))
    by false true e f = subst (λ (x : ℕ). Cut One (x ∷ cs) (quoted_front cs)) (sym (equal_to c 34 f)) (cut_on Quoted One 34 cs (quoted_front cs)
        (λ us r v. (Text v.0, scalars.Text v.0, quoted us v.0 r v.1, refl)) (λ us r n. one_quoted us r n.0 n.1 n.2 n.3)
        (quoted_cut cs (λ r v. lacks r (subst (λ (x : ℕ). One (x ∷ cs) r) (sym (equal_to c 34 f)) (Text v.0, scalars.Text v.0, quoted cs v.0 r v.1, refl)))))
    by false false e f = cut_here One c cs (34 ∷ 34 ∷ []) (λ r. (Text [], scalars.Text [], empty_text r, refl))
        (λ vs r n. one_no c vs r n.0 n.1 n.2 n.3 h k l e f)

negative_on : (us r : List ℕ) → Whole us r → One (45 ∷ us) r
negative_on us r w = (Integer (neg_ℤ (pos w.0)), scalars.Integer (neg_ℤ (pos w.0)), negative us w.0 r w.1 w.2, refl)

unsigned_on : (us r : List ℕ) → Whole us r → One us r
unsigned_on us r w = (Integer (pos w.0), scalars.Integer (pos w.0), unsigned us w.0 r w.1 w.2, refl)

pub one_cut : (c : ℕ) (cs : List ℕ) → Never One (c ∷ cs) → Cut One (c ∷ cs) (scalar_front (c ∷ cs))
one_cut c cs lacks = by (c == 36) (c == 45) (digit_of 10 c) refl refl refl
  where
    by : (a b d : Bool) → (c == 36) ≡ a → (c == 45) ≡ b → digit_of 10 c ≡ d
        → Cut One (c ∷ cs) (cond a (constant_front cs) (cond b (digits_front cs) (cond d (digits_front (c ∷ cs)) (text_front (c ∷ cs)))))
    by true b d e f g = subst (λ (x : ℕ). Cut One (x ∷ cs) (constant_front cs)) (sym (equal_to c 36 e))
        (cut_on Constant One 36 cs (constant_front cs) (λ us r k. k) (λ us r k. k)
        (constant_cut cs (λ r k. lacks r (subst (λ (x : ℕ). One (x ∷ cs) r) (sym (equal_to c 36 e)) k))))
    by false true d e f g = subst (λ (x : ℕ). Cut One (x ∷ cs) (digits_front cs)) (sym (equal_to c 45 f))
        (cut_on Whole One 45 cs (digits_front cs) negative_on (λ us r n. one_negative us r n.0 n.1 n.2 n.3)
        (digits_cut cs (λ r w. lacks r (subst (λ (x : ℕ). One (x ∷ cs) r) (sym (equal_to c 45 f)) (negative_on cs r w)))))
    by false false true e f g = cut_first Whole One c cs (digits_front (c ∷ cs)) unsigned_on (λ us r n. one_digits c us r n.0 n.1 n.2 n.3 g)
        (digits_cut (c ∷ cs) (λ r w. lacks r (unsigned_on (c ∷ cs) r w)))
    by false false false e f g = one_text c cs e f g lacks
