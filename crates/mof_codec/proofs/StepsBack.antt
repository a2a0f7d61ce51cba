-- What the machine takes, the grammar allows.
use Rattle.std.proofs.Common.{◌≡◌, inl, inr, ℕ, zero, suc, ◌+◌, ◌*◌, Bool, true, false, List, [], ◌∷◌, Option, Some, None, is_some, drop, refl, sym, ◌∙◌, ap, subst, arith}
use Rattle.std.specs.Prelude.{nat_le, ◌==◌, ◌&&◌, ◌||◌}
use Rattle.std.proofs.lemmas.Bool.{eqb-true}
use Rattle.std.proofs.lemmas.Bool.Decides.{nat_tests}
use Rattle.std.proofs.lemmas.List.{drop-drop}
use Rattle.std.specs.Char.{digit_value, to_ascii_lowercase}
use Rattle.mof_values.specs.Fold.{fold_case}
use Rattle.mof_values.specs.Ident.{is_first, is_next}
use Rattle.mof_syntax.specs.Characters.{digit_of, is_x, is_b, Run, stop, more}
use Rattle.mof_syntax.specs.Separators.{at_end, at_feed, over, NoEnd, shut, inside, blank, line, block}
use Rattle.mof_syntax.specs.Strings.{short_escape, is_surrogate, full, ended, digit, short, hexadecimal, Quoted, closed, plain, escaped}
use Rattle.mof_syntax.specs.Integers.{Magnitude, octal_value, hex_value, binary_value}
use Rattle.mof_syntax.specs.Tokens.{Lexeme, identifier, end, separator}
use Rattle.mof_codec.specs.declared.machine.state.Keyword.{Keyword}
use Rattle.mof_codec.specs.declared.machine.state.Keyword.TheVariants as keywords
use Rattle.mof_codec.specs.declared.machine.state.Place.{Place}
use Rattle.mof_codec.specs.declared.machine.state.Place.TheVariants.{Start}
use Rattle.mof_codec.specs.declared.machine.state.Numeral.{Numeral}
use Rattle.mof_codec.specs.declared.machine.state.Numeral.TheVariants as numerals
use Rattle.mof_codec.specs.declared.machine.state.Half.{Half}
use Rattle.mof_codec.specs.declared.machine.state.Half.TheVariants as halves
use Rattle.mof_codec.specs.declared.machine.state.State.{State}
use Rattle.mof_codec.specs.declared.machine.state.Event.{Event}
use Rattle.mof_codec.specs.declared.machine.state.Event.TheVariants as events
use Rattle.mof_codec.specs.Machine.{letters, is_no_char, go, begin, gapped, keyed, first_letter, number_begun, value_word, scalar_begun, numbered, step, is_whole, kind_of, opened, quoted, digit_on, key_on, key_read, head_of}
use Rattle.mof_codec.specs.Machine as machine
use Rattle.mof_codec.specs.Walked.{tally}
use Rattle.mof_syntax.proofs.Bodies.{and_left, and_right}
use Rattle.mof_codec.proofs.Runs.{Next, Whole, Runs, After, split, bit_digit, bit_octal}
use Rattle.mof_codec.proofs.Forward.{drop_one}
use Rattle.mof_codec.proofs.Left.{Common, From, AdmitsInteger, Admits, Along, BitsLeft, Numbered, NumberLeft, TextLeft, DigitsLeft, Left, NextLeft}
use Rattle.mof_codec.proofs.TokensBack.{number_begun_back, keyed_back, begin_back, no_name, ended_back}

char_fine : (v : ℕ) → is_no_char v ≡ false → is_surrogate v ≡ false
char_fine v h = or_left (is_surrogate v) (nat_le 65536 v) h
  where
    or_left : (a b : Bool) → (a || b) ≡ false → a ≡ false
    or_left true b e = e
    or_left false b e = refl

hex_fine : (d : ℕ) → digit_of 16 d ≡ true → is_surrogate (digit_value d) ≡ false
hex_fine d h = grind (arith, nat_tests)

-- a keyword's letters are small letters
abbrev pub small : List ℕ → Bool
small [] = true
small (l ∷ ls) = nat_le 97 l && (nat_le l 122 && small ls)

pub small_letters : (k : Keyword) → small (letters k) ≡ true
small_letters keywords.Instance = refl
small_letters keywords.Of = refl
small_letters keywords.As = refl
small_letters keywords.True = refl
small_letters keywords.False = refl
small_letters keywords.Null = refl

pub small_dropped : (n : ℕ) (xs : List ℕ) → small xs ≡ true → small (drop n xs) ≡ true
small_dropped zero xs h = h
small_dropped (suc n) [] h = refl
small_dropped (suc n) (x ∷ xs) h = small_dropped n xs (and_right (nat_le x 122) (small xs) (and_right (nat_le 97 x) (nat_le x 122 && small xs) h))

small_next : (c l : ℕ) (ls : List ℕ) → to_ascii_lowercase c ≡ l → small (l ∷ ls) ≡ true → is_next c ≡ true
small_next c l ls e h =
    let low : nat_le 97 l ≡ true = and_left (nat_le 97 l) (nat_le l 122 && small ls) h in
    let high : nat_le l 122 ≡ true = and_left (nat_le l 122) (small ls) (and_right (nat_le 97 l) (nat_le l 122 && small ls) h) in
    let low2 : nat_le 97 (to_ascii_lowercase c) ≡ true = ap (λ (x : ℕ). nat_le 97 x) e ∙ low in
    let high2 : nat_le (to_ascii_lowercase c) 122 ≡ true = ap (λ (x : ℕ). nat_le x 122) e ∙ high in
    lower_next c low2 high2
  where
    lower_next : (c : ℕ) → nat_le 97 (to_ascii_lowercase c) ≡ true → nat_le (to_ascii_lowercase c) 122 ≡ true → is_next c ≡ true
    lower_next c a b = grind (arith, nat_tests)

nil_read : (xs : List ℕ) → key_read (head_of xs) ≡ true → [] ≡ xs
nil_read [] e = refl
nil_read (x ∷ xs) e = absurd cc

no_star : (c : ℕ) (cs : List ℕ) → (c == 42) ≡ false → NoEnd c cs
no_star c [] e = tt
no_star c (d ∷ cs) e = rw e refl

module _ (T : Lexeme → Type 0) (common : Common T) where
  number_end : (f : Numeral) (p : Place) (c : ℕ) (cs : List ℕ) → AdmitsInteger T p (c ∷ cs) → Numbered f (c ∷ cs) (c ∷ cs) → NextLeft T (machine.ended p c) cs → NumberLeft T f p (c ∷ cs)
  number_end f p c cs a is h = let l = ended_back T common p c cs a h in (c ∷ cs, is, l.0, l.1)

  binary_mark : (c : ℕ) (cs rest : List ℕ) → is_b c ≡ true → cs ≡ rest → BitsLeft (c ∷ cs) rest
  binary_mark c cs rest isb e = ([], c, subst (λ (x : List ℕ). Run (digit_of 2) (c ∷ cs) [] (c ∷ x)) e (stop (c ∷ cs)), isb)

  another_bit : (c : ℕ) (cs rest : List ℕ) → digit_of 2 c ≡ true → BitsLeft cs rest → BitsLeft (c ∷ cs) rest
  another_bit c cs rest e bits = (c ∷ bits.0, bits.1, more c cs bits.0 (bits.1 ∷ rest) e bits.2, bits.3)

  zero_binary : (cs rest : List ℕ) → BitsLeft cs rest → (n : ℕ) × Magnitude (48 ∷ cs) n rest
  zero_binary cs rest bits = (_, binary_value 48 bits.1 (48 ∷ cs) bits.0 rest (more 48 cs bits.0 (bits.1 ∷ rest) refl bits.2) bits.3)

  numbered_back : (f : Numeral) (p : Place) (c : ℕ) (cs : List ℕ) → AdmitsInteger T p (c ∷ cs) → NextLeft T (numbered f p c) cs → NumberLeft T f p (c ∷ cs)
  numbered_back numerals.Sign p c cs a h = number_begun_back T common p c cs events.Quiet p h
  numbered_back numerals.Zero p c cs a h = elim (split (is_x c) _ _ (λ f r e. Left T f r cs) h) [
    | inl is ↦ (is.1.0, is.1.1 c is.0, is.1.2, is.1.3)
    | inr no_x ↦ elim (split (digit_of 2 c) _ _ (λ f r e. Left T f r cs) no_x.1) [
      | inl is ↦ (
        is.1.0,
        elim is.1.1 [
          | inl run ↦ (_, octal_value (c ∷ cs) (c ∷ run.0) is.1.0 (more c cs run.0 is.1.0 (bit_octal c is.0) run.1))
          | inr bits ↦ zero_binary (c ∷ cs) is.1.0 (another_bit c cs is.1.0 is.0 bits)
        ],
        is.1.2,
        is.1.3,
      )
      | inr no_bit ↦ elim (split (digit_of 8 c) _ _ (λ f r e. Left T f r cs) no_bit.1) [
        | inl is ↦ (is.1.0, (_, octal_value (c ∷ cs) (c ∷ is.1.1.0) is.1.0 (more c cs is.1.1.0 is.1.0 is.0 is.1.1.1)), is.1.2, is.1.3)
        | inr no_octal ↦ elim (split (is_b c) _ _ (λ f r e. Left T f r cs) no_octal.1) [
          | inl is ↦ (is.1.0, zero_binary (c ∷ cs) is.1.0 (binary_mark c cs is.1.0 is.0 is.1.1), is.1.2, is.1.3)
          | inr after ↦ number_end numerals.Zero p c cs a (_, octal_value (c ∷ cs) [] (c ∷ cs) (stop (c ∷ cs))) after.1
        ]
      ]
    ]
  ]
  numbered_back numerals.ZeroBits p c cs a h = elim (split (digit_of 2 c) _ _ (λ f r e. Left T f r cs) h) [
    | inl is ↦ (
      is.1.0,
      elim is.1.1 [
        | inl run ↦ inl (c ∷ run.0, more c cs run.0 is.1.0 (bit_octal c is.0) run.1)
        | inr bits ↦ inr (another_bit c cs is.1.0 is.0 bits)
      ],
      is.1.2,
      is.1.3,
    )
    | inr no_bit ↦ elim (split (digit_of 8 c) _ _ (λ f r e. Left T f r cs) no_bit.1) [
      | inl is ↦ (is.1.0, inl (c ∷ is.1.1.0, more c cs is.1.1.0 is.1.0 is.0 is.1.1.1), is.1.2, is.1.3)
      | inr no_octal ↦ elim (split (is_b c) _ _ (λ f r e. Left T f r cs) no_octal.1) [
        | inl is ↦ (is.1.0, inr (binary_mark c cs is.1.0 is.0 is.1.1), is.1.2, is.1.3)
        | inr after ↦ number_end numerals.ZeroBits p c cs a (inl ([], stop (c ∷ cs))) after.1
      ]
    ]
  ]
  numbered_back numerals.Octal p c cs a h = elim (split (digit_of 8 c) _ _ (λ f r e. Left T f r cs) h) [
    | inl is ↦ (is.1.0, (c ∷ is.1.1.0, more c cs is.1.1.0 is.1.0 is.0 is.1.1.1), is.1.2, is.1.3)
    | inr after ↦ number_end numerals.Octal p c cs a ([], stop (c ∷ cs)) after.1
  ]
  numbered_back numerals.Bits p c cs a h = elim (split (digit_of 2 c) _ _ (λ f r e. Left T f r cs) h) [
    | inl is ↦ (
      is.1.0,
      elim is.1.1 [
        | inl run ↦ inl (c ∷ run.0, more c cs run.0 is.1.0 (bit_digit c is.0) run.1)
        | inr bits ↦ inr (another_bit c cs is.1.0 is.0 bits)
      ],
      is.1.2,
      is.1.3,
    )
    | inr no_bit ↦ elim (split (digit_of 10 c) _ _ (λ f r e. Left T f r cs) no_bit.1) [
      | inl is ↦ (is.1.0, inl (c ∷ is.1.1.0, more c cs is.1.1.0 is.1.0 is.0 is.1.1.1), is.1.2, is.1.3)
      | inr no_digit ↦ elim (split (is_b c) _ _ (λ f r e. Left T f r cs) no_digit.1) [
        | inl is ↦ (is.1.0, inr (binary_mark c cs is.1.0 is.0 is.1.1), is.1.2, is.1.3)
        | inr after ↦ number_end numerals.Bits p c cs a (inl ([], stop (c ∷ cs))) after.1
      ]
    ]
  ]
  numbered_back numerals.Decimal p c cs a h = elim (split (digit_of 10 c) _ _ (λ f r e. Left T f r cs) h) [
    | inl is ↦ (is.1.0, (c ∷ is.1.1.0, more c cs is.1.1.0 is.1.0 is.0 is.1.1.1), is.1.2, is.1.3)
    | inr after ↦ number_end numerals.Decimal p c cs a ([], stop (c ∷ cs)) after.1
  ]
  numbered_back numerals.Prefix p c cs a h = elim (split (digit_of 16 c) _ _ (λ f r e. Left T f r cs) h) [
    | inl is ↦ (is.1.0, λ x ex. (_, hex_value x c (c ∷ cs) is.1.1.0 is.1.0 ex (more c cs is.1.1.0 is.1.0 is.0 is.1.1.1)), is.1.2, is.1.3)
    | inr after ↦ absurd after.1
  ]
  numbered_back numerals.Hexadecimal p c cs a h = elim (split (digit_of 16 c) _ _ (λ f r e. Left T f r cs) h) [
    | inl is ↦ (is.1.0, (c ∷ is.1.1.0, more c cs is.1.1.0 is.1.0 is.0 is.1.1.1), is.1.2, is.1.3)
    | inr after ↦ number_end numerals.Hexadecimal p c cs a ([], stop (c ∷ cs)) after.1
  ]
  numbered_back numerals.Binary p c cs a h = number_end numerals.Binary p c cs a refl h

  quoted_back : (p : Place) (c : ℕ) (cs : List ℕ) → NextLeft T (quoted p c) cs → TextLeft T p (c ∷ cs)
  quoted_back p c cs h = elim (split (c == 34) _ _ (λ f r e. Left T f r cs) h) [
    | inl is ↦ ([], cs, subst (λ (x : ℕ). Quoted (x ∷ cs) [] cs) (sym (eqb-true c 34 is.0)) (closed cs), is.1)
    | inr no_quote ↦ elim (split (c == 92) _ _ (λ f r e. Left T f r cs) no_quote.1) [
      | inl is ↦ subst (λ (x : ℕ). TextLeft T p (x ∷ cs)) (sym (eqb-true c 92 is.0)) is.1
      | inr other ↦ (c ∷ other.1.0, other.1.1, plain c cs other.1.0 other.1.1 no_quote.0 other.0 other.1.2, other.1.3)
    ]
  ]

  digit_back : (n v : ℕ) (p : Place) (c : ℕ) (cs : List ℕ) → is_surrogate v ≡ false → NextLeft T (digit_on n v p c) cs → DigitsLeft T n v p (c ∷ cs)
  digit_back zero v p c cs ok h = (v, c ∷ cs, full v (c ∷ cs), ok, quoted_back p c cs h)
  digit_back (suc n) v p c cs ok h = elim (split (digit_of 16 c) _ _ (λ f r e. Left T f r cs) h) [
    | inl is ↦ elim (split (is_no_char (v * 16 + digit_value c)) _ _ (λ f r e. Left T f r cs) is.1) [
      | inl surrogate ↦ absurd surrogate.1
      | inr fine ↦ let l = fine.1 (char_fine (v * 16 + digit_value c) fine.0) in (l.0, l.1, digit n v c l.0 cs l.1 is.0 l.2, l.3, l.4)
    ]
    | inr not ↦ (v, c ∷ cs, ended (suc n) v (c ∷ cs) not.0, ok, quoted_back p c cs not.1)
  ]

  key_back : (ls : List ℕ) (k : Keyword) (n : ℕ) (p : Place) (c : ℕ) (cs : List ℕ) → AdmitsInteger T p (c ∷ cs) → drop n (letters k) ≡ ls → NextLeft T (key_on (head_of ls) k n p c) cs → Left T (halves.Key k n) p (c ∷ cs)
  key_back [] k n p c cs a e h = let l = ended_back T common p c cs a h in ([], c ∷ cs, stop (c ∷ cs), sym e, l.0, l.1)
  key_back (l ∷ ls) k n p c cs a e h =
      let was = keyed_back T common p c cs events.Quiet l ls k n p h in
      let left = was.1 in
      let letter = subst (λ (x : List ℕ). small x ≡ true) e (small_dropped n (letters k) (small_letters k)) in (
        c ∷ left.0,
        left.1,
        more c cs left.0 left.1 (small_next c l ls was.0 letter) left.2,
        ap (λ (x : ℕ). x ∷ fold_case left.0) was.0 ∙ ap (λ (x : List ℕ). l ∷ x) (left.3 ∙ drop_one k n l ls e) ∙ sym e,
        left.4,
        left.5,
      )

  short_here : (p : Place) (c : ℕ) (cs : List ℕ) → (o : Option ℕ) → short_escape c ≡ o → is_some o ≡ true → TextLeft T p cs → TextLeft T p (92 ∷ c ∷ cs)
  short_here p c cs None e some l = absurd (differ some)
    where
      differ : false ≡ true → ⊥
      differ e = cc
  short_here p c cs (Some v) e some l = (v ∷ l.0, l.1, escaped v (c ∷ cs) cs l.0 l.1 (short c v cs e) l.2, l.3)

  -- a character that is stepped over may stand there
  back : (h : Half) (p : Place) (c : ℕ) (cs : List ℕ) → Admits T h p (c ∷ cs) → NextLeft T (step h p c) cs → Left T h p (c ∷ cs)
  back halves.Gap p c cs a h = begin_back T common p c cs a.0 a.1 h
  back halves.Slash p c cs a h = elim (split (c == 47) _ _ (λ f r e. Left T f r cs) h) [
    | inl is ↦
        let l = is.1.2 in
        subst (λ (x : ℕ). From T p (47 ∷ x ∷ cs)) (sym (eqb-true c 47 is.0)) (l.0, separator (47 ∷ 47 ∷ cs) is.1.0 l.0 (line cs is.1.0 is.1.1) l.1, l.2, l.3)
    | inr not ↦ elim (split (c == 42) _ _ (λ f r e. Left T f r cs) not.1) [
      | inl is ↦
          let l = is.1.2 in
          subst (λ (x : ℕ). From T p (47 ∷ x ∷ cs)) (sym (eqb-true c 42 is.0)) (l.0, separator (47 ∷ 42 ∷ cs) is.1.0 l.0 (block cs is.1.0 is.1.1) l.1, l.2, l.3)
      | inr none ↦ absurd none.1
    ]
  ]
  back halves.Line p c cs a h = elim (split (c == 10) _ _ (λ f r e. Left T f r cs) h) [
    | inl is ↦
        subst (λ (x : ℕ). Left T halves.Line p (x ∷ cs)) (sym (eqb-true c 10 is.0))
        (10 ∷ cs, at_feed cs, (is.1.0, separator (10 ∷ cs) cs is.1.0 (blank 10 cs refl) is.1.1, is.1.2, is.1.3))
    | inr not ↦ (not.1.0, over c cs not.1.0 not.0 not.1.1, not.1.2)
  ]
  back halves.Block p c cs a h = elim (split (c == 42) _ _ (λ f r e. Left T f r cs) h) [
    | inl is ↦ subst (λ (x : ℕ). Left T halves.Block p (x ∷ cs)) (sym (eqb-true c 42 is.0)) is.1
    | inr not ↦ (not.1.0, inside c cs not.1.0 (no_star c cs not.0) not.1.1, not.1.2)
  ]
  back halves.Star p c cs a h = elim (split (c == 47) _ _ (λ f r e. Left T f r cs) h) [
    | inl is ↦ subst (λ (x : ℕ). Left T halves.Star p (x ∷ cs)) (sym (eqb-true c 47 is.0)) (cs, shut cs, is.1)
    | inr no_slash ↦ elim (split (c == 42) _ _ (λ f r e. Left T f r cs) no_slash.1) [
      | inl is ↦ subst (λ (x : ℕ). Left T halves.Star p (x ∷ cs)) (sym (eqb-true c 42 is.0)) (is.1.0, inside 42 (42 ∷ cs) is.1.0 refl is.1.1, is.1.2)
      | inr not ↦ (not.1.0, inside 42 (c ∷ cs) not.1.0 no_slash.0 (inside c cs not.1.0 (no_star c cs not.0) not.1.1), not.1.2)
    ]
  ]
  back halves.Name p c cs a h = elim (split (is_next c) _ _ (λ f r e. Left T f r cs) h) [
    | inl is ↦ (c ∷ is.1.0, is.1.1, more c cs is.1.0 is.1.1 is.0 is.1.2, is.1.3, is.1.4)
    | inr not ↦ ([], c ∷ cs, stop (c ∷ cs), not.0, begin_back T common p c cs a (no_name T common p c cs not.0) not.1)
  ]
  back halves.Alias p c cs a h = elim (split (is_first c) _ _ (λ f r e. Left T f r cs) h) [
    | inl is ↦
        let l = is.1 in
        let name = identifier c cs l.0 l.1 is.0 l.2 l.3 in
        (c ∷ l.0, l.1, name, a (c ∷ l.0) l.1 name, l.4)
    | inr none ↦ absurd none.1
  ]
  back (halves.Key k n) p c cs a h = key_back (drop n (letters k)) k n p c cs a refl h
  back (halves.Integer f) p c cs a h = numbered_back f p c cs a h
  back halves.Literal p c cs a h = quoted_back p c cs h
  back halves.Escape p c cs a h = elim (split (is_some (short_escape c)) _ _ (λ f r e. Left T f r cs) h) [
    | inl is ↦ short_here p c cs (short_escape c) refl is.0 is.1
    | inr not ↦ elim (split (is_x c) _ _ (λ f r e. Left T f r cs) not.1) [
      | inl is ↦ is.1 c is.0
      | inr none ↦ absurd none.1
    ]
  ]
  back halves.EscapeX p c cs a h = elim (split (digit_of 16 c) _ _ (λ f r e. Left T f r cs) h) [
    | inl is ↦ λ x ex.
        let l = is.1 (hex_fine c is.0) in
        let t = l.4 in
        (l.0 ∷ t.0, t.1, escaped l.0 (x ∷ c ∷ cs) l.1 t.0 t.1 (hexadecimal x c l.0 cs l.1 ex is.0 l.2 l.3) t.2, t.3)
    | inr none ↦ absurd none.1
  ]
  back (halves.Digits n v) p c cs a h = λ ok. digit_back n v p c cs ok h

  start_left : From T Start []
  start_left = ([], end, tt, tt)

  at_start : (h : Half) → is_whole h ≡ true → Left T h Start []
  at_start halves.Gap e = start_left
  at_start halves.Line e = ([], at_end, start_left)
  at_start halves.Name e = ([], [], stop [], tt, start_left)
  at_start (halves.Key k n) e = ([], [], stop [], nil_read (drop n (letters k)) e, tt, start_left)
  at_start (halves.Integer numerals.Zero) e = ([], (_, octal_value [] [] [] (stop [])), tt, start_left)
  at_start (halves.Integer numerals.ZeroBits) e = ([], inl ([], stop []), tt, start_left)
  at_start (halves.Integer numerals.Octal) e = ([], ([], stop []), tt, start_left)
  at_start (halves.Integer numerals.Bits) e = ([], inl ([], stop []), tt, start_left)
  at_start (halves.Integer numerals.Decimal) e = ([], ([], stop []), tt, start_left)
  at_start (halves.Integer numerals.Hexadecimal) e = ([], ([], stop []), tt, start_left)
  at_start (halves.Integer numerals.Binary) e = ([], refl, tt, start_left)
  at_start h e = absurd cc

  whole_left : (h : Half) (p : Place) → Whole h p → Left T h p []
  whole_left h p w = subst (λ (x : Place). Left T h x []) (sym w.0) (at_start h w.1)

  next_left : (E : List Event → Type 0) (s : Option State) (cs : List ℕ) (acc : List Event)
      → ((h : Half) (p : Place) (a : List Event) → Along T cs h p → Runs E cs h p a → Left T h p cs)
      → Next s (λ k q e. Along T cs k q) → Next s (After E cs acc) → NextLeft T s cs
  next_left E None cs acc f along h = h
  next_left E (Some s) cs acc f along h = f s.half s.place (tally s.begun acc) along h

  -- what the machine takes from a state on, the grammar allows
  pub left_runs : (E : List Event → Type 0) (cs : List ℕ) (h : Half) (p : Place) (acc : List Event) → Along T cs h p → Runs E cs h p acc → Left T h p cs
  left_runs E [] h p acc along r = whole_left h p r.0
  left_runs E (c ∷ cs) h p acc along r = back h p c cs along.0 (next_left E (step h p c) cs acc (left_runs E cs) along.1 r)
