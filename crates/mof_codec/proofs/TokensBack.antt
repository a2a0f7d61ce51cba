-- A token that the machine steps into at a place is one that the rules allow there.
use Rattle.std.proofs.Common.{◌≡◌, inl, inr, ℕ, ◌+◌, true, false, List, ◌∷◌, Some, drop, refl, sym, ◌∙◌, ap, subst, arith}
use Rattle.std.specs.Prelude.{◌==◌, ℤ, pos, neg_ℤ}
use Rattle.std.proofs.lemmas.Bool.{eqb-true}
use Rattle.std.proofs.lemmas.Bool.Decides.{nat_tests}
use Rattle.std.specs.Char.{to_ascii_lowercase}
use Rattle.mof_values.specs.Fold.{fold_case}
use Rattle.mof_values.specs.Ident.{is_first, is_next}
use Rattle.mof_syntax.specs.Characters.{digit_of, Stops, more, is_sign}
use Rattle.mof_syntax.specs.Separators.{blank}
use Rattle.mof_syntax.specs.Integers.{Magnitude, decimal_value, binary_value, IntegerValue, unsigned, plus, minus}
use Rattle.mof_syntax.specs.Tokens.{Lexeme, Word, AliasName, Literal, Number, LeftBrace, RightBrace, EqualsSign, Semicolon, Comma, Identifier, identifier, IsToken, word, alias, literal, integer, left_brace_mark, right_brace_mark, equals_mark, semicolon_mark, comma_mark, separator, token}
use Rattle.mof_codec.specs.declared.machine.state.Keyword.{Keyword}
use Rattle.mof_codec.specs.declared.machine.state.Keyword.TheVariants as keywords
use Rattle.mof_codec.specs.declared.machine.state.Place.{Place}
use Rattle.mof_codec.specs.declared.machine.state.Place.TheVariants.{Start, AfterInstance, AfterOf, AfterClass, AfterAs, AfterAlias, Body, AfterBody, AfterName, AfterEquals, AfterStrings, AfterValue, InArray, AfterComma, AfterElementStrings, AfterElement}
use Rattle.mof_codec.specs.declared.machine.state.Numeral.TheVariants as numerals
use Rattle.mof_codec.specs.declared.machine.characters.Kind.{Kind}
use Rattle.mof_codec.specs.declared.machine.characters.Kind.TheVariants as kinds
use Rattle.mof_codec.specs.declared.machine.state.Half.TheVariants as halves
use Rattle.mof_codec.specs.declared.machine.state.Event.{Event}
use Rattle.mof_codec.specs.declared.machine.state.Event.TheVariants as events
use Rattle.mof_codec.specs.Machine.{letters, is_no_char, go, begin, gapped, keyed, first_letter, number_begun, value_word, scalar_begun, numbered, step, is_whole, kind_of, opened, quoted, digit_on, key_on, key_read, head_of}
use Rattle.mof_codec.specs.Machine as machine
use Rattle.mof_codec.proofs.Goes.{Goes, IsKey, IsWordValue, ScalarGoes}
use Rattle.mof_syntax.proofs.Scans.{test_or}
use Rattle.mof_codec.proofs.Runs.{split, first_next, Says, kind_says}
use Rattle.mof_codec.specs.Beginnings.{scalar_place, name_place}
use Rattle.mof_codec.proofs.Left.{Common, From, AdmitsInteger, AdmitsName, WordLeft, NumberLeft, TextLeft, Left, NextLeft}

module _ (T : Lexeme → Type 0) (common : Common T) where
  module _ (p : Place) (c : ℕ) (cs : List ℕ) where
    -- one token of the place
    token_back : (q : Place) (t : Lexeme) (rest : List ℕ) → IsToken (c ∷ cs) t rest → T t → From T q rest → ((ts : List Lexeme) → Goes q ts → Goes p (t ∷ ts)) → From T p (c ∷ cs)
    token_back q t rest is wanted left goes = (t ∷ left.0, token (c ∷ cs) t rest left.0 is left.1, goes left.0 left.2, (wanted, left.3))

    open_back : c ≡ 123 → (q : Place) → From T q cs → ((ts : List Lexeme) → Goes q ts → Goes p (LeftBrace ∷ ts)) → From T p (c ∷ cs)
    open_back e q = token_back q LeftBrace cs (subst (λ (x : ℕ). IsToken (x ∷ cs) LeftBrace cs) (sym e) (left_brace_mark cs)) common.left_brace

    close_back : c ≡ 125 → (q : Place) → From T q cs → ((ts : List Lexeme) → Goes q ts → Goes p (RightBrace ∷ ts)) → From T p (c ∷ cs)
    close_back e q = token_back q RightBrace cs (subst (λ (x : ℕ). IsToken (x ∷ cs) RightBrace cs) (sym e) (right_brace_mark cs)) common.right_brace

    equals_back : c ≡ 61 → (q : Place) → From T q cs → ((ts : List Lexeme) → Goes q ts → Goes p (EqualsSign ∷ ts)) → From T p (c ∷ cs)
    equals_back e q = token_back q EqualsSign cs (subst (λ (x : ℕ). IsToken (x ∷ cs) EqualsSign cs) (sym e) (equals_mark cs)) common.equals_sign

    semicolon_back : c ≡ 59 → (q : Place) → From T q cs → ((ts : List Lexeme) → Goes q ts → Goes p (Semicolon ∷ ts)) → From T p (c ∷ cs)
    semicolon_back e q = token_back q Semicolon cs (subst (λ (x : ℕ). IsToken (x ∷ cs) Semicolon cs) (sym e) (semicolon_mark cs)) common.semicolon

    comma_back : c ≡ 44 → (q : Place) → From T q cs → ((ts : List Lexeme) → Goes q ts → Goes p (Comma ∷ ts)) → From T p (c ∷ cs)
    comma_back e q = token_back q Comma cs (subst (λ (x : ℕ). IsToken (x ∷ cs) Comma cs) (sym e) (comma_mark cs)) common.comma

    identifier_of : is_first c ≡ true → (q : Place) (l : WordLeft T q cs) → Identifier (c ∷ cs) (c ∷ l.0) l.1
    identifier_of first q l = identifier c cs l.0 l.1 first l.2 l.3

    name_back : is_first c ≡ true → name_place p ≡ true → AdmitsName T p (c ∷ cs) → (q : Place) → WordLeft T q cs → ((w : List ℕ) (ts : List Lexeme) → Goes q ts → Goes p (Word w ∷ ts)) → From T p (c ∷ cs)
    name_back first allowed admits q l goes =
        let is = identifier_of first q l in
        token_back q (Word (c ∷ l.0)) l.1 (word (c ∷ cs) (c ∷ l.0) l.1 is) (admits allowed (c ∷ l.0) l.1 is) l.4 (goes (c ∷ l.0))

    dollar_back : c ≡ 36 → (q : Place) → Left T halves.Alias q cs → ((w : List ℕ) (ts : List Lexeme) → Goes q ts → Goes p (AliasName w ∷ ts)) → From T p (c ∷ cs)
    dollar_back e q l goes =
        token_back q (AliasName l.0) l.1 (subst (λ (x : ℕ). IsToken (x ∷ cs) (AliasName l.0) l.1) (sym e) (alias cs l.0 l.1 l.2)) l.3 l.4 (goes l.0)

    quote_back : c ≡ 34 → (q : Place) → TextLeft T q cs → ((t : List ℕ) (ts : List Lexeme) → Goes q ts → Goes p (Literal t ∷ ts)) → From T p (c ∷ cs)
    quote_back e q l goes = token_back q (Literal l.0) l.1 (subst (λ (x : ℕ). IsToken (x ∷ cs) (Literal l.0) l.1) (sym e) (literal cs l.0 l.1 l.2)) (common.literal l.0) l.3 (goes l.0)

    -- an integer
    module _ (scalar : scalar_place p ≡ true) (admits : AdmitsInteger T p (c ∷ cs)) (q : Place) (goes : (z : ℤ) (ts : List Lexeme) → Goes q ts → Goes p (Number z ∷ ts)) where
      integer_back : (z : ℤ) (rest : List ℕ) → IntegerValue (c ∷ cs) z rest → Stops is_next rest → From T q rest → From T p (c ∷ cs)
      integer_back z rest is stops left = token_back q (Number z) rest (integer (c ∷ cs) z rest is stops) (admits scalar z rest is stops) left (goes z)

      sign_back : is_sign c ≡ true → NumberLeft T numerals.Sign q cs → From T p (c ∷ cs)
      sign_back e l = elim (test_or (c == 43)) [
        | inl is ↦ integer_back (pos l.1.0) l.0 (subst (λ (x : ℕ). IntegerValue (x ∷ cs) (pos l.1.0) l.0) (sym (eqb-true c 43 is)) (plus cs l.1.0 l.0 l.1.1)) l.2 l.3
        | inr no_plus ↦
            let is : (c == 45) ≡ true = minus_is e no_plus in
            integer_back (neg_ℤ (pos l.1.0)) l.0 (subst (λ (x : ℕ). IntegerValue (x ∷ cs) (neg_ℤ (pos l.1.0)) l.0) (sym (eqb-true c 45 is)) (minus cs l.1.0 l.0 l.1.1)) l.2 l.3
      ]
        where
          minus_is : is_sign c ≡ true → (c == 43) ≡ false → (c == 45) ≡ true
          minus_is e n = grind (arith, nat_tests)

    -- the first digit
    pub number_begun_back : (b : Event) (q : Place) → NextLeft T (number_begun b q c) cs → NumberLeft T numerals.Sign q (c ∷ cs)
    number_begun_back b q h = elim (split (c == 48) _ _ (λ f r e. Left T f r cs) h) [
      | inl is ↦ (is.1.0, (is.1.1.0, subst (λ (x : ℕ). Magnitude (x ∷ cs) is.1.1.0 is.1.0) (sym (eqb-true c 48 is.0)) is.1.1.1), is.1.2, is.1.3)
      | inr no_zero ↦ elim (split (c == 49) _ _ (λ f r e. Left T f r cs) no_zero.1) [
        | inl is ↦
            let ten : digit_of 10 c ≡ true = grind (arith, nat_tests, is.0) in
            let bit : digit_of 2 c ≡ true = grind (arith, nat_tests, is.0) in (
              is.1.0,
              elim is.1.1 [
                | inl run ↦ (_, decimal_value c cs run.0 is.1.0 no_zero.0 ten run.1)
                | inr bits ↦ (_, binary_value c bits.1 (c ∷ cs) bits.0 is.1.0 (more c cs bits.0 (bits.1 ∷ is.1.0) bit bits.2) bits.3)
              ],
              is.1.2,
              is.1.3,
            )
        | inr no_one ↦ elim (split (digit_of 10 c) _ _ (λ f r e. Left T f r cs) no_one.1) [
          | inl is ↦ (is.1.0, (_, decimal_value c cs is.1.1.0 is.1.0 no_zero.0 is.0 is.1.1.1), is.1.2, is.1.3)
          | inr none ↦ absurd none.1
        ]
      ]
    ]

    -- keywords

    pub keyed_back : (b : Event) (l : ℕ) (ls : List ℕ) (k : Keyword) (n : ℕ) (q : Place) → NextLeft T (keyed (Some l) b k n q c) cs → (to_ascii_lowercase c ≡ l) × Left T (halves.Key k (n + 1)) q cs
    keyed_back b l ls k n q h = elim (split (to_ascii_lowercase c == l) _ _ (λ f r e. Left T f r cs) h) [
      | inl is ↦ (eqb-true (to_ascii_lowercase c) l is.0, is.1)
      | inr other ↦ absurd other.1
    ]

    word_back : (k : Keyword) (l : ℕ) (ls : List ℕ) → letters k ≡ l ∷ ls → drop 1 (letters k) ≡ ls → is_first c ≡ true → (q : Place) → (to_ascii_lowercase c ≡ l) × Left T (halves.Key k 1) q cs
        → ((w : List ℕ) (ts : List Lexeme) → IsKey k w → Goes q ts → Goes p (Word w ∷ ts)) → From T p (c ∷ cs)
    word_back k l ls e1 e2 first q h goes =
        let l1 = h.1 in
        let same : IsKey k (c ∷ l1.0) = ap (λ (x : ℕ). x ∷ fold_case l1.0) h.0 ∙ ap (λ (x : List ℕ). l ∷ x) (l1.3 ∙ e2) ∙ sym e1 in
        token_back q (Word (c ∷ l1.0)) l1.1 (word (c ∷ cs) (c ∷ l1.0) l1.1 (identifier c cs l1.0 l1.1 first l1.2 l1.4)) (common.keyword k (c ∷ l1.0) same) l1.5 (λ ts g. goes (c ∷ l1.0) ts same g)

    value_back : (b : Event) → is_first c ≡ true → (q : Place) → NextLeft T (value_word b q c) cs → ((w : List ℕ) (ts : List Lexeme) → IsWordValue w → Goes q ts → Goes p (Word w ∷ ts)) → From T p (c ∷ cs)
    value_back b first q h goes = elim (split (to_ascii_lowercase c == 116) _ _ (λ f r e. Left T f r cs) h) [
      | inl is ↦ word_back keywords.True 116 _ refl refl first q (eqb-true (to_ascii_lowercase c) 116 is.0, is.1) (λ w ts k g. goes w ts (inl k) g)
      | inr no_true ↦ elim (split (to_ascii_lowercase c == 102) _ _ (λ f r e. Left T f r cs) no_true.1) [
        | inl is ↦ word_back keywords.False 102 _ refl refl first q (eqb-true (to_ascii_lowercase c) 102 is.0, is.1) (λ w ts k g. goes w ts (inr (inl k)) g)
        | inr no_false ↦ elim (split (to_ascii_lowercase c == 110) _ _ (λ f r e. Left T f r cs) no_false.1) [
          | inl is ↦ word_back keywords.Null 110 _ refl refl first q (eqb-true (to_ascii_lowercase c) 110 is.0, is.1) (λ w ts k g. goes w ts (inr (inr k)) g)
          | inr none ↦ absurd none.1
        ]
      ]
    ]

    digit_begun_back : (b : Event) → scalar_place p ≡ true → AdmitsInteger T p (c ∷ cs) → (q : Place) → NextLeft T (number_begun b q c) cs → ((z : ℤ) (ts : List Lexeme) → Goes q ts → Goes p (Number z ∷ ts)) → From T p (c ∷ cs)
    digit_begun_back b scalar admits q h goes =
        let l = number_begun_back b q h in
        integer_back scalar admits q goes (pos l.1.0) l.0 (unsigned (c ∷ cs) l.1.0 l.0 l.1.1) l.2 l.3

    module _ (b : Event) (s q : Place) (scalar : scalar_place p ≡ true) (admits : AdmitsInteger T p (c ∷ cs)) (goes : (t : Lexeme) (ts : List Lexeme) → ScalarGoes t (Goes s ts) (Goes q ts) → Goes p (t ∷ ts)) where
      scalar_back : (k : Kind) → Says k c → NextLeft T (scalar_begun b s q k c) cs → From T p (c ∷ cs)
      scalar_back kinds.Letter is h = value_back b is q h (λ w ts v g. goes (Word w) ts (v, g))
      scalar_back kinds.Digit is h = digit_begun_back b scalar admits q h (λ z ts g. goes (Number z) ts g)
      scalar_back kinds.Sign is h = sign_back scalar admits q (λ z ts g. goes (Number z) ts g) is h
      scalar_back kinds.Quote is h = quote_back is s h (λ t ts g. goes (Literal t) ts g)
      scalar_back kinds.Dollar is h = dollar_back is q h (λ w ts g. goes (AliasName w) ts g)
      scalar_back k is h = absurd h

  equals_goes : (t : Lexeme) (ts : List Lexeme) → ScalarGoes t (Goes AfterStrings ts) (Goes AfterValue ts) → Goes AfterEquals (t ∷ ts)
  equals_goes LeftBrace ts g = absurd g
  equals_goes t ts g = g

  array_goes : (t : Lexeme) (ts : List Lexeme) → ScalarGoes t (Goes AfterElementStrings ts) (Goes AfterElement ts) → Goes InArray (t ∷ ts)
  array_goes RightBrace ts g = absurd g
  array_goes t ts g = g

  opened_back : (p : Place) (k : Kind) (c : ℕ) (cs : List ℕ) → AdmitsInteger T p (c ∷ cs) → AdmitsName T p (c ∷ cs) → Says k c → NextLeft T (opened p k c) cs → From T p (c ∷ cs)
  opened_back Start kinds.Letter c cs a n is h = word_back Start c cs keywords.Instance 105 _ refl refl is AfterInstance (keyed_back Start c cs events.Declaration 105 (drop 1 (letters keywords.Instance)) keywords.Instance 0 AfterInstance h) (λ w ts k g. (k, g))
  opened_back AfterInstance kinds.Letter c cs a n is h = word_back AfterInstance c cs keywords.Of 111 _ refl refl is AfterOf (keyed_back AfterInstance c cs events.Quiet 111 (drop 1 (letters keywords.Of)) keywords.Of 0 AfterOf h) (λ w ts k g. (k, g))
  opened_back AfterOf kinds.Letter c cs a n is h = name_back AfterOf c cs is refl n AfterClass h (λ w ts g. g)
  opened_back AfterClass kinds.LeftBrace c cs a n is h = open_back AfterClass c cs is Body h (λ ts g. g)
  opened_back AfterClass kinds.Letter c cs a n is h = word_back AfterClass c cs keywords.As 97 _ refl refl is AfterAs (keyed_back AfterClass c cs events.Quiet 97 (drop 1 (letters keywords.As)) keywords.As 0 AfterAs h) (λ w ts k g. (k, g))
  opened_back AfterAs kinds.Dollar c cs a n is h = dollar_back AfterAs c cs is AfterAlias h (λ w ts g. g)
  opened_back AfterAlias kinds.LeftBrace c cs a n is h = open_back AfterAlias c cs is Body h (λ ts g. g)
  opened_back Body kinds.RightBrace c cs a n is h = close_back Body c cs is AfterBody h (λ ts g. g)
  opened_back Body kinds.Letter c cs a n is h = name_back Body c cs is refl n AfterName h (λ w ts g. g)
  opened_back AfterBody kinds.Semicolon c cs a n is h = semicolon_back AfterBody c cs is Start h (λ ts g. g)
  opened_back AfterName kinds.EqualsSign c cs a n is h = equals_back AfterName c cs is AfterEquals h (λ ts g. g)
  opened_back AfterEquals kinds.LeftBrace c cs a n is h = open_back AfterEquals c cs is InArray h (λ ts g. g)
  opened_back AfterEquals k c cs a n is h = scalar_back AfterEquals c cs events.Quiet AfterStrings AfterValue refl a equals_goes k is h
  opened_back AfterStrings kinds.Quote c cs a n is h = quote_back AfterStrings c cs is AfterStrings h (λ t ts g. g)
  opened_back AfterStrings kinds.Semicolon c cs a n is h = semicolon_back AfterStrings c cs is Body h (λ ts g. g)
  opened_back AfterValue kinds.Semicolon c cs a n is h = semicolon_back AfterValue c cs is Body h (λ ts g. g)
  opened_back InArray kinds.RightBrace c cs a n is h = close_back InArray c cs is AfterValue h (λ ts g. g)
  opened_back InArray k c cs a n is h = scalar_back InArray c cs events.Element AfterElementStrings AfterElement refl a array_goes k is h
  opened_back AfterComma k c cs a n is h = scalar_back AfterComma c cs events.Element AfterElementStrings AfterElement refl a (λ t ts g. g) k is h
  opened_back AfterElementStrings kinds.Quote c cs a n is h = quote_back AfterElementStrings c cs is AfterElementStrings h (λ t ts g. g)
  opened_back AfterElementStrings kinds.Comma c cs a n is h = comma_back AfterElementStrings c cs is AfterComma h (λ ts g. g)
  opened_back AfterElementStrings kinds.RightBrace c cs a n is h = close_back AfterElementStrings c cs is AfterValue h (λ ts g. g)
  opened_back AfterElement kinds.Comma c cs a n is h = comma_back AfterElement c cs is AfterComma h (λ ts g. g)
  opened_back AfterElement kinds.RightBrace c cs a n is h = close_back AfterElement c cs is AfterValue h (λ ts g. g)
  opened_back p k c cs a n is h = absurd h

  gapped_back : (p : Place) (k : Kind) (c : ℕ) (cs : List ℕ) → AdmitsInteger T p (c ∷ cs) → AdmitsName T p (c ∷ cs) → Says k c → NextLeft T (gapped p k c) cs → From T p (c ∷ cs)
  gapped_back p kinds.Blank c cs a n is h = (h.0, separator (c ∷ cs) cs h.0 (blank c cs is) h.1, h.2, h.3)
  gapped_back p kinds.Slash c cs a n is h = subst (λ (x : ℕ). From T p (x ∷ cs)) (sym is) h
  gapped_back p k c cs a n is h = opened_back p k c cs a n is h

  pub begin_back : (p : Place) (c : ℕ) (cs : List ℕ) → AdmitsInteger T p (c ∷ cs) → AdmitsName T p (c ∷ cs) → NextLeft T (begin p c) cs → From T p (c ∷ cs)
  unfolding begin
  begin_back p c cs a n h = gapped_back p (kind_of c) c cs a n (kind_says c) h

  -- after an identifier character that does not go on no name begins
  pub no_name : (p : Place) (c : ℕ) (cs : List ℕ) → is_next c ≡ false → AdmitsName T p (c ∷ cs)
  no_name p c cs stops allowed name rest is = absurd (first_clash c cs name rest is stops)
    where
      clash : true ≡ false → ⊥
      clash e = cc

      first_clash : (c : ℕ) (cs name rest : List ℕ) → Identifier (c ∷ cs) name rest → is_next c ≡ false → ⊥
      first_clash c cs name rest (identifier d us w r first run s) e = clash (sym (first_next d first) ∙ e)

  pub ended_back : (p : Place) (c : ℕ) (cs : List ℕ) → AdmitsInteger T p (c ∷ cs) → NextLeft T (machine.ended p c) cs → (is_next c ≡ false) × From T p (c ∷ cs)
  ended_back p c cs a h = elim (split (is_next c) _ _ (λ f r e. Left T f r cs) h) [
    | inl is ↦ absurd is.1
    | inr not ↦ (not.0, begin_back p c cs a (no_name p c cs not.0) not.1)
  ]
