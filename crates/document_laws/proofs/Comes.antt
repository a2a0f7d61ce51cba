-- Where the machine comes to over a front of characters that divide into tokens: between tokens what is left divides into
-- tokens, and after a dollar sign an identifier is left, and these tokens are as is wanted where all are.
use Rattle.std.proofs.Common.{◌≡◌, inl, inr, ℕ, zero, suc, ◌+◌, ◌*◌, Bool, true, List, [], ◌∷◌, ◌++◌, Option, Some, None, is_some, refl, sym, ap, subst, ◌∙◌, arith}
use Rattle.std.specs.Char.{digit_value}
use Rattle.std.specs.List.{AllByRecursion}
use Rattle.std.specs.Prelude.{◌==◌, ℤ}
use Rattle.std.proofs.lemmas.Bool.{eqb-true}
use Rattle.std.proofs.lemmas.Bool.Decides.{nat_tests}
use Rattle.std.proofs.lemmas.Option.{same_Some}
use Rattle.mof_values.specs.Ident.{is_first, is_next}
use Rattle.mof_syntax.specs.Characters.{Run, Stops, digit_of, is_b, is_x, more, stop}
use Rattle.mof_syntax.specs.Integers.{IntegerValue, Magnitude, binary_value, decimal_value, hex_value, minus, octal_value, plus, unsigned}
use Rattle.mof_syntax.specs.Separators.{BlockComment, LineComment, NoEnd, Separator, at_end, at_feed, blank, block, inside, line, over, shut}
use Rattle.mof_syntax.specs.Strings.{Escape as IsEscape, HexDigits, Quoted, closed, digit, ended, escaped, full, hexadecimal, plain, short, short_escape}
use Rattle.mof_syntax.specs.Tokens.{AliasName, Identifier, IsToken, Lexeme, Lexes, alias, comma_mark, end, equals_mark, identifier, integer, left_brace_mark, literal, right_brace_mark, semicolon_mark, separator, token, word}
use Rattle.mof_codec.specs.Machine.{digit_on, is_no_char, quoted, step}
use Rattle.mof_codec.specs.Walked.{AfterWalk, moved, tally, walk_from}
use Rattle.mof_syntax.proofs.Scans.{test_or}
use Rattle.mof_codec.proofs.Runs.{bit_digit, short_no_x}
use Rattle.mof_codec.proofs.Walking.{none_stays}
use Rattle.document_laws.proofs.States.{Alias, Block, Escape, EscapeX, Event, Gap, Half, Line, Literal, Place, Slash, Star, State}
use Rattle.document_laws.proofs.Halves.{InRun, Is, LeadsTo, in_binary, in_bits, in_decimal, in_hexadecimal, in_key, in_name, in_octal, in_prefix, in_sign, in_zero, in_zero_bits, blank_leads, chosen, comma_leads, digit_leads, dollar_leads, either, equals_leads, feed_same, is_other, left_brace_leads, letter_leads, other_chosen, quote_leads, right_brace_leads, semicolon_leads, sign_leads, slash_leads, run_ends, run_on}

-- ---- the characters of an integer

next_of_10 : (c : ℕ) → digit_of 10 c ≡ true → is_next c ≡ true
next_of_10 c h = grind (arith, nat_tests)

next_of_8 : (c : ℕ) → digit_of 8 c ≡ true → is_next c ≡ true
next_of_8 c h = grind (arith, nat_tests)

next_of_16 : (c : ℕ) → digit_of 16 c ≡ true → is_next c ≡ true
next_of_16 c h = grind (arith, nat_tests)

next_of_2 : (c : ℕ) → digit_of 2 c ≡ true → is_next c ≡ true
next_of_2 c h = grind (arith, nat_tests)

next_of_x : (c : ℕ) → is_x c ≡ true → is_next c ≡ true
next_of_x c h = grind (arith, nat_tests)

next_of_b : (c : ℕ) → is_b c ≡ true → is_next c ≡ true
next_of_b c h = grind (arith, nat_tests)

run_next : (p : ℕ → Bool) → ((c : ℕ) → p c ≡ true → is_next c ≡ true) → (cs ds rest : List ℕ) → Run p cs ds rest → Run is_next cs ds rest
run_next p next cs ds rest (stop r) = stop r
run_next p next cs ds rest (more c us v r is run) = more c us v r (next c is) (run_next p next us v r run)

run_more : (cs ds rest : List ℕ) (b : ℕ) → is_b b ≡ true → Run is_next cs ds (b ∷ rest) → (w : List ℕ) × Run is_next cs w rest
run_more cs ds rest b isb run = from (b ∷ rest) refl cs ds run
  where
    from : (mid : List ℕ) → mid ≡ b ∷ rest → (cs ds : List ℕ) → Run is_next cs ds mid → (w : List ℕ) × Run is_next cs w rest
    from mid e cs ds (stop r) = (b ∷ [], subst (λ (l : List ℕ). Run is_next l (b ∷ []) rest) (sym e) (more b rest [] rest (next_of_b b isb) (stop rest)))
    from mid e cs ds (more c us v r is run) = let on = from mid e us v run in (c ∷ on.0, more c us on.0 rest is on.1)

-- a digit, and characters that go on an identifier
record DigitFirst (cs rest : List ℕ) : Type 0 where
  first : ℕ
  others : List ℕ
  run : List ℕ
  split : cs ≡ first ∷ others
  is_digit : digit_of 10 first ≡ true
  goes_on : Run is_next others run rest

bits_first : (cs ds mid : List ℕ) → Run (digit_of 2) cs ds mid → (d : ℕ) (tail : List ℕ) → ds ≡ d ∷ tail → (b : ℕ) (rest : List ℕ) → mid ≡ b ∷ rest → is_b b ≡ true → DigitFirst cs rest
bits_first cs ds mid (stop r) d tail e b rest f isb = absurd (differ d tail e)
  where
    differ : (d : ℕ) (tail : List ℕ) → [] ≡ d ∷ tail → ⊥
    differ d tail e = cc
bits_first cs ds mid (more c us v r is run) d tail e b rest f isb =
    let whole = run_more us v rest b isb (subst (λ (l : List ℕ). Run is_next us v l) f (run_next (digit_of 2) next_of_2 us v r run)) in
    record { first = c; others = us; run = whole.0; split = refl; is_digit = bit_digit c is; goes_on = whole.1 }

magnitude_first : (cs : List ℕ) (n : ℕ) (rest : List ℕ) → Magnitude cs n rest → DigitFirst cs rest
magnitude_first cs n rest (decimal_value d us ds r no_zero is run) =
    record { first = d; others = us; run = ds; split = refl; is_digit = is; goes_on = run_next (digit_of 10) next_of_10 us ds r run }
magnitude_first cs n rest (octal_value us ds r run) =
    record { first = 48; others = us; run = ds; split = refl; is_digit = refl; goes_on = run_next (digit_of 8) next_of_8 us ds r run }
magnitude_first cs n rest (hex_value x d us ds r isx run) = record {
  first = 48;
  others = x ∷ us;
  run = x ∷ d ∷ ds;
  split = refl;
  is_digit = refl;
  goes_on = more x us (d ∷ ds) r (next_of_x x isx) (run_next (digit_of 16) next_of_16 us (d ∷ ds) r run);
}
magnitude_first cs n rest (binary_value d b us ds r run isb) = bits_first us (d ∷ ds) (b ∷ r) run d ds refl b r refl isb

first_same : (c d : ℕ) (cs ds : List ℕ) → c ∷ cs ≡ d ∷ ds → c ≡ d
first_same c d cs ds e = cc

rest_same : (c d : ℕ) (cs ds : List ℕ) → c ∷ cs ≡ d ∷ ds → cs ≡ ds
rest_same c d cs ds e = cc

module _ (T : Lexeme → Type 0) where
  -- what is left where the machine comes to a half state
  abbrev pub Leaves : Half → List ℕ → Type 0
  Leaves Gap left = (ts : List Lexeme) × Lexes left ts × AllByRecursion T ts
  Leaves Alias left = (name : List ℕ) × (rest : List ℕ) × Identifier left name rest × T (AliasName name)
  Leaves h left = Unit {0}

  -- so it is wherever the machine comes to from the state
  abbrev pub Comes : Half → Place → List ℕ → Type 0
  Comes h p cs =
      (front left : List ℕ) (begun : List Event) (b : AfterWalk) → cs ≡ front ++ left → walk_from (Some (record { half = h; place = p; begun = begun })) front ≡ Some b → Leaves b.half left

  abbrev EachPlace : Half → List ℕ → Type 0
  EachPlace h cs = (p : Place) → Comes h p cs

  in_run : (h : Half) (cs : List ℕ) → InRun h → Leaves h cs
  in_run h cs in_name = tt
  in_run h cs (in_key k n) = tt
  in_run h cs in_sign = tt
  in_run h cs in_zero = tt
  in_run h cs in_zero_bits = tt
  in_run h cs in_octal = tt
  in_run h cs in_bits = tt
  in_run h cs in_decimal = tt
  in_run h cs in_prefix = tt
  in_run h cs in_hexadecimal = tt
  in_run h cs in_binary = tt

  -- ---- steps

  stays : (h : Half) (p : Place) (cs left : List ℕ) (begun : List Event) (b : AfterWalk) → Leaves h cs → cs ≡ left → Some (record { half = h; place = p; begun = begun }) ≡ Some b → Leaves b.half left
  stays h p cs left begun b here split e =
      let half : h ≡ b.half = ap (λ (x : AfterWalk). x.half) (same_Some (record { half = h; place = p; begun = begun }) b e) in
      subst (λ (x : Half). Leaves x left) half (subst (λ (l : List ℕ). Leaves h l) split here)

  comes_end : (h : Half) (p : Place) → Leaves h [] → Comes h p []
  comes_end h p here [] left begun b split walk = stays h p [] left begun b here split walk
  comes_end h p here (d ∷ front) left begun b split walk = absurd (differ d (front ++ left) split)
    where
      differ : (d : ℕ) (l : List ℕ) → [] ≡ d ∷ l → ⊥
      differ d l e = cc

  module _ (h : Half) (p : Place) (c : ℕ) (cs : List ℕ) (here : Leaves h (c ∷ cs)) where
    none_comes : (front : List ℕ) (b : AfterWalk) → walk_from None front ≡ Some b → ⊥
    none_comes front b walk = clash (sym (none_stays front) ∙ walk)
      where
        clash : None ≡ Some b → ⊥
        clash e = cc

    comes_step : ((s : State) → step h p c ≡ Some s → Comes s.half s.place cs) → Comes h p (c ∷ cs)
    comes_step on [] left begun b split walk = stays h p (c ∷ cs) left begun b here split walk
    comes_step on (d ∷ front) left begun b split walk =
        let same : c ≡ d = first_same c d cs (front ++ left) split in
        from (step h p c) refl (rest_same c d cs (front ++ left) split) (subst (λ (x : ℕ). walk_from (moved (step h p x) begun) front ≡ Some b) (sym same) walk)
      where
        from : (o : Option State) → step h p c ≡ o → cs ≡ front ++ left → walk_from (moved o begun) front ≡ Some b → Leaves b.half left
        from None e rest walk = absurd (none_comes front b walk)
        from (Some s) e rest walk = on s e front left (tally s.begun begun) b rest walk

    comes_by : (P : Half → Type 0) → LeadsTo P (step h p c) → ((g : Half) → P g → EachPlace g cs) → Comes h p (c ∷ cs)
    comes_by P leads on = comes_step (λ s e. on s.half (subst (LeadsTo P) e leads) s.place)

    -- to a half state that the character alone determines
    comes_to : (g : Half) → LeadsTo (Is g) (step h p c) → EachPlace g cs → Comes h p (c ∷ cs)
    comes_to g leads on = comes_by (Is g) leads (λ x same q. subst (λ (y : Half). Comes y q cs) (sym same) (on q))

    -- as from another half state
    comes_as : (g : Half) → ((s : State) → step h p c ≡ Some s → step g p c ≡ Some s) → Comes g p (c ∷ cs) → Comes h p (c ∷ cs)
    comes_as g same on [] left begun b split walk = stays h p (c ∷ cs) left begun b here split walk
    comes_as g same on (d ∷ front) left begun b split walk =
        let first : c ≡ d = first_same c d cs (front ++ left) split in
        from (step h p c) refl (subst (λ (x : ℕ). walk_from (moved (step h p x) begun) front ≡ Some b) (sym first) walk) first
      where
        from : (o : Option State) → step h p c ≡ o → walk_from (moved o begun) front ≡ Some b → c ≡ d → Leaves b.half left
        from None e walk first = absurd (none_comes front b walk)
        from (Some s) e walk first =
            on (d ∷ front) left begun b split
            (subst (λ (x : ℕ). walk_from (moved (step g p x) begun) front ≡ Some b) first (subst (λ (o : Option State). walk_from (moved o begun) front ≡ Some b) (sym (same s e)) walk))

  -- ---- names, keywords and integers

  run_rest : (h : Half) (p : Place) (rest : List ℕ) → InRun h → Stops is_next rest → Comes Gap p rest → Comes h p rest
  run_rest h p [] i stops on = comes_end h p (in_run h [] i)
  run_rest h p (c ∷ cs) i stops on = comes_as h p c cs (in_run h (c ∷ cs) i) Gap (λ s e. run_ends p c s stops h i e) on

  run_comes : (cs w rest : List ℕ) → Run is_next cs w rest → Stops is_next rest → EachPlace Gap rest → (h : Half) (p : Place) → InRun h → Comes h p cs
  run_comes cs w rest (stop r) stops on h p i = run_rest h p r i stops (on p)
  run_comes cs w rest (more c us v r is run) stops on h p i =
      comes_step h p c us (in_run h (c ∷ us) i) (λ s e. run_comes us v r run stops on s.half s.place (subst (LeadsTo InRun) e (run_on p c is h i)))

  -- from the gap, where the first character leads into one
  opens_run : (p : Place) (c : ℕ) (cs w rest : List ℕ) → LeadsTo InRun (step Gap p c) → Run is_next cs w rest → Stops is_next rest → EachPlace Gap rest → Leaves Gap (c ∷ cs) → Comes Gap p (c ∷ cs)
  opens_run p c cs w rest leads run stops on here =
      comes_step Gap p c cs here (λ s e. run_comes cs w rest run stops on s.half s.place (subst (LeadsTo InRun) e leads))

  identifier_comes : (cs name rest : List ℕ) → Identifier cs name rest → EachPlace Gap rest → Leaves Gap cs → EachPlace Gap cs
  identifier_comes cs name rest (identifier c us w r first run stops) on here p = opens_run p c us w r (letter_leads p c first) run stops on here

  alias_comes : (cs name rest : List ℕ) → Identifier cs name rest → T (AliasName name) → EachPlace Gap rest → EachPlace Alias cs
  alias_comes cs name rest (identifier c us w r first run stops) wanted on p =
      comes_step Alias p c us (c ∷ w, r, identifier c us w r first run stops, wanted)
      (λ s e. run_comes us w r run stops on s.half s.place (subst (LeadsTo InRun) e (either InRun (is_first c) _ None in_name tt)))

  integer_comes : (cs : List ℕ) (z : ℤ) (rest : List ℕ) → IntegerValue cs z rest → Stops is_next rest → EachPlace Gap rest → Leaves Gap cs → EachPlace Gap cs
  integer_comes cs z rest (unsigned us n r m) stops on here p =
      let d = magnitude_first us n r m in
      subst (λ (l : List ℕ). Comes Gap p l) (sym d.split)
      (opens_run p d.first d.others d.run r (digit_leads p d.first d.is_digit) d.goes_on stops on (subst (λ (l : List ℕ). Leaves Gap l) d.split here))
  integer_comes cs z rest (plus us n r m) stops on here p =
      let d = magnitude_first us n r m in
      opens_run p 43 us (d.first ∷ d.run) r (sign_leads p 43 refl) (subst (λ (l : List ℕ). Run is_next l (d.first ∷ d.run) r) (sym d.split) (more d.first d.others d.run r (next_of_10 d.first d.is_digit) d.goes_on)) stops on here
  integer_comes cs z rest (minus us n r m) stops on here p =
      let d = magnitude_first us n r m in
      opens_run p 45 us (d.first ∷ d.run) r (sign_leads p 45 refl) (subst (λ (l : List ℕ). Run is_next l (d.first ∷ d.run) r) (sym d.split) (more d.first d.others d.run r (next_of_10 d.first d.is_digit) d.goes_on)) stops on here

  -- ---- literals

  -- after that many digits of an escape that may go on
  record InDigits (n v : ℕ) (h : Half) : Type 0 where
    steps : (p : Place) (c : ℕ) → step h p c ≡ digit_on n v p c
    nothing : (cs : List ℕ) → Leaves h cs

  -- where no digit comes next a character is what it is in the literal
  digits_over : (n v : ℕ) (h : Half) → InDigits n v h → (rest : List ℕ) → ((c : ℕ) (cs : List ℕ) (p : Place) → rest ≡ c ∷ cs → (s : State) → digit_on n v p c ≡ Some s → quoted p c ≡ Some s) → EachPlace Literal rest → EachPlace h rest
  digits_over n v h i [] same on p = comes_end h p (i.nothing [])
  digits_over n v h i (c ∷ cs) same on p = comes_as h p c cs (i.nothing (c ∷ cs)) Literal (λ s e. same c cs p refl s (sym (i.steps p c) ∙ e)) (on p)

  digits_rest : (n v : ℕ) (h : Half) → InDigits n v h → (rest : List ℕ) → Stops (digit_of 16) rest → EachPlace Literal rest → EachPlace h rest
  digits_rest zero v h i rest stops on = digits_over zero v h i rest (λ c cs p split s e. e) on
  digits_rest (suc n) v h i rest stops on =
      digits_over (suc n) v h i rest (λ c cs p split s e. is_other (digit_of 16 c) _ (quoted p c) s (subst (Stops (digit_of 16)) split stops) e) on

  digits_come : (n v w : ℕ) (cs rest : List ℕ) → HexDigits n v cs w rest → EachPlace Literal rest → (h : Half) → InDigits n v h → EachPlace h cs
  digits_come n v w cs rest (full u r) on h i = digits_over zero u h i r (λ c cs p split s e. e) on
  digits_come n v w cs rest (ended m u r stops) on h i = digits_rest m u h i r stops on
  digits_come n v w cs rest (digit m u d x us r is l) on h i = λ p.
      comes_by h p d us (i.nothing (d ∷ us)) (InDigits m (u * 16 + digit_value d))
      (subst (LeadsTo (InDigits m (u * 16 + digit_value d))) (sym (i.steps p d)) (chosen (InDigits m (u * 16 + digit_value d)) (digit_of 16 d) _ (quoted p d) is
      (either (InDigits m (u * 16 + digit_value d)) (is_no_char (u * 16 + digit_value d)) _ _ tt (record { steps = λ q c. refl; nothing = λ l. tt }))))
      (digits_come m (u * 16 + digit_value d) x us r l on)

  escape_comes : (cs : List ℕ) (value : ℕ) (rest : List ℕ) → IsEscape cs value rest → EachPlace Literal rest → EachPlace Escape cs
  escape_comes cs value rest (short e v r is) on = λ p.
      comes_to Escape p e r tt Literal (chosen (Is Literal) (is_some (short_escape e)) _ _ (ap is_some is) refl) on
  escape_comes cs value rest (hexadecimal x d v us r isx isd hs ok) on = λ p.
      comes_to Escape p x (d ∷ us) tt EscapeX
      (other_chosen (Is EscapeX) (is_some (short_escape x)) _ _ (short_no_x x isx) (chosen (Is EscapeX) (is_x x) _ None isx refl))
      (λ q. comes_by EscapeX q d us tt (InDigits 3 (digit_value d)) (chosen (InDigits 3 (digit_value d)) (digit_of 16 d) _ None isd (record { steps = λ x c. refl; nothing = λ l. tt })) (digits_come 3 (digit_value d) v us r hs on))

  quoted_comes : (cs text rest : List ℕ) → Quoted cs text rest → EachPlace Gap rest → EachPlace Literal cs
  quoted_comes cs text rest (closed r) on = λ p. comes_to Literal p 34 r tt Gap refl on
  quoted_comes cs text rest (plain c us t r no_quote no_escape q) on = λ p.
      comes_to Literal p c us tt Literal
      (other_chosen (Is Literal) (c == 34) _ _ no_quote (other_chosen (Is Literal) (c == 92) _ _ no_escape refl)) (quoted_comes us t r q on)
  quoted_comes cs text rest (escaped value us mid t r e q) on = λ p.
      comes_to Literal p 92 us tt Escape refl (escape_comes us value mid e (quoted_comes mid t r q on))

  -- ---- separators

  line_comes : (cs rest : List ℕ) → LineComment cs rest → EachPlace Gap rest → EachPlace Line cs
  line_comes cs rest at_end on = λ p. comes_end Line p tt
  line_comes cs rest (at_feed r) on = λ p. comes_as Line p 10 r tt Gap (λ s e. sym (feed_same p) ∙ e) (on p)
  line_comes cs rest (over c us r not l) on = λ p.
      comes_to Line p c us tt Line (other_chosen (Is Line) (c == 10) _ _ not refl) (line_comes us r l on)

  star_comes : (cs : List ℕ) → NoEnd 42 cs → EachPlace Block cs → EachPlace Star cs
  star_comes [] apart on = λ p. comes_end Star p tt
  star_comes (d ∷ cs) apart on = λ p. comes_as Star p d cs tt Block (λ s e. is_other (d == 47) _ _ s apart e) (on p)

  block_comes : (cs rest : List ℕ) → BlockComment cs rest → EachPlace Gap rest → EachPlace Block cs
  block_comes cs rest (shut r) on = λ p. comes_to Block p 42 (47 ∷ r) tt Star refl (λ q. comes_to Star q 47 r tt Gap refl on)
  block_comes cs rest (inside c us r apart b) on = λ p. elim (test_or (c == 42)) [
    | inl is ↦
        comes_to Block p c us tt Star (chosen (Is Star) (c == 42) _ _ is refl)
        (star_comes us (subst (λ (x : ℕ). NoEnd x us) (eqb-true c 42 is) apart) (block_comes us r b on))
    | inr not ↦ comes_to Block p c us tt Block (other_chosen (Is Block) (c == 42) _ _ not refl) (block_comes us r b on)
  ]

  separator_comes : (cs rest : List ℕ) → Separator cs rest → EachPlace Gap rest → Leaves Gap cs → EachPlace Gap cs
  separator_comes cs rest (blank c r is) on here = λ p. comes_to Gap p c r here Gap (blank_leads p c is) on
  separator_comes cs rest (line us r l) on here = λ p.
      comes_to Gap p 47 (47 ∷ us) here Slash (slash_leads p) (λ q. comes_to Slash q 47 us tt Line refl (line_comes us r l on))
  separator_comes cs rest (block us r b) on here = λ p.
      comes_to Gap p 47 (42 ∷ us) here Slash (slash_leads p) (λ q. comes_to Slash q 42 us tt Block refl (block_comes us r b on))

  -- ---- tokens

  token_comes : (cs : List ℕ) (t : Lexeme) (rest : List ℕ) → IsToken cs t rest → T t → EachPlace Gap rest → Leaves Gap cs → EachPlace Gap cs
  token_comes cs t rest (word us name r i) wanted on here = identifier_comes us name r i on here
  token_comes cs t rest (alias us name r i) wanted on here = λ p. comes_to Gap p 36 us here Alias (dollar_leads p) (alias_comes us name r i wanted on)
  token_comes cs t rest (literal us text r q) wanted on here = λ p. comes_to Gap p 34 us here Literal (quote_leads p) (quoted_comes us text r q on)
  token_comes cs t rest (integer us z r v stops) wanted on here = integer_comes us z r v stops on here
  token_comes cs t rest (left_brace_mark r) wanted on here = λ p. comes_to Gap p 123 r here Gap (left_brace_leads p) on
  token_comes cs t rest (right_brace_mark r) wanted on here = λ p. comes_to Gap p 125 r here Gap (right_brace_leads p) on
  token_comes cs t rest (equals_mark r) wanted on here = λ p. comes_to Gap p 61 r here Gap (equals_leads p) on
  token_comes cs t rest (semicolon_mark r) wanted on here = λ p. comes_to Gap p 59 r here Gap (semicolon_leads p) on
  token_comes cs t rest (comma_mark r) wanted on here = λ p. comes_to Gap p 44 r here Gap (comma_leads p) on

  pub lexes_come : (cs : List ℕ) (ts : List Lexeme) → Lexes cs ts → AllByRecursion T ts → EachPlace Gap cs
  lexes_come cs ts end all = λ p. comes_end Gap p ([], end, tt)
  lexes_come cs ts (separator us rest vs s l) all = separator_comes us rest s (lexes_come rest vs l all) (vs, separator us rest vs s l, all)
  lexes_come cs ts (token us t rest vs is l) all = token_comes us t rest is all.0 (lexes_come rest vs l all.1) (t ∷ vs, token us t rest vs is l, all)
