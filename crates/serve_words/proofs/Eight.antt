-- The eight arguments are taken, and give their values.
use Rattle.std.proofs.Common.{◌≡◌, ◌∙◌, ◌≤◌, ◌==◌, ℕ, Bool, true, false, List, [], ◌∷◌, refl, sym, ap, ap₂, cond, drop, subst, Option, Some, None, codes, arith, rules, bytes_eq, if◌then◌else◌, ◌&&◌}
use Rattle.std.specs.Prelude.{fold, option_and_then, pos}
use Rattle.std.specs.Fmt.{decimal}
use Rattle.std.specs.Option.{option_map_or}
use Rattle.std.specs.Str.Parse.{IsNumeral, digits_value, without_leading_plus}
use Rattle.std.proofs.lemmas.Bool.{ne_eqb}
use Rattle.std.proofs.lemmas.Fmt.{decimal_is_IsNumeral}
use Rattle.std.proofs.lemmas.Str.Parse.{digit_from_value}
use Rattle.clap.specs.Lexer.{long_of, long_of_rest, short_of, short_of_rest, strip_byte}
use Rattle.clap.specs.Faults.{bundle_fault, check_fault, defaults_fault, flag_word_fault, settle_fault, step_fault, turn_fault, walk_fault, word_fault}
use Rattle.clap.specs.Kinds.{Kinds, or_else}
use Rattle.clap.specs.Values.{IsSignedIn}
use Rattle.clap.specs.ValueTests.{accepts}
use Rattle.clap.specs.Walk.{Held, Row, Step, Text, Walk, after_step, finished, first_of, long_or_other, option, plain_word, settled, short_or_plain, trailing, walked, word_met}
use Rattle.clap.specs.declared.error.kind.ErrorKind.TheVariants as kind
use Rattle.clap.specs.declared.builder.value_parser.ValueParser.TheVariants as vp
use Rattle.clap.proofs.OnLiterals.{clap_on_literals}
use Rattle.clap.proofs.ValueTestLemmas.{Accepts-accepts}
use Rattle.serve_words.specs.declared.command.TheConstants.{MAX_CONNECTIONS}
use Rattle.serve_words.specs.Laws.{Give, IsPlain, eight_words}
use Rattle.serve_words.specs.Words.{SpellsCount, value_of}
use Rattle.serve_words.proofs.Options.{Which, connections, fault_is, listen, name, remains, shape, shelf, store}
use Rattle.serve_words.proofs.Options as built
use Rattle.serve_words.proofs.Turns.{closed, full, held_at, opened, state}
use Rattle.serve_words.proofs.Entries.{rows_of}

-- what is left to fail, and where the walk ends
abbrev outcome : Walk → List Text → Kinds × Walk
outcome w arguments = (remains w arguments, fold (walked built.rules []) w arguments)

abbrev after_walk : Held → Kinds
after_walk end =
    or_else (settle_fault built.rules false end) (or_else (defaults_fault (settled built.rules end).rows built.rules)
    (check_fault shape (finished built.rules end) false))

-- ---- an argument that is no flag

module _ (x : ℕ) (xs : Text) (other : (x == 45) ≡ false) where
  no_dashes : bytes_eq (x ∷ xs) (45 ∷ 45 ∷ []) ≡ false
  no_dashes = ap (λ (b : Bool). b && bytes_eq xs (45 ∷ [])) other

  no_hyphen : strip_byte 45 (x ∷ xs) ≡ None
  no_hyphen = ap (λ (b : Bool). if b then Some xs else None) other

  no_long : long_of (x ∷ xs) ≡ None
  no_long = ap (λ (o : Option Text). option_and_then long_of_rest (option_and_then (strip_byte 45) o)) no_hyphen

  no_short : short_of (x ∷ xs) ≡ None
  no_short = ap (option_and_then short_of_rest) no_hyphen

  module _ (rows : List Row) (o : Which) where
    abbrev waits : Held
    waits = held_at rows (opened o)

    value_met : word_met built.rules [] false (option (name o)) 1 (x ∷ xs) waits ≡ plain_word built.rules (option (name o)) (x ∷ xs) waits
    value_met =
        ap₂ (λ (b : Bool) (l : Option (Text × Option Text)). if b then (waits, trailing 1) else long_or_other built.rules (option (name o)) (x ∷ xs) l waits) no_dashes no_long
        ∙ ap (λ (f : Option Text). short_or_plain built.rules (option (name o)) (x ∷ xs) f waits) no_short

    value_fault : word_fault shape [] false (option (name o)) (x ∷ xs) waits ≡ []
    value_fault =
        ap₂ (λ (b : Bool) (l : Option (Text × Option Text)). if b then [] else flag_word_fault built.rules false l (x ∷ xs) waits) no_dashes no_long
        ∙ ap (λ (f : Option Text). option_map_or (λ flags. bundle_fault built.rules false flags waits) f []) no_short

    value_passes : turn_fault shape [] (state rows (opened o) 1 false) (x ∷ xs) ≡ []
    value_passes = ap₂ (λ (k : Kinds) (m : Held × Step). or_else k (step_fault shape 1 m.0 m.1)) value_fault value_met

    value_walked : walked built.rules [] (state rows (opened o) 1 false) (x ∷ xs)
        ≡ after_step built.rules (x ∷ xs) (state rows (opened o) 1 false) (plain_word built.rules (option (name o)) (x ∷ xs) waits).0
        (plain_word built.rules (option (name o)) (x ∷ xs) waits).1
    unfolding walked
    value_walked = ap (λ (m : Held × Step). after_step built.rules (x ∷ xs) (state rows (opened o) 1 false) m.0 m.1) value_met

    -- it is the value of the option that waits
    value_step : (ws : List Text)
        → after_step built.rules (x ∷ xs) (state rows (opened o) 1 false) (plain_word built.rules (option (name o)) (x ∷ xs) waits).0
        (plain_word built.rules (option (name o)) (x ∷ xs) waits).1 ≡ state rows (full o (x ∷ xs)) 1 false
        → outcome (state rows (opened o) 1 false) ((x ∷ xs) ∷ ws) ≡ outcome (state rows (full o (x ∷ xs)) 1 false) ws
    unfolding walk_fault
    value_step ws filled =
        ap₂ (λ (k : Kinds) (w : Walk). (
          or_else (or_else k (walk_fault shape [] w ws)) (after_walk (fold (walked built.rules []) w ws).held),
          fold (walked built.rules []) w ws,
        )) value_passes (value_walked ∙ filled)

-- ---- the names

module _ (s f l n : Text) where
  abbrev one : List Row
  one = rows_of ((store, s) ∷ [])

  abbrev two : List Row
  two = rows_of ((store, s) ∷ (shelf, f) ∷ [])

  abbrev three : List Row
  three = rows_of ((store, s) ∷ (shelf, f) ∷ (listen, l) ∷ [])

  first_name : (ws : List Text) → outcome (state [] closed 1 false) (codes "--store" ∷ ws) ≡ outcome (state [] (opened store) 1 false) ws
  unfolding clap_on_literals
  first_name ws = refl

  second_name : (ws : List Text) → outcome (state [] (full store s) 1 false) (codes "--shelf" ∷ ws) ≡ outcome (state one (opened shelf) 1 false) ws
  unfolding clap_on_literals
  second_name ws = refl

  third_name : (ws : List Text) → outcome (state one (full shelf f) 1 false) (codes "--listen" ∷ ws) ≡ outcome (state two (opened listen) 1 false) ws
  unfolding clap_on_literals
  third_name ws = refl

  fourth_name : (ws : List Text) → outcome (state two (full listen l) 1 false) (codes "--connections" ∷ ws) ≡ outcome (state three (opened connections) 1 false) ws
  unfolding clap_on_literals
  fourth_name ws = refl

  abbrev end : Walk
  end = state three (full connections n) 1 false

  passes_at_end : accepts false (vp.Signed (pos 1) (pos MAX_CONNECTIONS)) n ≡ true → remains end [] ≡ []
  unfolding clap_on_literals
  passes_at_end takes = ap (λ (b : Bool). or_else (or_else (if b then [] else kind.ValueValidation ∷ []) []) []) takes

-- ---- the eight arguments

module _ (x y z u : ℕ) (xs ys zs us : Text) (hx : (x == 45) ≡ false) (hy : (y == 45) ≡ false) (hz : (z == 45) ≡ false) (hu : (u == 45) ≡ false) where
  abbrev s' : Text
  s' = x ∷ xs

  abbrev f' : Text
  f' = y ∷ ys

  abbrev l' : Text
  l' = z ∷ zs

  abbrev n' : Text
  n' = u ∷ us

  comes_to : outcome (state [] closed 1 false) (eight_words s' f' l' n') ≡ outcome (end s' f' l' n') []
  comes_to =
      let w7 : List Text = n' ∷ [] in
      let w6 : List Text = codes "--connections" ∷ w7 in
      let w5 : List Text = l' ∷ w6 in
      let w4 : List Text = codes "--listen" ∷ w5 in
      let w3 : List Text = f' ∷ w4 in
      let w2 : List Text = codes "--shelf" ∷ w3 in
      first_name s' f' l' n' (s' ∷ w2) ∙ value_step x xs hx [] store w2 refl
      ∙ second_name s' f' l' n' w3 ∙ value_step y ys hy (one s' f' l' n') shelf w4 refl
      ∙ third_name s' f' l' n' w5 ∙ value_step z zs hz (two s' f' l' n') listen w6 refl
      ∙ fourth_name s' f' l' n' w7 ∙ value_step u us hu (three s' f' l' n') connections [] refl

  abbrev found_in : Text → Walk → Option Text
  found_in id w = first_of id (finished built.rules w.held)

  found_as : (id : Text) → value_of id (eight_words s' f' l' n') ≡ found_in id (end s' f' l' n')
  unfolding value_of
  found_as id = ap (λ (o : Kinds × Walk). found_in id o.1) comes_to

  pub eight : accepts false (vp.Signed (pos 1) (pos MAX_CONNECTIONS)) n' ≡ true → (count : ℕ) → SpellsCount n' count
      → Give (eight_words s' f' l' n') s' f' l' count
  eight takes count spells = record {
    taken = fault_is (eight_words s' f' l' n') ∙ ap (λ (o : Kinds × Walk). o.0) comes_to ∙ passes_at_end s' f' l' n' takes;
    store_is = found_as (codes "store");
    shelf_is = found_as (codes "shelf");
    listen_is = found_as (codes "listen");
    connections_is = (n', found_as (codes "connections"), spells);
  }

-- ---- numbers in decimal

record IsCountText (text : Text) (count : ℕ) : Type 0 where
  first : ℕ
  more : Text
  is : text ≡ first ∷ more
  no_hyphen : (first == 45) ≡ false
  takes : accepts false (vp.Signed (pos 1) (pos MAX_CONNECTIONS)) (first ∷ more) ≡ true
  spells : SpellsCount (first ∷ more) count

count_text : (count : ℕ) → 1 ≤ count → count ≤ MAX_CONNECTIONS → IsCountText (decimal count) count
count_text count least most = go (decimal count) refl (decimal_is_IsNumeral count (omega arith))
  where
    go : (t : Text) → decimal count ≡ t → IsNumeral 10 (decimal count) × (digits_value 10 (decimal count) ≡ count) → IsCountText (decimal count) count
    go [] is read =
        let numeral : IsNumeral 10 [] = rw is at read.0 in
        absurd (omega (arith, numeral.0))
    go (d ∷ ds) is read =
        let numeral : IsNumeral 10 (d ∷ ds) = rw is at read.0 in
        let value : digits_value 10 (d ∷ ds) ≡ count = ap (digits_value 10) (sym is) ∙ read.1 in
        let minus : (d == 45) ≡ false = ne_eqb _ _ (λ e. omega (arith, digit_from_value d numeral.1.0)) in
        let plus : (d == 43) ≡ false = ne_eqb _ _ (λ e. omega (arith, digit_from_value d numeral.1.0)) in
        let whole : without_leading_plus (d ∷ ds) ≡ d ∷ ds = ap (λ (b : Bool). drop (cond b 1 0) (d ∷ ds)) plus in
        let signed : IsSignedIn (pos 1) (pos MAX_CONNECTIONS) (d ∷ ds) = rw (minus, plus, value) (numeral, search rules, search rules, search rules) in
        record {
          first = d;
          more = ds;
          is = is;
          no_hyphen = minus;
          takes = Accepts-accepts false (vp.Signed (pos 1) (pos MAX_CONNECTIONS)) (d ∷ ds) signed;
          spells = record {
            numeral = subst (IsNumeral 10) (sym whole) numeral;
            value = ap (digits_value 10) whole ∙ value;
            least = least;
            most = most;
          };
        }

pub eight_taken : (store shelf listen : Text) (count : ℕ) → IsPlain store → IsPlain shelf → IsPlain listen → 1 ≤ count → count ≤ MAX_CONNECTIONS
    → Give (eight_words store shelf listen (decimal count)) store shelf listen count
eight_taken [] f l count hs hf hl least most = absurd (omega (arith, hs.0))
eight_taken (x ∷ xs) [] l count hs hf hl least most = absurd (omega (arith, hf.0))
eight_taken (x ∷ xs) (y ∷ ys) [] count hs hf hl least most = absurd (omega (arith, hl.0))
eight_taken (x ∷ xs) (y ∷ ys) (z ∷ zs) count hs hf hl least most =
    let number = count_text count least most in
    subst (λ (t : Text). Give (eight_words (x ∷ xs) (y ∷ ys) (z ∷ zs) t) (x ∷ xs) (y ∷ ys) (z ∷ zs) count) (sym number.is)
    (eight x y z number.first xs ys zs number.more (ne_eqb x 45 hs.1) (ne_eqb y 45 hf.1) (ne_eqb z 45 hl.1) number.no_hyphen number.takes count number.spells)
