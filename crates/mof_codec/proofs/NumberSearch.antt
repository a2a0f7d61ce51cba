-- Integers past the range, and texts without any that is and without parts past their limits.
use Rattle.std.proofs.Common.{◌≡◌, ◌⊎◌, inl, inr, ℕ, zero, suc, ◌+◌, ◌-◌, ◌<◌, ◌≤◌, Bool, true, false, List, [], ◌∷◌, ◌++◌, Option, Some, None, length, take, drop, refl, sym, ◌∙◌, ap, subst, arith, append_assoc, take-append-drop}
use Rattle.std.specs.Prelude.{slice_range, ℤ, IfSome, IfNone}
use Rattle.std.specs.List.{AllByRecursion}
use Rattle.std.proofs.lemmas.Bool.{cases_lt, false≢true}
use Rattle.std.proofs.lemmas.List.{drop-drop, length-drop, length-append, length-take-le}
use Rattle.mof_values.specs.Ident.{is_next}
use Rattle.mof_values.specs.declared.instance.Instance.{Instance}
use Rattle.mof_syntax.specs.declared.mof_error.MofError.{MofError}
use Rattle.mof_syntax.specs.declared.mof_error.MofError.TheVariants as errors
use Rattle.mof_syntax.specs.Characters.{Stops, Run, stop, more}
use Rattle.mof_syntax.specs.Integers.{Magnitude, decimal_value, octal_value, hex_value, binary_value, IntegerValue, unsigned, plus, minus}
use Rattle.mof_syntax.specs.Tokens.{IsToken, Number, integer, Identifier, identifier}
use Rattle.mof_syntax.specs.Grammar.{Wide, WideSpells}
use Rattle.mof_syntax.specs.Limits.{IsInRange, IsOutOfRange, Spells, instances_limit, identifier_limit}
use Rattle.mof_syntax.specs.Fronts.{GoesUpTo, whole}
use Rattle.mof_syntax.specs.Refusals.{Applies, rank_of, WinsOver, BeginsExcessNumber}
use Rattle.mof_codec.specs.declared.machine.state.Place.{Place}
use Rattle.mof_codec.specs.declared.machine.state.Place.TheVariants.{Start, AfterEquals, InArray, AfterComma}
use Rattle.mof_codec.specs.declared.machine.state.Half.{Half}
use Rattle.mof_codec.specs.declared.machine.state.Half.TheVariants as halves
use Rattle.mof_codec.specs.declared.machine.state.State.{State}
use Rattle.mof_codec.specs.declared.machine.state.Event.{Event}
use Rattle.mof_codec.specs.declared.refusing.scalar.Wanted.TheVariants.{ExcessInteger}
use Rattle.mof_codec.specs.Machine.{step}
use Rattle.mof_codec.specs.Walked.{tally, walked}
use Rattle.mof_codec.specs.Beginnings.{scalar_place, begins_scalar, begins_identifier}
use Rattle.mof_codec.specs.Searching.{FirstOf, ScalarStands, BeginsExcessInteger, HasNoExcess, HasFewParts}
use Rattle.mof_codec.specs.Winning.{number_range}
use Rattle.mof_codec.proofs.Goes.{goes_left}
use Rattle.mof_codec.proofs.Runs.{Next, Runs, After, Any}
use Rattle.mof_codec.proofs.Left.{AdmitsInteger, Admits, Along}
use Rattle.mof_codec.proofs.StepsBack.{left_runs}
use Rattle.mof_codec.proofs.Walking.{walked-more}
use Rattle.mof_codec.proofs.Fronts.{wide_runs}
use Rattle.mof_codec.proofs.Sane.{Sane, marked_place, walked_sane}
use Rattle.mof_codec.proofs.Standing.{scalar_begins, scalar_marked}
use Rattle.mof_codec.proofs.Stepping.{take_front, drop_front}
use Rattle.mof_codec.proofs.Excess.{long_excess}
use Rattle.mof_codec.proofs.TokensFit.{TokenFits, fits_common, are_within_limits}
use Rattle.mof_codec.proofs.FormSearch.{take_take, drop_take, begins_in_front, begins_of_front}
use Rattle.mof_codec.proofs.Covering.{Covers, only_end}
use Rattle.mof_codec.proofs.IntegerFronts.{excess_first, in_or_out}

-- the two words for an integer past the range

stops_take : (p : ℕ → Bool) (n : ℕ) (xs : List ℕ) → Stops p xs → Stops p (take n xs)
stops_take p zero xs s = tt
stops_take p (suc n) [] s = tt
stops_take p (suc n) (x ∷ xs) s = s

take_stops : (p : ℕ → Bool) (n : ℕ) (xs : List ℕ) (c : ℕ) (rest : List ℕ) → take n xs ≡ c ∷ rest → p c ≡ false → Stops p xs
take_stops p zero xs c rest e s = absurd cc
take_stops p (suc n) [] c rest e s = absurd cc
take_stops p (suc n) (x ∷ xs) c rest e s = let same : x ≡ c = cc in ap p same ∙ s

no_run : (ds rest : List ℕ) (p : ℕ → Bool) (d : ℕ) (tail cs : List ℕ) → cs ≡ [] → ds ≡ d ∷ tail → Run p cs ds rest → ⊥
no_run ds rest p d tail cs e f (stop r) = absurd cc
no_run ds rest p d tail cs e f (more c us v r is run) = absurd cc

no_magnitude : (cs : List ℕ) (n : ℕ) (rest : List ℕ) → cs ≡ [] → Magnitude cs n rest → ⊥
no_magnitude cs n rest e (decimal_value d us ds r z i run) = absurd cc
no_magnitude cs n rest e (octal_value us ds r run) = absurd cc
no_magnitude cs n rest e (hex_value x d us ds r i run) = absurd cc
no_magnitude cs n rest e (binary_value d b us ds r run i) = no_run (d ∷ ds) (b ∷ r) _ d ds us e refl run

no_value : (cs : List ℕ) (z : ℤ) (rest : List ℕ) → cs ≡ [] → IntegerValue cs z rest → ⊥
no_value cs z rest e (unsigned us n r m) = no_magnitude us n r e m
no_value cs z rest e (plus us n r m) = absurd cc
no_value cs z rest e (minus us n r m) = absurd cc

no_token : (cs : List ℕ) (z : ℤ) (rest : List ℕ) → cs ≡ [] → IsToken cs (Number z) rest → ⊥
no_token cs z rest e (integer us x r v s) = no_value us x r e v

no_range : (text : List ℕ) (at to : ℕ) → to ≤ at → slice_range text at to ≡ []
no_range text at to le = ap (λ (k : ℕ). take k (drop at text)) (none at to le)
  where
    none : (at to : ℕ) → to ≤ at → to - at ≡ 0
    none at to le = omega (arith, le)

module _ (text : List ℕ) (end : ℕ) (within : end ≤ length text) where
  number_front : (at : ℕ) → BeginsExcessNumber text end at → ScalarStands ExcessInteger (take end text) at
  number_front at n =
      let rises : at < n.to = elim (cases_lt at n.to) [
        | inl lt ↦ lt
        | inr ge ↦ absurd (no_token (slice_range text at n.to) n.value [] (no_range text at n.to ge) n.literal)
      ] in
      let left = drop_take at end text in
      let size : n.to - at ≤ end - at = omega (arith, rises, n.before) in
      let cut : take (n.to - at) (drop at (take end text)) ≡ slice_range text at n.to =
      ap (λ (xs : List ℕ). take (n.to - at) xs) left ∙ take_take (n.to - at) (end - at) (drop at text) size in
      record {
        within = omega (arith, rises, n.before, length-take-le end text within);
        begins = begins_of_front text at end (omega (arith, rises, n.before)) n.begins;
        stands = record {
          literal = slice_range text at n.to;
          rest = drop (n.to - at) (drop at (take end text));
          split = sym (take-append-drop (n.to - at) (drop at (take end text))) ∙ ap (λ (xs : List ℕ). xs ++ drop (n.to - at) (drop at (take end text))) cut;
          value = n.value;
          token = n.literal;
          longest = elim n.longest [
            | inl same ↦ subst (λ (xs : List ℕ). Stops is_next xs) (sym (at_end at n.to rises same)) tt
            | inr stops ↦ subst (λ (xs : List ℕ). Stops is_next xs) (sym (after at n.to rises)) (stops_take is_next (end - at - (n.to - at)) (drop n.to text) stops)
          ];
          out_of_range = n.out_of_range;
        };
      }
    where
      after : (at to : ℕ) → at < to → drop (to - at) (drop at (take end text)) ≡ take (end - at - (to - at)) (drop to text)
      after at to lt =
          ap (λ (xs : List ℕ). drop (to - at) xs) (drop_take at end text) ∙ drop_take (to - at) (end - at) (drop at text)
          ∙ ap (λ (xs : List ℕ). take (end - at - (to - at)) xs) (drop-drop (to - at) at text ∙ ap (λ (k : ℕ). drop k text) (sum at to lt))
        where
          sum : (at to : ℕ) → at < to → at + (to - at) ≡ to
          sum at to lt = omega (arith, lt)

      at_end : (at to : ℕ) → at < to → to ≡ end → drop (to - at) (drop at (take end text)) ≡ []
      at_end at to lt same =
          after at to lt ∙ ap (λ (k : ℕ). take k (drop to text)) (none at to same)
        where
          none : (at to : ℕ) → to ≡ end → end - at - (to - at) ≡ 0
          none at to same = omega (arith, same)

  number_stands : (at : ℕ) → ScalarStands ExcessInteger (take end text) at → BeginsExcessNumber text end at
  number_stands at s =
      let e = s.stands in
      let le : at ≤ end = omega (arith, s.within, length-take-le end text within) in
      let left : take (end - at) (drop at text) ≡ e.literal ++ e.rest = sym (drop_take at end text) ∙ e.split in
      let size : length e.literal + length e.rest ≡ end - at =
      sym (length-append e.literal e.rest) ∙ ap (λ (xs : List ℕ). length xs) (sym left) ∙ length-take-le (end - at) (drop at text) (left_size at le) in
      let literal : slice_range text at (at + length e.literal) ≡ e.literal =
      ap (λ (k : ℕ). take k (drop at text)) (less at (length e.literal)) ∙ sym (take_take (length e.literal) (end - at) (drop at text) (omega (arith, size)))
      ∙ ap (λ (xs : List ℕ). take (length e.literal) xs) left ∙ take_front e.literal e.rest in
      record {
        begins = begins_in_front text at end le s.begins;
        to = at + length e.literal;
        before = omega (arith, size, le);
        value = e.value;
        literal = subst (λ (xs : List ℕ). IsToken xs (Number e.value) []) (sym literal) e.token;
        longest = goes_on at (length e.literal) e.literal e.rest refl le left size e.longest;
        out_of_range = e.out_of_range;
      }
    where
      less : (a n : ℕ) → (a + n) - a ≡ n
      less a n = omega arith

      left_size : (at : ℕ) → at ≤ end → end - at ≤ length (drop at text)
      left_size at le = omega (arith, within, le, length-drop at text)

      goes_on : (at n : ℕ) (literal rest : List ℕ) → n ≡ length literal → at ≤ end → take (end - at) (drop at text) ≡ literal ++ rest → length literal + length rest ≡ end - at → Stops is_next rest
          → (at + n ≡ end) ⊎ Stops is_next (drop (at + n) text)
      goes_on at n literal [] same le left size s = inl (omega (arith, same, size, le))
      goes_on at n literal (c ∷ rest) same le left size s =
          inr (take_stops is_next (end - at - n) (drop (at + n) text) c rest
          (ap (λ (xs : List ℕ). take (end - at - n) xs) (sym (drop-drop n at text)) ∙ sym (drop_take n (end - at) (drop at text)) ∙ ap (λ (xs : List ℕ). drop n xs) left
          ∙ ap (λ (k : ℕ). drop k (literal ++ c ∷ rest)) same ∙ drop_front literal (c ∷ rest)) s)

  pub covers_number : (found : Option ℕ) → GoesUpTo text end → IfSome found (λ at. FirstOf (ScalarStands ExcessInteger (take end text)) at)
      → IfNone found ((at : ℕ) → ScalarStands ExcessInteger (take end text) at → ⊥) → Covers text 2 2 (number_range found)
  covers_number None goes s n = none
    where
      none : (other : MofError) → 2 ≤ rank_of other → rank_of other ≤ 2 → Applies text other → ⊥
      none (errors.NumberRange at) lo hi a = n at (number_front at (subst (λ (k : ℕ). BeginsExcessNumber text k at) (only_end text a.0 end a.1 goes) a.2))
      none (errors.OutOfProfile at what) lo hi a = omega (arith, lo)
      none (errors.TooMany at) lo hi a = omega (arith, hi)
      none (errors.Syntax at) lo hi a = omega (arith, hi)
      none e lo hi a = absurd a
  covers_number (Some at) goes s n = record { least = omega arith; greatest = omega arith; applies = (end, goes, number_stands at s.found); first = leads }
    where
      by_place : (m : ℕ) → at ≤ m → WinsOver (errors.NumberRange at) (errors.NumberRange m)
      by_place m le = elim (cases_lt at m) [ inl lt ↦ inl lt | inr ge ↦ inr (omega (arith, le, ge), omega arith) ]

      leads : (other : MofError) → 2 ≤ rank_of other → rank_of other ≤ 2 → Applies text other → WinsOver (errors.NumberRange at) other
      leads (errors.NumberRange m) lo hi a = by_place m (s.first m (number_front m (subst (λ (k : ℕ). BeginsExcessNumber text k m) (only_end text a.0 end a.1 goes) a.2)))
      leads (errors.OutOfProfile m what) lo hi a = absurd (omega (arith, lo))
      leads (errors.TooMany m) lo hi a = absurd (omega (arith, hi))
      leads (errors.Syntax m) lo hi a = absurd (omega (arith, hi))
      leads e lo hi a = absurd a

-- a text in which nothing is past a limit

front_end : (text left front : List ℕ) → text ≡ front ++ left → take (length front) text ≡ front
front_end text left front e = ap (λ (xs : List ℕ). take (length front) xs) e ∙ take_front front left

module _ (text : List ℕ) (wide : Wide text) (no_number : (at : ℕ) → ScalarStands ExcessInteger text at → ⊥) (no_excess : HasNoExcess text) where
  module _ (front left : List ℕ) (split : text ≡ front ++ left) (h : Half) (p : Place) (acc : List Event) (is : walked front ≡ Some (record { half = h; place = p; begun = acc })) where
    there : walked (take (length front) text) ≡ Some (record { half = h; place = p; begun = acc })
    there = ap (λ (xs : List ℕ). walked xs) (front_end text left front split) ∙ is

    left_there : drop (length front) text ≡ left
    left_there = ap (λ (xs : List ℕ). drop (length front) xs) split ∙ drop_front front left

    size : length front + length left ≡ length text
    size = omega (arith, ap (λ (xs : List ℕ). length xs) split, length-append front left)

    fitting_integer : h ≡ halves.Gap → AdmitsInteger TokenFits p left
    fitting_integer gap scalar z rest v s = in_range (λ out. no_number (length front) (record {
      within = omega (arith, size);
      begins = scalar_begins text (length front) _ there (ap (λ (x : Half). begins_scalar x p) gap ∙ scalar);
      stands = subst (λ (xs : List ℕ). BeginsExcessInteger xs) (sym left_there) (excess_first left z rest v s out);
    }))
      where
        in_range : (IsOutOfRange z → ⊥) → IsInRange z
        in_range f = elim (in_or_out z) [ inl r ↦ r | inr out ↦ absurd (f out) ]

    never_integer : (marked_place p ≡ true → ⊥) → AdmitsInteger TokenFits p left
    never_integer n scalar z rest v s = absurd (n (scalar_marked p scalar))

    fitting_name : begins_identifier h p ≡ true → (name rest : List ℕ) → Identifier left name rest → length name ≤ identifier_limit
    fitting_name begins name rest i = elim (cases_lt identifier_limit (length name)) [
      | inl long ↦ absurd (no_excess (length text) (whole wide) (length front)
          (long_excess text (length front) _ there (length text) (omega (arith, size, some_left left name rest i)) begins name rest (subst (λ (xs : List ℕ). Identifier xs name rest) (sym left_there) i) long))
      | inr few ↦ few
    ]
      where
        some_left : (cs name rest : List ℕ) → Identifier cs name rest → 1 ≤ length cs
        some_left cs name rest (identifier c us w r first run s) = omega arith

    admits : (k : Half) → h ≡ k → Admits TokenFits k p left
    admits halves.Gap e = (fitting_integer e, λ n name rest i. fitting_name (ap (λ (x : Half). begins_identifier x p) e ∙ n) name rest i)
    admits halves.Name e = never_integer (λ m. false≢true (sane_at halves.Name e m))
      where
        sane_at : (k : Half) → h ≡ k → Sane k p
        sane_at k e = subst (λ (x : Half). Sane x p) e (walked_sane front _ is)
    admits (halves.Key k n) e = never_integer (λ m. false≢true (sane_at (halves.Key k n) e m))
      where
        sane_at : (k : Half) → h ≡ k → Sane k p
        sane_at k e = subst (λ (x : Half). Sane x p) e (walked_sane front _ is)
    admits (halves.Integer f) e = never_integer (λ m. false≢true (sane_at (halves.Integer f) e m))
      where
        sane_at : (k : Half) → h ≡ k → Sane k p
        sane_at k e = subst (λ (x : Half). Sane x p) e (walked_sane front _ is)
    admits halves.Alias e = λ name rest i. fitting_name (ap (λ (x : Half). begins_identifier x p) e) name rest i
    admits k e = tt

  next_along : (o : Option State) (front : List ℕ) (c : ℕ) (cs : List ℕ) (h : Half) (p : Place) (acc : List Event) → step h p c ≡ o → walked front ≡ Some (record { half = h; place = p; begun = acc }) → text ≡ front ++ c ∷ cs
      → ((front : List ℕ) (k : Half) (q : Place) (a : List Event) → text ≡ front ++ cs → walked front ≡ Some (record { half = k; place = q; begun = a }) → Runs Any cs k q a → Along TokenFits cs k q)
      → Next o (After Any cs acc) → Next o (λ k q e. Along TokenFits cs k q)
  next_along None front c cs h p acc e is split f r = r
  next_along (Some s) front c cs h p acc e is split f r =
      f (front ++ c ∷ []) s.half s.place (tally s.begun acc) (split ∙ sym (append_assoc front (c ∷ []) cs)) (walked-more front c (record { half = h; place = p; begun = acc }) s is e) r

  along : (left front : List ℕ) (h : Half) (p : Place) (acc : List Event) → text ≡ front ++ left → walked front ≡ Some (record { half = h; place = p; begun = acc }) → Runs Any left h p acc → Along TokenFits left h p
  along [] front h p acc split is r = admits front [] split h p acc is h refl
  along (c ∷ cs) front h p acc split is r =
      (admits front (c ∷ cs) split h p acc is h refl, next_along (step h p c) front c cs h p acc refl is split (λ g k q a e w n. along cs g k q a e w n) r)

  -- it spells instances within the limits
  pub spells_within : ((is : List Instance) → WideSpells text is → length is ≤ instances_limit) → ((is : List Instance) → WideSpells text is → AllByRecursion HasFewParts is) → (is : List Instance) × Spells text is
  spells_within count parts =
      let r = wide_runs text wide in
      let l = left_runs TokenFits fits_common Any text halves.Gap Start [] (along text [] halves.Gap Start [] refl refl r) r in
      let d = goes_left l.0 Start l.2 in
      let w : WideSpells text d.0 = (l.0, l.1, d.1) in
      (d.0, record { wide = w; limits = are_within_limits l.0 d.0 d.1 l.3 (count d.0 w) (parts d.0 w) })
