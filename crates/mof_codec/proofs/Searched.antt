-- What the searches find is what the rules say.
use Rattle.std.proofs.Common.{◌≡◌, ◌≤◌, ◌<◌, ◌-◌, inl, inr, ℕ, Bool, true, false, List, [], ◌∷◌, Option, Some, None, length, take, drop, codes, refl, ap, subst, arith}
use Rattle.std.specs.Prelude.{◌==◌, IfSome, IfNone, nat_le}
use Rattle.std.specs.List.{AllByRecursion}
use Rattle.std.proofs.lemmas.Bool.{eq-eqb, eqb-true}
use Rattle.std.proofs.lemmas.Bool.Decides.{nat_tests}
use Rattle.std.proofs.lemmas.Int.{ints}
use Rattle.mof_values.specs.Fold.{fold_case}
use Rattle.mof_values.specs.Ident.{is_first, is_next}
use Rattle.mof_values.specs.declared.instance.Instance.{Instance}
use Rattle.mof_syntax.specs.declared.mof_error.MofError.{MofError}
use Rattle.mof_syntax.specs.declared.mof_error.Form.{Form}
use Rattle.mof_syntax.specs.Characters.{Stops}
use Rattle.mof_syntax.specs.Grammar.{Wide, WideSpells}
use Rattle.mof_syntax.specs.Limits.{Spells, IsInRange, instances_limit}
use Rattle.mof_syntax.specs.Fronts.{IsFront, IsSyntaxFault}
use Rattle.mof_syntax.specs.Refusals.{Wins}
use Rattle.mof_syntax.specs.Scanning.{magnitude_rest, magnitude_value}
use Rattle.mof_codec.specs.declared.machine.state.State.{State}
use Rattle.mof_codec.specs.declared.machine.state.Place.{Place}
use Rattle.mof_codec.specs.declared.machine.state.Place.TheVariants.{Start}
use Rattle.mof_codec.specs.declared.machine.state.Event.{Event}
use Rattle.mof_codec.specs.declared.machine.counts.Counts.{Counts}
use Rattle.mof_codec.specs.declared.refusing.scalar.Wanted.{Wanted}
use Rattle.mof_codec.specs.declared.refusing.scalar.Wanted.TheVariants.{ExcessInteger, Real}
use Rattle.mof_codec.specs.Machine.{step, is_whole}
use Rattle.mof_codec.specs.Walked.{walked}
use Rattle.mof_codec.specs.Beginnings.{start_place, begins_declaration, begins_scalar, begins_identifier}
use Rattle.mof_codec.specs.Counting.{counted, is_excess, name_length}
use Rattle.mof_codec.specs.Searching.{FirstOf, StandsAfter, IsWanted, ScalarStands, BeginsExcessInteger, BeginsLongName, IsFirstExcess, HasNoExcess, HasFewParts, IsFirstForm, HasNoForm, BeginsWord, BeginsForm, pragma, qualifiers, class, qualifier, StandsForm, character, declared, begins_with, is_real}
use Rattle.mof_codec.specs.Values.{signed, is_negative, sign_rest}
use Rattle.mof_codec.specs.Winning.{end_of}
use Rattle.mof_codec.proofs.Truths.{clash, le_of}
use Rattle.mof_codec.proofs.Runs.{Whole}
use Rattle.mof_codec.proofs.Options.{of_some, of_none}
use Rattle.mof_codec.proofs.Fronts.{is_front}
use Rattle.mof_codec.proofs.Standing.{start_is}
use Rattle.mof_codec.proofs.Stepping.{after_of, Stepped, stepped_none, stepped_more, stuck_fault, stuck_walk, end_wide, end_fault, end_after}
use Rattle.mof_codec.proofs.ExcessSearch.{Searched, searched_none, searched_more, first_found, IsPast, long_name, name_is_long, no_name_empty, stuck_none, stuck_wide, end_none, end_count, end_parts}
use Rattle.mof_codec.proofs.ScalarSearch.{ScalarSearched, scalar_none, scalar_more, scalar_found, scalar_end, scalar_last, StandsHere, real_begins, begins_real, never_stuck}
use Rattle.mof_codec.proofs.FormSearch.{real_found, real_none, here_found, here_none}
use Rattle.mof_codec.proofs.IntegerFronts.{told_within, told_excess, told_none}
use Rattle.mof_codec.proofs.RefusalFound.{Found, found_wins, none_spells, front_there}
use Rattle.mof_codec.proofs.Searches.{first_state, no_counts, when, next, both, is_end, fault_in, state_in, is_long, is_past, excess_in, in_range, out_of, is_excess_integer, stands, scalar_in, same, stops, begins_word, declared_in, here_in, as_form, as_real, form_in, left_out, number_in, refusal_at, refusal_in, is_taken}
use Rattle.mof_values.specs.declared.limits.TheConstants.{MAX_IDENTIFIER}

-- the choices

when_is : {A : Type 0} (P : A → Type 0) (b : Bool) (so not_so : Unit {0} → A) → (b ≡ true → P (so tt)) → (b ≡ false → P (not_so tt)) → P (when b so not_so)
when_is P true so not_so y n = y refl
when_is P false so not_so y n = n refl

next_is : {A : Type 0} (P : A → Type 0) (o : Option State) (stuck : Unit {0} → A) (on : State → A) → (None ≡ o → P (stuck tt)) → ((s : State) → Some s ≡ o → P (on s)) → P (next o stuck on)
next_is P None stuck on s n = s refl
next_is P (Some state) stuck on s n = n state refl

both_one : (b : Bool) (other : Unit {0} → Bool) → both b other ≡ true → b ≡ true
both_one true other e = refl
both_one false other e = e

both_other : (b : Bool) (other : Unit {0} → Bool) → both b other ≡ true → other tt ≡ true
both_other true other e = e
both_other false other e = absurd cc

both_is : (b : Bool) (other : Unit {0} → Bool) → b ≡ true → other tt ≡ true → both b other ≡ true
both_is true other e f = f
both_is false other e f = e

-- where a text goes wrong

end_whole : (s : State) → is_end s ≡ true → Whole s.half s.place
end_whole s e = (start_is s.place (both_one (start_place s.place) _ e), both_other (start_place s.place) (λ _. is_whole s.half) e)

whole_end : (s : State) → Whole s.half s.place → is_end s ≡ true
whole_end s w = both_is (start_place s.place) (λ _. is_whole s.half) (ap start_place w.0) w.1

abbrev ToldFault : List ℕ → Option ℕ → Type 0
ToldFault text o = IfSome o (λ at. IsSyntaxFault text at) × IfNone o (Wide text)

fault_told : (text left : List ℕ) (state : State) → Stepped text left state → ToldFault text (fault_in text left state)
fault_told text [] state s = when_is (ToldFault text) (is_end state) (λ _. None) (λ _. Some (length text))
    (λ e. (tt, end_wide text state s (end_whole state e)))
    (λ e. (end_fault text state s (λ w. clash (whole_end state w) e), tt))
fault_told text (c ∷ cs) state s = next_is (ToldFault text) (step state.half state.place c) (λ _. Some (length text - length (c ∷ cs))) (λ n. fault_in text cs n)
    (λ e. (stuck_fault text c cs state s e, tt))
    (λ n e. fault_told text cs n (stepped_more text c cs state n s e))

abbrev ToldState : List ℕ → Option State → Type 0
ToldState text o = IfSome o (λ state. StandsAfter text state) × IfNone o (walked text ≡ None)

state_told : (text left : List ℕ) (state : State) → Stepped text left state → ToldState text (state_in left state)
state_told text [] state s = (record { begun = s.begun; after = end_after text state s }, tt)
state_told text (c ∷ cs) state s = next_is (ToldState text) (step state.half state.place c) (λ _. None) (λ n. state_in cs n)
    (λ e. (tt, stuck_walk text c cs state s e))
    (λ n e. state_told text cs n (stepped_more text c cs state n s e))

-- the first part past its limit

of_le : (n : ℕ) → MAX_IDENTIFIER ≤ n → nat_le MAX_IDENTIFIER n ≡ true
of_le n h = grind (arith, nat_tests)

long_is : (cs : List ℕ) → is_long cs ≡ true → BeginsLongName cs
long_is [] e = absurd cc
long_is (c ∷ cs) e = long_name c cs (both_one (is_first c) _ e) (le_of MAX_IDENTIFIER (name_length cs) (both_other (is_first c) (λ _. nat_le MAX_IDENTIFIER (name_length cs)) e))

is_long_is : (cs : List ℕ) → BeginsLongName cs → is_long cs ≡ true
is_long_is [] l = absurd (no_name_empty l)
is_long_is (c ∷ cs) l = let is = name_is_long c cs l in both_is (is_first c) (λ _. nat_le MAX_IDENTIFIER (name_length cs)) is.0 (of_le (name_length cs) is.1)

module _ (state : State) (counts : Counts) (begun : Event) (left : List ℕ) where
  long_here : Bool
  long_here = both (begins_identifier state.half state.place) (λ _. is_long left)

  past_is : is_past state counts begun left ≡ true → IsPast state counts begun left
  past_is e = when_is (λ b. b ≡ true → IsPast state counts begun left) (is_excess begun counts) (λ _. true) (λ _. both (begins_identifier state.half state.place) (λ _. is_long left))
      (λ x _. inl x)
      (λ _ l. inr (both_one (begins_identifier state.half state.place) _ l, long_is left (both_other (begins_identifier state.half state.place) (λ _. is_long left) l)))
      e

  is_past_is : IsPast state counts begun left → is_past state counts begun left ≡ true
  is_past_is p = when_is (λ b. b ≡ true) (is_excess begun counts) (λ _. true) (λ _. both (begins_identifier state.half state.place) (λ _. is_long left))
      (λ _. refl)
      (λ not_so. elim p [
        | inl x ↦ absurd (clash x not_so)
        | inr l ↦ both_is (begins_identifier state.half state.place) (λ _. is_long left) l.0 (is_long_is left l.1)
      ])

pub record ToldExcess (text : List ℕ) (o : Option ℕ) : Type 0 where
  pub some : IfSome o (λ at. IsFirstExcess text at)
  pub none : IfNone o (HasNoExcess text)
  pub count : IfNone o ((is : List Instance) → WideSpells text is → length is ≤ instances_limit)
  pub parts : IfNone o ((is : List Instance) → WideSpells text is → AllByRecursion HasFewParts is)

excess_told : (text left : List ℕ) (state : State) (counts : Counts) → Searched text left state counts → ToldExcess text (excess_in text left state counts)
excess_told text [] state counts s = record { some = tt; none = end_none text state counts s; count = end_count text state counts s; parts = end_parts text state counts s }
excess_told text (c ∷ cs) state counts s =
    next_is (ToldExcess text) (step state.half state.place c) (λ _. None)
    (λ n. when (is_past state counts n.begun (c ∷ cs)) (λ _. Some (length text - length (c ∷ cs))) (λ _. excess_in text cs n (counted n.begun counts)))
    (λ e. record {
      some = tt;
      none = stuck_none text c cs state counts s e;
      count = λ is w. absurd (stuck_wide text c cs state counts s e is w);
      parts = λ is w. absurd (stuck_wide text c cs state counts s e is w);
    })
    (λ n e. when_is (ToldExcess text) (is_past state counts n.begun (c ∷ cs)) (λ _. Some (length text - length (c ∷ cs))) (λ _. excess_in text cs n (counted n.begun counts))
    (λ past. record { some = first_found text c cs state counts s n e (past_is state counts n.begun (c ∷ cs) past); none = tt; count = tt; parts = tt })
    (λ not. excess_told text cs n (counted n.begun counts) (searched_more text c cs state counts s n e (λ p. clash (is_past_is state counts n.begun (c ∷ cs) p) not))))

-- the first literal of a kind

within_is : (b : Bool) (n : ℕ) → in_range b n ≡ true → IsInRange (signed b n)
within_is true n h = let le : n ≤ 9223372036854775808 = grind (arith, nat_tests) in (omega (arith, ints, le), omega (arith, ints, le))
within_is false n h = let lt : n < 18446744073709551616 = grind (arith, nat_tests) in (omega (arith, ints, lt), omega (arith, ints, lt))

out_is : (b : Bool) (n : ℕ) → in_range b n ≡ false → IsInRange (signed b n) → ⊥
out_is true n h r = let lt : 9223372036854775808 < n = grind (arith, nat_tests) in omega (arith, ints, lt, r.0)
out_is false n h r = let le : 18446744073709551616 ≤ n = grind (arith, nat_tests) in omega (arith, ints, le, r.1)

abbrev Decides : Bool → Type 0 → Type 0
Decides b P = (b ≡ true → P) × (P → b ≡ true)

integer_told : (cs : List ℕ) → Decides (is_excess_integer cs) (BeginsExcessInteger cs)
integer_told cs = from (magnitude_rest (sign_rest cs)) (in_range (is_negative cs) (magnitude_value (sign_rest cs))) refl refl
  where
    from : (o : Option (List ℕ)) (b : Bool) → o ≡ magnitude_rest (sign_rest cs) → in_range (is_negative cs) (magnitude_value (sign_rest cs)) ≡ b → Decides (out_of o b) (BeginsExcessInteger cs)
    from None b e f = told_none cs (sign_rest cs) refl e
    from (Some rest) true e f = told_within cs (sign_rest cs) refl (is_negative cs) refl (magnitude_value (sign_rest cs)) (inl refl) (within_is (is_negative cs) (magnitude_value (sign_rest cs)) f)
    from (Some rest) false e f = told_excess cs (sign_rest cs) refl (is_negative cs) refl (magnitude_value (sign_rest cs)) (inl refl) rest e (out_is (is_negative cs) (magnitude_value (sign_rest cs)) f)

real_told : (cs : List ℕ) → Decides (is_real cs) (IsWanted Real cs)
real_told cs = (λ e. real_begins cs e, λ r. begins_real cs r)

module _ (wanted : Wanted) (test : List ℕ → Bool) (decides : (cs : List ℕ) → Decides (test cs) (IsWanted wanted cs)) (front : List ℕ) (begins : IsFront front) where
  abbrev ToldScalar : Option ℕ → Type 0
  ToldScalar o = IfSome o (λ at. FirstOf (ScalarStands wanted front) at) × IfNone o ((at : ℕ) → ScalarStands wanted front at → ⊥)

  stands_is : (state : State) (left : List ℕ) → stands test state left ≡ true → StandsHere state wanted left
  stands_is state left e = (both_one (begins_scalar state.half state.place) _ e, (decides left).0 (both_other (begins_scalar state.half state.place) (λ _. test left) e))

  is_stands : (state : State) (left : List ℕ) → stands test state left ≡ false → StandsHere state wanted left → ⊥
  is_stands state left e h = clash (both_is (begins_scalar state.half state.place) (λ _. test left) h.0 ((decides left).1 h.1)) e

  scalar_told : (left : List ℕ) (state : State) → ScalarSearched front left state wanted → ToldScalar (scalar_in test front left state)
  scalar_told [] state s = when_is ToldScalar (stands test state []) (λ _. Some (length front)) (λ _. None)
      (λ e. (scalar_last front [] state wanted s refl (stands_is state [] e), tt))
      (λ e. (tt, scalar_end front [] state wanted s refl (is_stands state [] e)))
  scalar_told (c ∷ cs) state s =
      when_is ToldScalar (stands test state (c ∷ cs)) (λ _. Some (length front - length (c ∷ cs))) (λ _. next (step state.half state.place c) (λ _. None) (λ n. scalar_in test front cs n))
      (λ e. (scalar_found front (c ∷ cs) state wanted s (stands_is state (c ∷ cs) e), tt))
      (λ not. next_is ToldScalar (step state.half state.place c) (λ _. None) (λ n. scalar_in test front cs n)
      (λ e. (tt, λ at x. absurd (never_stuck front begins (stuck_walk front c cs state s.stepped e))))
      (λ n e. scalar_told cs n (scalar_more front c cs state n wanted s (is_stands state (c ∷ cs) not) e)))

-- the form that is left out

same_is : (xs ys : List ℕ) → same xs ys ≡ true → xs ≡ ys
same_is [] [] e = refl
same_is [] (y ∷ ys) e = absurd cc
same_is (x ∷ xs) [] e = absurd cc
same_is (x ∷ xs) (y ∷ ys) e = let head = eqb-true x y (both_one (x == y) _ e) in let tail = same_is xs ys (both_other (x == y) (λ _. same xs ys) e) in cc

same_self : (xs : List ℕ) → same xs xs ≡ true
same_self [] = refl
same_self (x ∷ xs) = both_is (x == x) (λ _. same xs xs) (eq-eqb x x refl) (same_self xs)

stops_is : (cs : List ℕ) → stops cs ≡ true → Stops is_next cs
stops_is [] e = tt
stops_is (c ∷ cs) e = when_is (λ b. b ≡ true → is_next c ≡ false) (is_next c) (λ _. false) (λ _. true) (λ _ f. absurd cc) (λ not_so _. not_so) e

is_stops : (cs : List ℕ) → Stops is_next cs → stops cs ≡ true
is_stops [] s = refl
is_stops (c ∷ cs) s = when_is (λ b. b ≡ true) (is_next c) (λ _. false) (λ _. true) (λ so. absurd (clash so s)) (λ _. refl)

word_told : (cs word : List ℕ) → Decides (begins_word cs word) (BeginsWord cs word)
word_told cs word = (
  λ e. record {
    same = same_is (fold_case (take (length word) cs)) (fold_case word) (both_one (same (fold_case (take (length word) cs)) (fold_case word)) _ e);
    stops = stops_is (drop (length word) cs) (both_other (same (fold_case (take (length word) cs)) (fold_case word)) (λ _. stops (drop (length word) cs)) e);
  },
  λ w. both_is (same (fold_case (take (length word) cs)) (fold_case word)) (λ _. stops (drop (length word) cs))
      (subst (λ (xs : List ℕ). same (fold_case (take (length word) cs)) xs ≡ true) w.same (same_self (fold_case (take (length word) cs)))) (is_stops (drop (length word) cs) w.stops),
)

abbrev ToldDeclared : List ℕ → Option Form → Type 0
ToldDeclared cs o = IfSome o (λ form. BeginsForm cs form) × IfNone o ((form : Form) → BeginsForm cs form → ⊥)

no_form_begins : (cs : List ℕ) → begins_with cs 35 ≡ false → begins_with cs 91 ≡ false → begins_word cs (codes "class") ≡ false → begins_word cs (codes "qualifier") ≡ false → (form : Form) → BeginsForm cs form → ⊥
no_form_begins cs p q c k form (pragma e) = clash e p
no_form_begins cs p q c k form (qualifiers e) = clash e q
no_form_begins cs p q c k form (class w) = clash ((word_told cs (codes "class")).1 w) c
no_form_begins cs p q c k form (qualifier w) = clash ((word_told cs (codes "qualifier")).1 w) k

declared_told : (cs : List ℕ) → ToldDeclared cs (declared_in cs)
declared_told cs =
    when_is (ToldDeclared cs) (begins_with cs 35) _ _ (λ e. (pragma e, tt)) (λ p.
    when_is (ToldDeclared cs) (begins_with cs 91) _ _ (λ e. (qualifiers e, tt)) (λ q.
    when_is (ToldDeclared cs) (begins_word cs (codes "class")) _ _ (λ e. (class ((word_told cs (codes "class")).0 e), tt)) (λ c.
    when_is (ToldDeclared cs) (begins_word cs (codes "qualifier")) _ _ (λ e. (qualifier ((word_told cs (codes "qualifier")).0 e), tt)) (λ k.
    (tt, no_form_begins cs p q c k)))))

abbrev ToldHere : State → List ℕ → Option Form → Type 0
ToldHere state cs o = IfSome o (λ form. StandsForm state cs form) × IfNone o ((form : Form) → StandsForm state cs form → ⊥)

module _ (state : State) (cs : List ℕ) where
  no_form : (both (begins_scalar state.half state.place) (λ _. begins_with cs 39) ≡ false) → (begins_declaration state.half state.place ≡ true → (form : Form) → BeginsForm cs form → ⊥) → (form : Form) → StandsForm state cs form → ⊥
  no_form not_so none form (character b e) = clash (both_is (begins_scalar state.half state.place) (λ _. begins_with cs 39) b e) not_so
  no_form not_so none form (declared f b e) = none b f e

  as_here : (o : Option Form) → (both (begins_scalar state.half state.place) (λ _. begins_with cs 39) ≡ false) → begins_declaration state.half state.place ≡ true → ToldDeclared cs o → ToldHere state cs o
  as_here None not_so b t = (tt, no_form not_so (λ _. t.1))
  as_here (Some form) not_so b t = (declared form b t.0, tt)

  here_told : ToldHere state cs (here_in state cs)
  here_told =
      when_is (ToldHere state cs) (both (begins_scalar state.half state.place) (λ _. begins_with cs 39)) _ _
      (λ e. (character (both_one (begins_scalar state.half state.place) _ e) (both_other (begins_scalar state.half state.place) (λ _. begins_with cs 39) e), tt)) (λ not_so.
      when_is (ToldHere state cs) (begins_declaration state.half state.place) _ _
      (λ b. as_here (declared_in cs) not_so b (declared_told cs))
      (λ n. (tt, no_form not_so (λ b. absurd (clash b n)))))

abbrev ToldForm : List ℕ → ℕ → Option (ℕ × Form) → Type 0
ToldForm text fault o = IfSome o (λ f. IsFirstForm text fault f.0 f.1) × IfNone o (HasNoForm text fault)

module _ (text : List ℕ) (fault : ℕ) (is : IsSyntaxFault text fault) where
  as_real_told : (o : Option ℕ) → begins_with (drop fault text) 46 ≡ true → (IfSome o (λ at. FirstOf (ScalarStands Real (take fault text)) at) × IfNone o ((at : ℕ) → ScalarStands Real (take fault text) at → ⊥)) → ToldForm text fault (as_real o)
  as_real_told None e t = (tt, real_none text fault is.within e t.1)
  as_real_told (Some at) e t = (real_found text fault is.within at e t.0, tt)

  as_form_told : (state : State) (o : Option Form) → begins_with (drop fault text) 46 ≡ false → StandsAfter (take fault text) state → ToldHere state (drop fault text) o → ToldForm text fault (as_form fault o)
  as_form_told state None not_so s t = (tt, here_none text fault is.within state s (λ e. clash e not_so) t.1)
  as_form_told state (Some form) not_so s t = (here_found text fault is.within state s (λ e. clash e not_so) form t.0, tt)

  by_state : (o : Option State) → begins_with (drop fault text) 46 ≡ false → ToldState (take fault text) o → ToldForm text fault (next o (λ _. None) (λ state. as_form fault (here_in state (drop fault text))))
  by_state None not_so t = absurd (never_stuck (take fault text) is.front t.1)
  by_state (Some state) not_so t = as_form_told state (here_in state (drop fault text)) not_so t.0 (here_told state (drop fault text))

  form_told : ToldForm text fault (form_in text fault)
  form_told = when_is (ToldForm text fault) (begins_with (drop fault text) 46) _ _
      (λ e. as_real_told _ e (scalar_told Real is_real real_told (take fault text) is.front (take fault text) first_state (scalar_none (take fault text) Real)))
      (λ not_so. by_state (state_in (take fault text) first_state) not_so (state_told (take fault text) (take fault text) first_state (stepped_none (take fault text))))

-- the refusal that wins

module _ (text : List ℕ) where
  part : Option ℕ
  part = excess_in text text first_state no_counts

  part_told : ToldExcess text (excess_in text text first_state no_counts)
  part_told = excess_told text text first_state no_counts (searched_none text)

  number_told : (fault : Option ℕ) → ToldFault text fault → IfSome (number_in text (end_of text fault)) (λ at. FirstOf (ScalarStands ExcessInteger (take (end_of text fault) text)) at) × IfNone (number_in text (end_of text fault)) ((at : ℕ) → ScalarStands ExcessInteger (take (end_of text fault) text) at → ⊥)
  number_told fault t =
      let front = take (end_of text fault) text in
      scalar_told ExcessInteger is_excess_integer integer_told front (front_there text fault (end_of text fault) refl t.0 t.1) front first_state (scalar_none front ExcessInteger)

  left_some : (fault : Option ℕ) → ToldFault text fault → IfSome (left_out text fault) (λ f. IfSome fault (λ at. IsFirstForm text at f.0 f.1))
  left_some None t = tt
  left_some (Some at) t = (form_told text at t.0).0

  left_wide : (fault : Option ℕ) → IfNone fault (left_out text fault ≡ None)
  left_wide None = refl
  left_wide (Some at) = tt

  left_none : (fault : Option ℕ) → ToldFault text fault → IfNone (left_out text fault) (IfSome fault (λ at. HasNoForm text at))
  left_none None t = tt
  left_none (Some at) t = (form_told text at t.0).1

  all_found : (fault : Option ℕ) → ToldFault text fault → Found text fault (left_out text fault) (end_of text fault) (number_in text (end_of text fault)) (excess_in text text first_state no_counts)
  all_found fault t = record {
    fault_some = t.0;
    fault_none = t.1;
    form_some = left_some fault t;
    form_wide = left_wide fault;
    form_none = left_none fault t;
    end_is = refl;
    number_some = (number_told fault t).0;
    number_none = (number_told fault t).1;
    part_some = part_told.some;
    part_none = part_told.none;
    part_count = part_told.count;
    part_parts = part_told.parts;
  }

  fault_is : ToldFault text (fault_in text text first_state)
  fault_is = fault_told text text first_state (stepped_none text)

  at_wins : (fault : Option ℕ) → ToldFault text fault → IfSome (refusal_at text fault) (λ e. Wins text e)
  at_wins fault t = found_wins text fault (left_out text fault) (end_of text fault) (number_in text (end_of text fault)) (excess_in text text first_state no_counts) (all_found fault t) _ _ _ refl refl refl

  at_none : (fault : Option ℕ) → ToldFault text fault → IfNone (refusal_at text fault) ((is : List Instance) × Spells text is)
  at_none fault t = none_spells text fault (left_out text fault) (end_of text fault) (number_in text (end_of text fault)) (excess_in text text first_state no_counts) (all_found fault t) _ _ _ refl refl refl

  -- the refusal that is found wins, and where none is found the text spells instances within the limits
  pub refusal_wins : (e : MofError) → refusal_in text ≡ Some e → Wins text e
  refusal_wins e same = of_some (refusal_in text) e (λ r. Wins text r) same (at_wins (fault_in text text first_state) fault_is)

  pub no_refusal_spells : refusal_in text ≡ None → (is : List Instance) × Spells text is
  no_refusal_spells same = of_none (refusal_in text) _ same (at_none (fault_in text text first_state) fault_is)

  pub is_wide : fault_in text text first_state ≡ None → Wide text
  is_wide same = of_none (fault_in text text first_state) _ same fault_is.1

  pub is_fault : (at : ℕ) → fault_in text text first_state ≡ Some at → IsSyntaxFault text at
  is_fault at same = of_some (fault_in text text first_state) at (λ n. IsSyntaxFault text n) same fault_is.0

-- with characters that the machine takes a text begins
pub taken_front : (front : List ℕ) → is_taken front ≡ true → IsFront front
taken_front front e = from (state_in front first_state) (state_told front front first_state (stepped_none front)) e
  where
    from : (o : Option State) → ToldState front o → next o (λ _. false) (λ _. true) ≡ true → IsFront front
    from None t e = absurd (clash e refl)
    from (Some state) t e = is_front front (after_of state t.0.begun) t.0.after
