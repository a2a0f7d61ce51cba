-- The searches over texts in which one part stands many times.
use Rattle.std.proofs.Common.{◌≡◌, ◌≤◌, ◌<◌, ◌+◌, ◌-◌, ◌*◌, ℕ, zero, suc, false, List, [], ◌++◌, Option, Some, None, length, codes, refl, ◌∙◌, ap, arith, length-append}
use Rattle.std.specs.Prelude.{◌==◌}
use Rattle.std.proofs.lemmas.List.{take_all}
use Rattle.std.proofs.lemmas.Bool.Decides.{nat_tests}
use Rattle.mof_syntax.specs.declared.mof_error.MofError.{MofError}
use Rattle.mof_syntax.specs.declared.mof_error.MofError.TheVariants.{TooMany}
use Rattle.mof_codec.specs.declared.machine.state.State.{State}
use Rattle.mof_codec.specs.declared.machine.state.Place.TheVariants.{Body, AfterComma}
use Rattle.mof_codec.specs.declared.machine.state.Half.TheVariants as halves
use Rattle.mof_codec.specs.declared.machine.state.Event.TheVariants as events
use Rattle.mof_codec.specs.declared.machine.counts.Counts.{Counts}
use Rattle.mof_codec.specs.Machine.{begin}
use Rattle.mof_codec.specs.Winning.{sooner, number_range, too_many, syntax_fault}
use Rattle.mof_codec.proofs.Searches.{first_state, no_counts, fault_in, excess_in, is_excess_integer, scalar_in, number_in, refusal_at, refusal_in}
use Rattle.mof_syntax.specs.declared.limits.TheConstants.{MAX_PROPERTIES, MAX_ELEMENTS, MAX_INSTANCES}

abbrev integer_in : List ℕ → List ℕ → State → Option ℕ
integer_in front left state = scalar_in is_excess_integer front left state

-- the searches go over the head, over each part and over the tail
pub record Repeats (head part tail : List ℕ) (state : State) (counts : ℕ → Counts) (count : ℕ) : Type 0 where
  pub head_fault : (text rest : List ℕ) → fault_in text (head ++ rest) first_state ≡ fault_in text rest state
  pub head_integer : (text rest : List ℕ) → integer_in text (head ++ rest) first_state ≡ integer_in text rest state
  pub head_excess : (text rest : List ℕ) → excess_in text (head ++ rest) first_state no_counts ≡ excess_in text rest state (counts 0)
  pub part_fault : (text rest : List ℕ) → fault_in text (part ++ rest) state ≡ fault_in text rest state
  pub part_integer : (text rest : List ℕ) → integer_in text (part ++ rest) state ≡ integer_in text rest state
  pub part_excess : (text rest : List ℕ) (k : ℕ) → k < count → excess_in text (part ++ rest) state (counts k) ≡ excess_in text rest state (counts (k + 1))
  pub tail_fault : (text : List ℕ) → fault_in text tail state ≡ None
  pub tail_integer : (text : List ℕ) → integer_in text tail state ≡ None

module _ (head part tail : List ℕ) (state : State) (counts : ℕ → Counts) (count : ℕ) (r : Repeats head part tail state counts count)
    (parts : ℕ → List ℕ) (none : parts 0 ≡ tail) (one : (n : ℕ) → parts (suc n) ≡ part ++ parts n) where
  fault_over : (text : List ℕ) (n : ℕ) → fault_in text (parts n) state ≡ None
  fault_over text zero = ap (λ (xs : List ℕ). fault_in text xs state) none ∙ r.tail_fault text
  fault_over text (suc n) = ap (λ (xs : List ℕ). fault_in text xs state) (one n) ∙ r.part_fault text (parts n) ∙ fault_over text n

  integer_over : (text : List ℕ) (n : ℕ) → integer_in text (parts n) state ≡ None
  integer_over text zero = ap (λ (xs : List ℕ). integer_in text xs state) none ∙ r.tail_integer text
  integer_over text (suc n) = ap (λ (xs : List ℕ). integer_in text xs state) (one n) ∙ r.part_integer text (parts n) ∙ integer_over text n

  excess_over : (text : List ℕ) (n k j : ℕ) → k + n ≡ j → j ≤ count → excess_in text (parts n) state (counts k) ≡ excess_in text tail state (counts j)
  excess_over text zero k j e le =
      let same : k ≡ j = omega (arith, e) in
      ap (λ (xs : List ℕ). excess_in text xs state (counts k)) none ∙ ap (λ (i : ℕ). excess_in text tail state (counts i)) same
  excess_over text (suc n) k j e le =
      ap (λ (xs : List ℕ). excess_in text xs state (counts k)) (one n) ∙ r.part_excess text (parts n) k (omega (arith, e, le)) ∙ excess_over text n (k + 1) j (omega (arith, e)) le

  length_over : (n : ℕ) → length (parts n) ≡ n * length part + length tail
  length_over zero = ap (λ (xs : List ℕ). length xs) none ∙ start (length tail)
    where
      start : (l : ℕ) → l ≡ 0 * length part + l
      start l = omega arith
  length_over (suc n) = ap (λ (xs : List ℕ). length xs) (one n) ∙ length-append part (parts n) ∙ more (length part) (length (parts n)) (length_over n)
    where
      more : (p l : ℕ) → l ≡ n * p + length tail → p + l ≡ suc n * p + length tail
      more p l e = omega (arith, e)

  abbrev all : List ℕ
  all = head ++ parts count

  all_fault : fault_in all all first_state ≡ None
  all_fault = r.head_fault all (parts count) ∙ fault_over all count

  all_integer : number_in all (length all) ≡ None
  all_integer = ap (λ (front : List ℕ). integer_in front front first_state) (take_all (length all) all (omega arith)) ∙ r.head_integer all (parts count) ∙ integer_over all count

  all_excess : excess_in all all first_state no_counts ≡ excess_in all tail state (counts count)
  all_excess = r.head_excess all (parts count) ∙ excess_over all count 0 count (omega arith) (omega arith)

  abbrev chosen : Option ℕ → Option ℕ → Option MofError
  chosen number found = sooner None (sooner (number_range number) (sooner (too_many found) (syntax_fault None)))

  only_part : (found : Option ℕ) → chosen None found ≡ too_many found
  only_part None = refl
  only_part (Some at) = refl

  found_is : (found : Option ℕ) → excess_in all tail state (counts count) ≡ found → refusal_in all ≡ too_many found
  found_is found e =
      ap (λ (fault : Option ℕ). refusal_at all fault) all_fault
      ∙ ap (λ (number : Option ℕ). chosen number (excess_in all all first_state no_counts)) all_integer
      ∙ ap (λ (part : Option ℕ). chosen None part) (all_excess ∙ e) ∙ only_part found

  -- what begins after all the parts is the first past its limit
  pub past_refused : excess_in all tail state (counts count) ≡ Some (length all - length tail) → refusal_in all ≡ Some (TooMany (length head + count * length part))
  past_refused e =
      found_is (Some (length all - length tail)) e
      ∙ ap (λ (at : ℕ). Some (TooMany at)) (place (length head) (length part) (length tail) (length (parts count)) (length all) (length_over count) (length-append head (parts count)))
    where
      place : (h p t l a : ℕ) → l ≡ count * p + t → a ≡ h + l → a - t ≡ h + count * p
      place h p t l a e f = omega (arith, e, f)

  -- nothing is past its limit
  pub within_taken : excess_in all tail state (counts count) ≡ None → refusal_in all ≡ None
  within_taken e = found_is None e

below : (k limit : ℕ) → k < limit → (k == limit) ≡ false
below k limit lt = grind (arith, nat_tests)

-- properties

abbrev in_body : State
in_body = record { place = Body; half = halves.Gap; begun = events.Quiet }

abbrev with_properties : ℕ → Counts
with_properties k = record { declarations = 1; properties = k; elements = 0 }

module _ (tail : List ℕ) (fault : (text : List ℕ) → fault_in text tail in_body ≡ None) (integer : (text : List ℕ) → integer_in text tail in_body ≡ None) where
  many_properties : Repeats (codes "instance of A{") (codes "P=1;") tail in_body with_properties MAX_PROPERTIES
  unfolding begin
  many_properties = record {
    head_fault = λ text rest. refl;
    head_integer = λ text rest. refl;
    head_excess = λ text rest. refl;
    part_fault = λ text rest. refl;
    part_integer = λ text rest. refl;
    part_excess = λ text rest k lt. rw (below k MAX_PROPERTIES lt) refl;
    tail_fault = fault;
    tail_integer = integer;
  }

module _ (parts : ℕ → List ℕ) (one : (n : ℕ) → parts (suc n) ≡ codes "P=1;" ++ parts n) where
  pub properties_refused : parts 0 ≡ codes "P=1;};" → refusal_in (codes "instance of A{" ++ parts MAX_PROPERTIES) ≡ Some (TooMany 1038)
  unfolding begin
  properties_refused none = past_refused (codes "instance of A{") (codes "P=1;") (codes "P=1;};") in_body with_properties MAX_PROPERTIES (many_properties (codes "P=1;};") (λ text. refl) (λ text. refl)) parts none one refl

  pub properties_taken : parts 0 ≡ codes "};" → refusal_in (codes "instance of A{" ++ parts MAX_PROPERTIES) ≡ None
  unfolding begin
  properties_taken none = within_taken (codes "instance of A{") (codes "P=1;") (codes "};") in_body with_properties MAX_PROPERTIES (many_properties (codes "};") (λ text. refl) (λ text. refl)) parts none one refl

-- elements, of which the first is in the head

abbrev after_comma : State
after_comma = record { place = AfterComma; half = halves.Gap; begun = events.Quiet }

abbrev with_elements : ℕ → Counts
with_elements k = record { declarations = 1; properties = 1; elements = k + 1 }

module _ (tail : List ℕ) (count : ℕ) (few : count ≤ 4095) (fault : (text : List ℕ) → fault_in text tail after_comma ≡ None) (integer : (text : List ℕ) → integer_in text tail after_comma ≡ None) where
  many_elements : Repeats (codes "instance of A{P={1,") (codes "1,") tail after_comma with_elements count
  unfolding begin
  many_elements = record {
    head_fault = λ text rest. refl;
    head_integer = λ text rest. refl;
    head_excess = λ text rest. refl;
    part_fault = λ text rest. refl;
    part_integer = λ text rest. refl;
    part_excess = λ text rest k lt. rw (below (k + 1) MAX_ELEMENTS (omega (arith, lt, few))) refl;
    tail_fault = fault;
    tail_integer = integer;
  }

module _ (parts : ℕ → List ℕ) (one : (n : ℕ) → parts (suc n) ≡ codes "1," ++ parts n) (none : parts 0 ≡ codes "1};};") where
  pub elements_refused : refusal_in (codes "instance of A{P={1," ++ parts 4095) ≡ Some (TooMany 8209)
  unfolding begin
  elements_refused = past_refused (codes "instance of A{P={1,") (codes "1,") (codes "1};};") after_comma with_elements 4095 (many_elements (codes "1};};") 4095 (omega arith) (λ text. refl) (λ text. refl)) parts none one refl

  pub elements_taken : refusal_in (codes "instance of A{P={1," ++ parts 4094) ≡ None
  unfolding begin
  elements_taken = within_taken (codes "instance of A{P={1,") (codes "1,") (codes "1};};") after_comma with_elements 4094 (many_elements (codes "1};};") 4094 (omega arith) (λ text. refl) (λ text. refl)) parts none one refl

-- declarations

abbrev with_declarations : ℕ → Counts
with_declarations k = record { declarations = k; properties = 0; elements = 0 }

module _ (tail : List ℕ) (fault : (text : List ℕ) → fault_in text tail first_state ≡ None) (integer : (text : List ℕ) → integer_in text tail first_state ≡ None) where
  many_declarations : Repeats [] (codes "instance of A{};") tail first_state with_declarations MAX_INSTANCES
  unfolding begin
  many_declarations = record {
    head_fault = λ text rest. refl;
    head_integer = λ text rest. refl;
    head_excess = λ text rest. refl;
    part_fault = λ text rest. refl;
    part_integer = λ text rest. refl;
    part_excess = λ text rest k lt. rw (below k MAX_INSTANCES lt) refl;
    tail_fault = fault;
    tail_integer = integer;
  }

module _ (parts : ℕ → List ℕ) (one : (n : ℕ) → parts (suc n) ≡ codes "instance of A{};" ++ parts n) where
  pub declarations_refused : parts 0 ≡ codes "instance of A{};" → refusal_in (parts MAX_INSTANCES) ≡ Some (TooMany 65552)
  unfolding begin
  declarations_refused none = past_refused [] (codes "instance of A{};") (codes "instance of A{};") first_state with_declarations MAX_INSTANCES (many_declarations (codes "instance of A{};") (λ text. refl) (λ text. refl)) parts none one refl

  pub declarations_taken : parts 0 ≡ [] → refusal_in (parts MAX_INSTANCES) ≡ None
  unfolding begin
  declarations_taken none = within_taken [] (codes "instance of A{};") [] first_state with_declarations MAX_INSTANCES (many_declarations [] (λ text. refl) (λ text. refl)) parts none one refl
