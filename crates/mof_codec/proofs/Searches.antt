-- The searches for what refuses a text, as functions over its characters that the check can run.
use Rattle.std.specs.Prelude.{◌-◌, ℕ, Bool, true, false, ◌==◌, nat_le, nat_lt, List, [], ◌∷◌, Option, Some, None, length, take, drop, codes}
use Rattle.mof_values.specs.Fold.{fold_case}
use Rattle.mof_values.specs.Ident.{is_first, is_next}
use Rattle.mof_syntax.specs.declared.mof_error.MofError.{MofError}
use Rattle.mof_syntax.specs.declared.mof_error.Form.{Form}
use Rattle.mof_syntax.specs.declared.mof_error.Form.TheVariants as forms
use Rattle.mof_syntax.specs.Scanning.{magnitude_rest, magnitude_value}
use Rattle.mof_codec.specs.declared.machine.state.State.{State}
use Rattle.mof_codec.specs.declared.machine.state.Place.TheVariants.{Start}
use Rattle.mof_codec.specs.declared.machine.state.Half.TheVariants as halves
use Rattle.mof_codec.specs.declared.machine.state.Event.{Event}
use Rattle.mof_codec.specs.declared.machine.state.Event.TheVariants as events
use Rattle.mof_codec.specs.declared.machine.counts.Counts.{Counts}
use Rattle.mof_codec.specs.Machine.{step, is_whole}
use Rattle.mof_codec.specs.Beginnings.{start_place, begins_declaration, begins_scalar, begins_identifier}
use Rattle.mof_codec.specs.Counting.{counted, is_excess, name_length}
use Rattle.mof_codec.specs.Searching.{begins_with, is_real}
use Rattle.mof_codec.specs.Values.{is_negative, sign_rest}
use Rattle.mof_codec.specs.Winning.{end_of, sooner, out_of_profile, number_range, too_many, syntax_fault}
use Rattle.mof_values.specs.declared.limits.TheConstants.{MAX_IDENTIFIER}

abbrev pub first_state : State
first_state = record { place = Start; half = halves.Gap; begun = events.Quiet }

abbrev pub no_counts : Counts
no_counts = record { declarations = 0; properties = 0; elements = 0 }

-- what is computed of the choice alone, and not of the other

abbrev pub when : {A : Type 0} → Bool → (Unit {0} → A) → (Unit {0} → A) → A
when true so not_so = so tt
when false so not_so = not_so tt

abbrev pub next : {A : Type 0} → Option State → (Unit {0} → A) → (State → A) → A
next None stuck on = stuck tt
next (Some state) stuck on = on state

abbrev pub both : Bool → (Unit {0} → Bool) → Bool
both one other = when one other (λ _. false)

-- where a text goes wrong

abbrev pub is_end : State → Bool
is_end state = both (start_place state.place) (λ _. is_whole state.half)

abbrev pub fault_in : List ℕ → List ℕ → State → Option ℕ
fault_in text [] state = when (is_end state) (λ _. None) (λ _. Some (length text))
fault_in text (c ∷ cs) state = next (step state.half state.place c) (λ _. Some (length text - length (c ∷ cs))) (λ n. fault_in text cs n)

abbrev pub state_in : List ℕ → State → Option State
state_in [] state = Some state
state_in (c ∷ cs) state = next (step state.half state.place c) (λ _. None) (λ n. state_in cs n)

-- the first part past its limit

abbrev pub is_long : List ℕ → Bool
is_long [] = false
is_long (c ∷ cs) = both (is_first c) (λ _. nat_le MAX_IDENTIFIER (name_length cs))

abbrev pub is_past : State → Counts → Event → List ℕ → Bool
is_past state counts begun left = when (is_excess begun counts) (λ _. true) (λ _. both (begins_identifier state.half state.place) (λ _. is_long left))

abbrev pub excess_in : List ℕ → List ℕ → State → Counts → Option ℕ
excess_in text [] state counts = None
excess_in text (c ∷ cs) state counts =
    next (step state.half state.place c) (λ _. None) (λ n.
    when (is_past state counts n.begun (c ∷ cs)) (λ _. Some (length text - length (c ∷ cs))) (λ _. excess_in text cs n (counted n.begun counts)))

-- the first literal of a kind

abbrev pub in_range : Bool → ℕ → Bool
in_range true n = nat_le n 9223372036854775808
in_range false n = nat_lt n 18446744073709551616

abbrev pub out_of : Option (List ℕ) → Bool → Bool
out_of None within = false
out_of (Some rest) true = false
out_of (Some rest) false = true

abbrev pub is_excess_integer : List ℕ → Bool
is_excess_integer cs = out_of (magnitude_rest (sign_rest cs)) (in_range (is_negative cs) (magnitude_value (sign_rest cs)))

abbrev pub stands : (List ℕ → Bool) → State → List ℕ → Bool
stands test state left = both (begins_scalar state.half state.place) (λ _. test left)

abbrev pub scalar_in : (List ℕ → Bool) → List ℕ → List ℕ → State → Option ℕ
scalar_in test front [] state = when (stands test state []) (λ _. Some (length front)) (λ _. None)
scalar_in test front (c ∷ cs) state =
    when (stands test state (c ∷ cs)) (λ _. Some (length front - length (c ∷ cs))) (λ _. next (step state.half state.place c) (λ _. None) (λ n. scalar_in test front cs n))

-- the form that is left out

abbrev pub same : List ℕ → List ℕ → Bool
same [] [] = true
same [] (y ∷ ys) = false
same (x ∷ xs) [] = false
same (x ∷ xs) (y ∷ ys) = both (x == y) (λ _. same xs ys)

abbrev pub stops : List ℕ → Bool
stops [] = true
stops (c ∷ cs) = when (is_next c) (λ _. false) (λ _. true)

abbrev pub begins_word : List ℕ → List ℕ → Bool
begins_word cs word = both (same (fold_case (take (length word) cs)) (fold_case word)) (λ _. stops (drop (length word) cs))

abbrev pub declared_in : List ℕ → Option Form
declared_in cs =
    when (begins_with cs 35) (λ _. Some forms.Pragma) (λ _.
    when (begins_with cs 91) (λ _. Some forms.Qualifiers) (λ _.
    when (begins_word cs (codes "class")) (λ _. Some forms.Class) (λ _.
    when (begins_word cs (codes "qualifier")) (λ _. Some forms.Qualifier) (λ _. None))))

abbrev pub here_in : State → List ℕ → Option Form
here_in state cs =
    when (both (begins_scalar state.half state.place) (λ _. begins_with cs 39)) (λ _. Some forms.Character) (λ _.
    when (begins_declaration state.half state.place) (λ _. declared_in cs) (λ _. None))

abbrev pub as_form : ℕ → Option Form → Option (ℕ × Form)
as_form at None = None
as_form at (Some form) = Some (at, form)

abbrev pub as_real : Option ℕ → Option (ℕ × Form)
as_real None = None
as_real (Some at) = Some (at, forms.Real)

abbrev pub form_in : List ℕ → ℕ → Option (ℕ × Form)
form_in text fault =
    when (begins_with (drop fault text) 46) (λ _. as_real (scalar_in is_real (take fault text) (take fault text) first_state))
    (λ _. next (state_in (take fault text) first_state) (λ _. None) (λ state. as_form fault (here_in state (drop fault text))))

abbrev pub left_out : List ℕ → Option ℕ → Option (ℕ × Form)
left_out text None = None
left_out text (Some fault) = form_in text fault

-- the refusal that wins

abbrev pub number_in : List ℕ → ℕ → Option ℕ
number_in text end = scalar_in is_excess_integer (take end text) (take end text) first_state

abbrev pub refusal_at : List ℕ → Option ℕ → Option MofError
refusal_at text fault =
    sooner (out_of_profile (left_out text fault)) (sooner (number_range (number_in text (end_of text fault))) (sooner (too_many (excess_in text text first_state no_counts)) (syntax_fault fault)))

abbrev pub refusal_in : List ℕ → Option MofError
refusal_in text = refusal_at text (fault_in text text first_state)

-- whether the machine takes the characters
abbrev pub is_taken : List ℕ → Bool
is_taken front = next (state_in front first_state) (λ _. false) (λ _. true)
