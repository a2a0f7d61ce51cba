-- Each resource of a generated document asks for a variable, and so does each that it comes to.
use Rattle.std.proofs.Common.{◌≡◌, ℕ, zero, suc, ◌+◌, ◌-◌, ◌<◌, List, [], ◌∷◌, ◌++◌, length, codes, slice_get, Option, Some, None, Result, Ok, option_and_then, refl, sym, ap, subst, arith}
use Rattle.std.specs.Prelude.{encode_utf8_all}
use Rattle.std.specs.Fmt.{decimal}
use Rattle.std.specs.Option.{IsSomeAnd}
use Rattle.std.specs.Result.{result_ok}
use Rattle.mof_values.specs.declared.instance.Instance.{Instance}
use Rattle.dsc_document.specs.declared.document.Document.{Document}
use Rattle.dsc_document.specs.declared.document.Resource.{Resource}
use Rattle.dsc_document.specs.Dependencies.{Means}
use Rattle.generated_document.specs.Contents.{HasContents, IsResourceOf}
use Rattle.generated_document.specs.Generated.{generated_resource}
use Rattle.resource_kinds.specs.declared.entry.Failure.{Failure}
use Rattle.resource_kinds.specs.declared.wanted.Wanted.{Wanted}
use Rattle.resource_kinds.specs.declared.wanted.Wanted.TheVariants.{Variable}
use Rattle.resource_kinds.specs.Wanted.{folded_utf8, wanted_of}
use Rattle.lcm_core.specs.RepairLaws.{ComesTo, IsSound, itself, through}

-- ---- what it asks for

-- the variable of the resource of this number
abbrev variable_of_number : ℕ → Wanted
variable_of_number i = Variable (folded_utf8 (codes "V" ++ decimal i)) (encode_utf8_all (decimal i))

of_instance : (resource : Resource) (i : ℕ) → wanted_of (record resource { instance = generated_resource i }) ≡ Ok (variable_of_number i)
of_instance resource zero = refl
of_instance resource (suc i) = refl

of_number : (resource : Resource) (i : ℕ) → resource.instance ≡ generated_resource i → wanted_of resource ≡ Ok (variable_of_number i)
of_number resource i is =
    subst (λ (x : Instance). wanted_of (record resource { instance = x }) ≡ Ok (variable_of_number i)) (sym is) (of_instance resource i)

-- the resource asks for a variable
abbrev pub AsksVariable : Resource → Type 0
AsksVariable resource = (name : List ℕ) × (value : List ℕ) × (wanted_of resource ≡ Ok (Variable name value))

-- each does
abbrev pub AskVariables : Document → Type 0
AskVariables document = (k : ℕ) → k < length document.resources → IsSomeAnd (slice_get document.resources k) AsksVariable

asks_variable : (i : ℕ) (resource : Option Resource) → IsSomeAnd resource (IsResourceOf i) → IsSomeAnd resource AsksVariable
asks_variable i None is = absurd is
asks_variable i (Some resource) is = (folded_utf8 (codes "V" ++ decimal i), encode_utf8_all (decimal i), of_number resource i is.instance)

pub ask_variables : (count : ℕ) (document : Document) → HasContents count document → AskVariables document
ask_variables count document has k lt =
    let i = count - (k + 1) in
    asks_variable i (slice_get document.resources k) (has.each k i (omega (arith, lt, has.resources)))

-- ---- no fault of its own

wanted_variable : (resource : Option Resource) → IsSomeAnd resource AsksVariable
    → (wanted : Wanted) × (option_and_then (λ r. result_ok (wanted_of r)) resource ≡ Some wanted)
wanted_variable None asks = absurd asks
wanted_variable (Some resource) asks = (Variable asks.0 asks.1, ap (λ (w : Result Wanted Failure). result_ok w) asks.2)

pub some_within : {A : Type 0} (P : A → Type 0) (xs : List A) (k : ℕ) → IsSomeAnd (slice_get xs k) P → k < length xs
some_within P [] k is = absurd is
some_within P (x ∷ xs) zero is = omega arith
some_within P (x ∷ xs) (suc k) is = omega (arith, some_within P xs k is)

meant : (resources : List Resource) (q : ℕ) (name : Option (List ℕ)) → IsSomeAnd name (λ n. Means resources n q) → q < length resources
meant resources q None is = absurd is
meant resources q (Some name) is = some_within _ resources q is

named : (resources : List Resource) (k q : ℕ) (resource : Option Resource)
    → IsSomeAnd resource (λ r. IsSomeAnd (slice_get r.depends k) (λ n. Means resources n q)) → q < length resources
named resources k q None is = absurd is
named resources k q (Some resource) is = meant resources q (slice_get resource.depends k) is

comes_within : (document : Document) (r s : ℕ) → r < length document.resources → ComesTo document r s → s < length document.resources
comes_within document r s lt (itself q) = lt
comes_within document r s lt (through p q t depends comes) =
    comes_within document q t (named document.resources depends.0 q (slice_get document.resources p) depends.1) comes

pub each_sound : (document : Document) (r : ℕ) → AskVariables document → r < length document.resources → IsSound document r
each_sound document r ask lt q comes = wanted_variable (slice_get document.resources q) (ask q (comes_within document r q lt comes))
