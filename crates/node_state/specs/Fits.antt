-- Where a document fits a meta-configuration, and why it does not. Names and types compare by fold.
use Rattle.std.specs.Prelude.{ℕ, ◌+◌, Bool, not, ◌&&◌, ◌==◌, if◌then◌else◌, List, [], ◌∷◌, length, drop, Option, Some, None, option_map, unwrap_or, slice_get}
use Rattle.std.specs.List.{list_any, position, take_while}
use Rattle.std.specs.Option.{option_or}
use Rattle.mof_values.specs.Fold.{same_name}
use Rattle.dsc_document.specs.declared.document.Document.{Document}
use Rattle.dsc_document.specs.declared.document.Resource.{Resource}
use Rattle.meta_config.specs.declared.meta.Partial.{Partial}
use Rattle.node_state.specs.declared.error.FitError.{FitError}
use Rattle.node_state.specs.declared.error.FitError.TheVariants.{PartCount, MissingPart, StrangePart, ExclusiveTaken}

-- ---- types

-- no closing bracket
abbrev pub is_inside : ℕ → Bool
is_inside c = not (c == 93)

-- what stands in the first brackets of an id
abbrev pub type_of : List ℕ → List ℕ
type_of id = take_while is_inside (drop 1 id)

abbrev pub is_backslash : ℕ → Bool
is_backslash c = c == 92

-- what stands after the last backslash of a claim, or all of a claim that has none
abbrev pub claimed : List ℕ → List ℕ
claimed [] = []
claimed (c ∷ claim) = if list_any is_backslash (c ∷ claim) then claimed claim else c ∷ claim

abbrev pub claims : List ℕ → Partial → Bool
claims type partial = list_any (λ claim. same_name (claimed claim) type) partial.exclusive

-- ---- parts

abbrev pub has_part : List (List ℕ) → Partial → Bool
has_part parts partial = list_any (λ name. same_name name partial.name) parts

abbrev pub is_partial : List Partial → List ℕ → Bool
is_partial partials name = list_any (λ partial. same_name name partial.name) partials

-- the name of the part that declares the resource
abbrev pub part_name : List (List ℕ) → Resource → List ℕ
part_name parts resource = unwrap_or (slice_get parts resource.part) []

-- a partial configuration that has a part depends on the name
abbrev pub is_needed : List Partial → List (List ℕ) → List ℕ → Bool
is_needed partials parts name = list_any (λ partial. has_part parts partial && list_any (same_name name) partial.depends) partials

-- a partial configuration other than that of the name claims the type
abbrev pub is_taken : List Partial → List ℕ → List ℕ → Bool
is_taken partials name type = list_any (λ partial. not (same_name name partial.name) && claims type partial) partials

-- ---- refusals, one by one

-- one part where no partial configuration is declared
abbrev pub wrong_count : List (List ℕ) → Option FitError
wrong_count parts = if length parts == 1 then None else Some (PartCount (length parts))

-- the first part that is no partial configuration
abbrev pub strange_part : List Partial → List (List ℕ) → Option FitError
strange_part partials parts = option_map (λ place. StrangePart place) (position (λ name. not (is_partial partials name)) parts)

-- the partial configuration has no part, and one that has a part depends on it
abbrev pub lacks_part : List Partial → List (List ℕ) → Partial → Bool
lacks_part partials parts partial = not (has_part parts partial) && is_needed partials parts partial.name

-- the first one that lacks its part
abbrev pub missing_part : List Partial → List (List ℕ) → Option FitError
missing_part partials parts = option_map (λ place. MissingPart place) (position (lacks_part partials parts) partials)

-- the first resource, from a place on, whose type another partial configuration claims
abbrev pub taken_from : List Partial → List (List ℕ) → ℕ → List Resource → Option FitError
taken_from partials parts place [] = None
taken_from partials parts place (resource ∷ resources) =
    if is_taken partials (part_name parts resource) (type_of resource.id) then Some (ExclusiveTaken resource.part place)
    else taken_from partials parts (place + 1) resources

abbrev pub misfit_of_parts : List Partial → Document → Option FitError
misfit_of_parts partials document =
    option_or (strange_part partials document.parts)
    (option_or (missing_part partials document.parts)
    (taken_from partials document.parts 0 document.resources))

-- why the document does not fit
abbrev pub misfit : List Partial → Document → Option FitError
misfit [] document = wrong_count document.parts
misfit (partial ∷ partials) document = misfit_of_parts (partial ∷ partials) document
