-- What a declaration says: the header, a resource, or another instance. Names compare by fold.
use Rattle.std.specs.Prelude.{◌≡◌, ◌≢◌, ℕ, Bool, true, not, ◌&&◌, if◌then◌else◌, List, [], ◌++◌, take, ◌==◌, IsTrue, Option, None, is_some, option_and_then, unwrap_or, filter_map, codes}
use Rattle.std.specs.List.{list_all}
use Rattle.std.specs.Option.{option_map_or}
use Rattle.mof_values.specs.declared.instance.Instance.{Instance}
use Rattle.mof_values.specs.declared.value.Scalar.{Scalar}
use Rattle.mof_values.specs.declared.value.Scalar.TheVariants as scalars
use Rattle.mof_values.specs.declared.value.Value.{Value}
use Rattle.mof_values.specs.declared.value.Value.TheVariants.{One, Many}
use Rattle.dsc_document.specs.Sizes.{Fits}
use Rattle.dsc_document.specs.declared.limits.TheConstants.{MAX_ID, MAX_VERSION}
use Rattle.mof_values.specs.Fold.{same_name}
use Rattle.mof_values.specs.Values.{text_of, text_of_scalar, text_named, scalars_of, value_named}

-- ---- the header

abbrev pub is_header : Instance → Bool
is_header instance = same_name instance.class (codes "OMI_ConfigurationDocument")

-- the first MAX_VERSION characters of its Version, where that is a single text
abbrev pub version_of : Instance → List ℕ
version_of header = take MAX_VERSION (unwrap_or (text_named (codes "Version") header) [])

-- ---- resources

-- the value of the ResourceID of a resource; no other instance has one
abbrev pub id_value : Instance → Option Value
id_value instance = if is_header instance then None else value_named (codes "ResourceID") instance

abbrev pub is_resource : Instance → Bool
is_resource instance = is_some (id_value instance)

-- neither the header nor a resource
abbrev pub is_other : Instance → Bool
is_other instance = not (is_header instance) && not (is_resource instance)

-- the id of a resource, where it is a single text
abbrev pub id_of : Instance → Option (List ℕ)
id_of instance = option_and_then text_of (id_value instance)

-- not a square bracket
abbrev pub is_plain : ℕ → Bool
is_plain c = not (c == 91) && not (c == 93)

-- `[kind]name`, with no bracket in the kind
pub record HasKindAndName (id : List ℕ) : Type 0 where
  pub kind : List ℕ
  pub name : List ℕ
  pub spelled : id ≡ codes "[" ++ kind ++ (codes "]" ++ name)
  pub some_kind : kind ≢ []
  pub some_name : name ≢ []
  pub no_bracket : IsTrue (list_all is_plain kind)

abbrev pub IsResourceId : List ℕ → Type 0
IsResourceId id = HasKindAndName id × Fits MAX_ID id

-- the value of DependsOn of a resource
abbrev pub depends_value : Instance → Option Value
depends_value instance = if is_resource instance then value_named (codes "DependsOn") instance else None

abbrev pub is_text : Scalar → Bool
is_text scalar = is_some (text_of_scalar scalar)

-- the texts among scalars
abbrev pub texts_of : List Scalar → List (List ℕ)
texts_of scalars = filter_map text_of_scalar scalars

-- null, a text or an array of texts
abbrev pub is_list_of_texts : Value → Bool
is_list_of_texts (One scalars.Null) = true
is_list_of_texts (One scalar) = is_text scalar
is_list_of_texts (Many many) = list_all is_text many

-- the ids that a resource depends on
abbrev pub depends_of : Instance → List (List ℕ)
depends_of instance = option_map_or (λ value. texts_of (scalars_of value)) (depends_value instance) []
