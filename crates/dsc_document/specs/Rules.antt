-- The rules of documents, and which refusal wins where some are broken.
use Rattle.std.specs.Prelude.{◌≡◌, ◌≢◌, ◌⊎◌, ℕ, ◌<◌, ◌≤◌, false, IsTrue, List, [], ◌∷◌, ◌++◌, All, Contains, Option, Some, IsSomeAnd, slice_get, option_map, option_and_then, find, filter, filter_map}
use Rattle.std.specs.List.{enumerate_from}
use Rattle.std.specs.Option.{option_map_or}
use Rattle.mof_values.specs.declared.instance.Instance.{Instance}
use Rattle.mof_values.specs.declared.instance.Property.{Property}
use Rattle.mof_values.specs.declared.value.Scalar.TheVariants.{Alias}
use Rattle.mof_values.specs.declared.value.Value.{Value}
use Rattle.dsc_document.specs.Names.{ShareName, IsName}
use Rattle.mof_values.specs.Values.{scalars_of, text_of}
use Rattle.dsc_document.specs.Declarations.{is_header, version_of, id_value, id_of, is_other, IsResourceId, depends_value, depends_of, is_list_of_texts}
use Rattle.dsc_document.specs.declared.document.Resource.{Resource}
use Rattle.dsc_document.specs.declared.document.Document.{Document}
use Rattle.dsc_document.specs.declared.error.DocError.{DocError}
use Rattle.dsc_document.specs.declared.error.DocError.TheVariants.{DuplicateProperty, TwoAliases, AliasUnknown, NoHeader, TwoHeaders, BadResourceId, DuplicateId, BadDependsOn, DependsUnknown, Memory}

-- ---- what is wrong with an instance

-- the instance at a place has it
abbrev pub HasAt : List Instance → ℕ → (Instance → Type 0) → Type 0
HasAt instances index Has = IsSomeAnd (slice_get instances index) Has

abbrev pub property_name_at : List Property → ℕ → Option (List ℕ)
property_name_at properties place = option_map (λ p. p.name) (slice_get properties place)

-- the first property whose name stands before it, and how it spells that name
pub record RepeatsName (properties : List Property) (name : List ℕ) : Type 0 where
  pub first : ℕ
  pub second : ℕ
  pub shared : ShareName (property_name_at properties) first second
  pub least : (i j : ℕ) → ShareName (property_name_at properties) i j → second ≤ j
  pub spelled : property_name_at properties second ≡ Some name

abbrev pub alias_at : List Instance → ℕ → Option (List ℕ)
alias_at instances index = option_and_then (λ i. i.alias) (slice_get instances index)

abbrev pub id_at : List Instance → ℕ → Option (List ℕ)
id_at instances index = option_and_then id_of (slice_get instances index)

-- a value is an alias, or an array that holds one, and no instance has it
pub record NamesNoAlias (instances : List Instance) (instance : Instance) : Type 0 where
  pub property : Property
  pub alias : List ℕ
  pub declared : Contains instance.properties property
  pub named : Contains (scalars_of property.value) (Alias alias)
  pub unknown : IsName (alias_at instances) alias → ⊥

abbrev pub IsIdValue : Value → Type 0
IsIdValue value = IsSomeAnd (text_of value) IsResourceId

abbrev pub HasBadId : Instance → Type 0
HasBadId instance = IsSomeAnd (id_value instance) (λ value. IsIdValue value → ⊥)

abbrev pub HasBadDependsOn : Instance → Type 0
HasBadDependsOn instance = IsSomeAnd (depends_value instance) (λ value. is_list_of_texts value ≡ false)

-- the first of the names that no resource has as its id
abbrev pub IsFirstUnknown : List Instance → List (List ℕ) → List ℕ → Type 0
IsFirstUnknown instances names name =
    (known : List (List ℕ)) × (rest : List (List ℕ)) × (names ≡ known ++ name ∷ rest)
    × All (IsName (id_at instances)) known × (IsName (id_at instances) name → ⊥)

-- ---- refusals

-- the refusal is true
abbrev pub Applies : List Instance → DocError → Type 0
Applies instances (DuplicateProperty index name) = HasAt instances index (λ i. RepeatsName i.properties name)
Applies instances (TwoAliases first second) = ShareName (alias_at instances) first second
Applies instances (AliasUnknown index) = HasAt instances index (NamesNoAlias instances)
Applies instances NoHeader = All (λ i. is_header i ≡ false) instances
Applies instances (TwoHeaders first second) =
    (first < second) × HasAt instances first (λ i. IsTrue (is_header i)) × HasAt instances second (λ i. IsTrue (is_header i))
Applies instances (BadResourceId index) = HasAt instances index HasBadId
Applies instances (DuplicateId first second) = ShareName (id_at instances) first second
Applies instances (BadDependsOn index) = HasAt instances index HasBadDependsOn
Applies instances (DependsUnknown index name) = HasAt instances index (λ i. IsFirstUnknown instances (depends_of i) name)
Applies instances Memory = ⊥

-- the rules, in the order in which their refusals win
abbrev pub distinct_property_names : ℕ
distinct_property_names = 1

abbrev pub distinct_aliases : ℕ
distinct_aliases = 2

abbrev pub known_aliases : ℕ
known_aliases = 3

abbrev pub some_header : ℕ
some_header = 4

abbrev pub one_header : ℕ
one_header = 5

abbrev pub resource_ids : ℕ
resource_ids = 6

abbrev pub distinct_ids : ℕ
distinct_ids = 7

abbrev pub texts_to_depend_on : ℕ
texts_to_depend_on = 8

abbrev pub known_dependencies : ℕ
known_dependencies = 9

-- the rule that a refusal says is broken
abbrev pub rule_of : DocError → ℕ
rule_of Memory = 0
rule_of (DuplicateProperty index name) = distinct_property_names
rule_of (TwoAliases first second) = distinct_aliases
rule_of (AliasUnknown index) = known_aliases
rule_of NoHeader = some_header
rule_of (TwoHeaders first second) = one_header
rule_of (BadResourceId index) = resource_ids
rule_of (DuplicateId first second) = distinct_ids
rule_of (BadDependsOn index) = texts_to_depend_on
rule_of (DependsUnknown index name) = known_dependencies

-- the index of a refusal, or the second and the first of a pair
abbrev pub indexes_of : DocError → ℕ × ℕ
indexes_of (DuplicateProperty index name) = (index, 0)
indexes_of (TwoAliases first second) = (second, first)
indexes_of (AliasUnknown index) = (index, 0)
indexes_of (TwoHeaders first second) = (second, first)
indexes_of (BadResourceId index) = (index, 0)
indexes_of (DuplicateId first second) = (second, first)
indexes_of (BadDependsOn index) = (index, 0)
indexes_of (DependsUnknown index name) = (index, 0)
indexes_of _ = (0, 0)

abbrev pub StandsBefore : ℕ × ℕ → ℕ × ℕ → Type 0
StandsBefore a b = (a.0 < b.0) ⊎ ((a.0 ≡ b.0) × (a.1 < b.1))

-- the refusal of an earlier rule wins, and of one rule the earlier index
abbrev pub WinsOver : DocError → DocError → Type 0
WinsOver a b = (rule_of a < rule_of b) ⊎ ((rule_of a ≡ rule_of b) × StandsBefore (indexes_of a) (indexes_of b))

-- the refusal applies, and none that wins over it does
pub record IsRefusal (instances : List Instance) (refusal : DocError) : Type 0 where
  pub applies : Applies instances refusal
  pub wins : (other : DocError) → WinsOver other refusal → Applies instances other → ⊥

-- the instances are refused so: the refusal wins, or memory ran out
abbrev pub RefusedBy : List Instance → DocError → Type 0
RefusedBy instances refusal = refusal ≢ Memory → IsRefusal instances refusal

-- at most one refusal wins
abbrev pub OneRefusalWins : List Instance → Type 0
OneRefusalWins instances = (a b : DocError) → IsRefusal instances a → IsRefusal instances b → a ≡ b

-- ---- documents

-- the resource that an instance at a place declares, if it does
abbrev pub resource_at : ℕ × Instance → Option Resource
resource_at (index, instance) =
    option_map (λ id. record { id = id; part = 0; index = index; instance = instance; depends = depends_of instance }) (id_of instance)

-- the document of the instances of one part
abbrev pub document_of : List Instance → Document
document_of instances = record {
  version = option_map_or version_of (find is_header instances) [];
  resources = filter_map resource_at (enumerate_from 0 instances);
  others = filter is_other instances;
  parts = [] ∷ [];
}

-- no refusal applies, and the document is that of the instances
pub record Rules (instances : List Instance) (document : Document) : Type 0 where
  pub kept : (refusal : DocError) → Applies instances refusal → ⊥
  pub made : document ≡ document_of instances

-- the rules of a part: all but that what a resource depends on is in the document
pub record PartRules (instances : List Instance) (document : Document) : Type 0 where
  pub kept : (refusal : DocError) → rule_of refusal < known_dependencies → Applies instances refusal → ⊥
  pub made : document ≡ document_of instances
