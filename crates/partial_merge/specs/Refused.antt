-- Why parts are not merged. A reason stands only where none that wins over it does.
use Rattle.std.specs.Prelude.{◌≡◌, ◌≢◌, ℕ, ◌<◌, ◌≤◌, List, IsSomeAnd, length, slice_get, ⊤}
use Rattle.mof_values.specs.declared.instance.Instance.{Instance}
use Rattle.mof_syntax.specs.Refusals.{Reads, ReadsNothing, Refuses}
use Rattle.mof_syntax.specs.declared.mof_error.MofError.{MofError}
use Rattle.mof_syntax.specs.declared.mof_error.MofError.TheVariants as mof
use Rattle.dsc_document.specs.declared.document.Document.{Document}
use Rattle.dsc_document.specs.declared.document.Resource.{Resource}
use Rattle.dsc_document.specs.declared.spot.Spot.{Spot}
use Rattle.dsc_document.specs.Dependencies.{HasDistinctIds, IsFirstUnknownId, NamesResources}
use Rattle.dsc_document.specs.Rules.{IsRefusal, rule_of, known_dependencies}
use Rattle.dsc_document.specs.declared.limits.TheConstants.{MAX_RESOURCES}
use Rattle.depend_order.specs.Documents.{IsCycleOfDocument}
use Rattle.partial_merge.specs.declared.part.Part.{Part}
use Rattle.partial_merge.specs.declared.error.PartFault.{PartFault}
use Rattle.partial_merge.specs.declared.error.PartFault.TheVariants.{Mof, Doc}
use Rattle.partial_merge.specs.declared.error.MergeError.{MergeError}
use Rattle.partial_merge.specs.declared.error.MergeError.TheVariants as refusals
use Rattle.partial_merge.specs.Parts.{AreJoined, AreParts, IsWhole, NamesDiffer, part_name_at}
use Rattle.depend_order.specs.Repeats.{IsFirstRepeat, IsFirstRepeatedId}

-- the bytes spell no instances and are refused so; never for memory
pub record IsUnspelled (bytes : List ℕ) (refusal : MofError) : Type 0 where
  pub caused : refusal ≢ mof.Memory
  pub unspelled : ReadsNothing bytes
  pub refused : Refuses bytes refusal

-- the bytes spell no instances, or the instances that they spell break this rule of parts
abbrev pub IsFault : List ℕ → PartFault → Type 0
IsFault bytes (Mof refusal) = IsUnspelled bytes refusal
IsFault bytes (Doc refusal) =
    (instances : List Instance) × Reads bytes instances × IsRefusal instances refusal × (rule_of refusal < known_dependencies)

abbrev pub HasFault : Part → PartFault → Type 0
HasFault part fault = IsFault part.bytes fault

-- the refusal is a fault of a part, of which the fact holds, or out of memory
abbrev pub IsPartFault : (ℕ → PartFault → Type 0) → MergeError → Type 0
IsPartFault P (refusals.Part index fault) = P index fault
IsPartFault P refusals.Memory = ⊤
IsPartFault P _ = ⊥

-- the refusal is a fault of the text of the part at this place, or out of memory
abbrev pub IsFaultAt : ℕ → List ℕ → MergeError → Type 0
IsFaultAt place bytes refusal = IsPartFault (λ index fault. (index ≡ place) × IsFault bytes fault) refusal

-- names differ, the part at the index has the fault, and every part before it is whole
pub record IsFirstFault (parts : List Part) (index : ℕ) (fault : PartFault) : Type 0 where
  pub names : NamesDiffer parts
  pub here : IsSomeAnd (slice_get parts index) (λ part. HasFault part fault)
  pub before : (k : ℕ) → k < index → IsSomeAnd (slice_get parts k) (λ part. (document : Document) × IsWhole part document)

-- the parts are joined to a document of that many resources, and these are too many
pub record HasTooMany (parts : List Part) (count : ℕ) : Type 0 where
  pub document : Document
  pub are_joined : AreJoined parts document
  pub counted : count ≡ length document.resources
  pub many : MAX_RESOURCES < count

-- the parts are joined to a document of not too many resources, and the first two of these with the same id are those at the spots
pub record HasSameIds (parts : List Part) (first second : Spot) : Type 0 where
  pub document : Document
  pub are_joined : AreJoined parts document
  pub few : length document.resources ≤ MAX_RESOURCES
  pub repeats : IsFirstRepeatedId document.resources first second

-- the parts are one document, in which the first unknown id is this one
pub record HasUnknown (parts : List Part) (spot : Spot) (name : List ℕ) : Type 0 where
  pub document : Document
  pub parts_are : AreParts parts document
  pub unknown : IsFirstUnknownId document spot name

-- the parts are one document, whose dependencies are resources and form a cycle
pub record HasCycle (parts : List Part) (cycle : List ℕ) : Type 0 where
  pub document : Document
  pub parts_are : AreParts parts document
  pub known : NamesResources document
  pub leads_round : IsCycleOfDocument document cycle

-- ---- which refusals are of the names, and which of a document that parts are joined to

abbrev pub IsNameFault : List Part → MergeError → Type 0
IsNameFault parts (refusals.TwoNames first second) = IsFirstRepeat (part_name_at parts) first second
IsNameFault parts refusals.Memory = ⊤
IsNameFault parts _ = ⊥

abbrev pub IsIdFault : List Resource → MergeError → Type 0
IsIdFault resources (refusals.DuplicateId first second) = IsFirstRepeatedId resources first second
IsIdFault resources refusals.Memory = ⊤
IsIdFault resources _ = ⊥

-- not too many resources, and their ids differ
abbrev pub HasFewDistinctIds : Document → Type 0
HasFewDistinctIds document = (length document.resources ≤ MAX_RESOURCES) × HasDistinctIds document

abbrev pub IsDocumentFault : Document → MergeError → Type 0
IsDocumentFault document (refusals.TooMany count) = (count ≡ length document.resources) × (MAX_RESOURCES < count)
IsDocumentFault document (refusals.DuplicateId first second) =
    (length document.resources ≤ MAX_RESOURCES) × IsFirstRepeatedId document.resources first second
IsDocumentFault document (refusals.DependsUnknown spot name) = HasFewDistinctIds document × IsFirstUnknownId document spot name
IsDocumentFault document (refusals.Cycle cycle) =
    HasFewDistinctIds document × NamesResources document × IsCycleOfDocument document cycle
IsDocumentFault document refusals.Memory = ⊤
IsDocumentFault document _ = ⊥

-- the parts are refused so. Out of memory has no cause here
abbrev pub Refused : List Part → MergeError → Type 0
Refused parts (refusals.TwoNames first second) = IsFirstRepeat (part_name_at parts) first second
Refused parts (refusals.Part index fault) = IsFirstFault parts index fault
Refused parts (refusals.TooMany count) = HasTooMany parts count
Refused parts (refusals.DuplicateId first second) = HasSameIds parts first second
Refused parts (refusals.DependsUnknown spot name) = HasUnknown parts spot name
Refused parts (refusals.Cycle cycle) = HasCycle parts cycle
Refused parts refusals.Memory = ⊤
