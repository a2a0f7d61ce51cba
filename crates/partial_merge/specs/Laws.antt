-- What parts come to is one thing: a document or a refusal, out of memory aside.
use Rattle.std.specs.Prelude.{◌≡◌, ◌≢◌, ◌⊎◌, List, [], ◌∷◌, All, ⊤}
use Rattle.dsc_document.specs.declared.document.Document.{Document}
use Rattle.partial_merge.specs.declared.part.Part.{Part}
use Rattle.partial_merge.specs.declared.error.MergeError.{MergeError}
use Rattle.partial_merge.specs.declared.error.MergeError.TheVariants as refusals
use Rattle.partial_merge.specs.declared.error.MergeError.TheVariants.{Memory}
use Rattle.partial_merge.specs.declared.error.PartFault.{PartFault}
use Rattle.partial_merge.specs.Merged.{Merged}
use Rattle.partial_merge.specs.Parts.{IsWhole}
use Rattle.partial_merge.specs.Refused.{HasFault, Refused}

abbrev pub AtMostOneDocument : List Part → Type 0
AtMostOneDocument parts = (one other : Document) → Merged parts one → Merged parts other → one ≡ other

abbrev pub NeverBoth : List Part → Type 0
NeverBoth parts =
    (document : Document) (refusal : MergeError) → refusal ≢ Memory → Merged parts document → Refused parts refusal → ⊥

abbrev pub AtMostOneRefusal : List Part → Type 0
AtMostOneRefusal parts =
    (one other : MergeError) → one ≢ Memory → other ≢ Memory → Refused parts one → Refused parts other → one ≡ other

-- the part is a document, or has a fault
abbrev pub IsRead : Part → Type 0
IsRead part = ((document : Document) × IsWhole part document) ⊎ ((fault : PartFault) × HasFault part fault)

-- where each part is read, the parts are merged or refused
abbrev pub AnswersExist : List Part → Type 0
AnswersExist parts =
    All IsRead parts → ((document : Document) × Merged parts document) ⊎ ((refusal : MergeError) × (refusal ≢ Memory) × Refused parts refusal)

-- a refusal of one part: of the part, of what it depends on, or of its order
abbrev pub IsOfOnePart : MergeError → Type 0
IsOfOnePart (refusals.TwoNames first second) = ⊥
IsOfOnePart (refusals.TooMany count) = ⊥
IsOfOnePart (refusals.DuplicateId first second) = ⊥
IsOfOnePart _ = ⊤

abbrev pub OnePartRefusals : Part → Type 0
OnePartRefusals part = (refusal : MergeError) → Refused (part ∷ []) refusal → IsOfOnePart refusal
