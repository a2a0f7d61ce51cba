-- Laws of texts, of documents and of merges: each has an answer by the definitions alone.
use Rattle.std.specs.Prelude.{◌≢◌, ◌<◌, ◌⊎◌, ℕ, List}
use Rattle.mof_values.specs.declared.instance.Instance.{Instance}
use Rattle.mof_syntax.specs.declared.mof_error.MofError.{MofError}
use Rattle.mof_syntax.specs.declared.mof_error.MofError.TheVariants as mof
use Rattle.mof_syntax.specs.Limits.{Spells}
use Rattle.mof_syntax.specs.Refusals.{Applies, Reads, Refuses}
use Rattle.dsc_document.specs.declared.document.Document.{Document}
use Rattle.dsc_document.specs.declared.error.DocError.{DocError}
use Rattle.dsc_document.specs.Rules.{IsRefusal, PartRules, Rules, rule_of, document_of, known_dependencies}
use Rattle.partial_merge.specs.declared.part.Part.{Part}
use Rattle.partial_merge.specs.declared.error.MergeError.{MergeError}
use Rattle.partial_merge.specs.declared.error.MergeError.TheVariants.{Memory}
use Rattle.partial_merge.specs.Merged.{Merged}
use Rattle.partial_merge.specs.Refused.{IsUnspelled, Refused}

-- all bytes are read as instances, or nothing is read of them and they are refused, and not for memory
abbrev pub BytesHaveOneKindOfAnswer : Type 0
BytesHaveOneKindOfAnswer =
    (bytes : List ℕ) → ((instances : List Instance) × Reads bytes instances) ⊎ ((refusal : MofError) × IsUnspelled bytes refusal)

-- to characters that spell instances no refusal applies, and bytes that are read are not refused, out of memory aside
pub record WhatIsReadIsNotRefused : Type 0 where
  pub characters : (chars : List ℕ) (instances : List Instance) (refusal : MofError) → Spells chars instances → Applies chars refusal → ⊥
  pub bytes : (bytes : List ℕ) (instances : List Instance) (refusal : MofError) → refusal ≢ mof.Memory → Reads bytes instances → Refuses bytes refusal → ⊥

-- instances keep the rules of a part, or a refusal of one of these rules wins
abbrev pub PartsHaveAnAnswer : Type 0
PartsHaveAnAnswer =
    (instances : List Instance) → PartRules instances (document_of instances) ⊎ ((refusal : DocError) × IsRefusal instances refusal × (rule_of refusal < known_dependencies))

-- instances keep the rules of a whole document, or a refusal wins
abbrev pub DocumentsHaveAnAnswer : Type 0
DocumentsHaveAnAnswer =
    (instances : List Instance) → Rules instances (document_of instances) ⊎ ((refusal : DocError) × IsRefusal instances refusal)

-- the parts are merged to a document, or are refused, and not for memory
abbrev pub MergedOrRefused : List Part → Type 0
MergedOrRefused parts =
    ((document : Document) × Merged parts document) ⊎ ((refusal : MergeError) × (refusal ≢ Memory) × Refused parts refusal)
