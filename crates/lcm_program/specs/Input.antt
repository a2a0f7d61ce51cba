-- What an input is: bytes, the instances that they spell, or the document that they declare; or the error for which it is refused.
use Rattle.std.specs.Prelude.{◌≡◌, ◌≢◌, ℕ, ◌<◌, ◌≤◌, List, [], ◌∷◌, length, Option, Result, Ok, Err, IfSome, ⊤}
use Rattle.dsc_terms.specs.Counts.{Rose}
use Rattle.mof_values.specs.declared.instance.Instance.{Instance}
use Rattle.meta_config.specs.declared.limits.TheConstants.{MAX_META_TEXT}
use Rattle.mof_syntax.specs.declared.limits.TheConstants.{MAX_DOCUMENT}
use Rattle.mof_syntax.specs.Refusals as syntax
use Rattle.dsc_document.specs.declared.document.Document.{Document}
use Rattle.partial_merge.specs.declared.part.Part.{Part}
use Rattle.partial_merge.specs.declared.error.MergeError.{MergeError}
use Rattle.partial_merge.specs.declared.error.MergeError.TheVariants as merge
use Rattle.partial_merge.specs.Merged.{Merged}
use Rattle.partial_merge.specs.Parts.{unnamed_part}
use Rattle.partial_merge.specs.Refused.{IsUnspelled, Refused}
use Rattle.meta_config.specs.declared.error.MetaError.{MetaError}
use Rattle.meta_config.specs.declared.error.MetaError.TheVariants as meta_errors
use Rattle.meta_config.specs.declared.meta.Meta as declared
use Rattle.meta_config.specs.Parts.{HasPartsOrder, IsCycleOfParts, IsOrderOfParts}
use Rattle.meta_config.specs.Refusals as metas
use Rattle.dsc_node.specs.declared.status.InputError.{InputError}
use Rattle.dsc_node.specs.declared.status.InputError.TheVariants.{TooLong, Mof, Merge, Meta, Parts, Fit, ListTooLong, Compile, Script}
use Rattle.lcm_program.specs.declared.input.Unread.{Unread}
use Rattle.lcm_program.specs.declared.input.Unread.TheVariants as unread

-- the most bytes of an input: those of a document
abbrev pub input_limit : ℕ
input_limit = MAX_DOCUMENT

-- and those of a meta-configuration
abbrev pub meta_limit : ℕ
meta_limit = MAX_META_TEXT

-- ---- readings: what bytes are read as, or the error for which they are refused

abbrev pub Reading : Type 0 → Type 1
Reading A = List ℕ → Result A InputError → Type 0

-- bytes of at most this number
abbrev pub ReadsBytes : ℕ → Reading (List ℕ)
ReadsBytes limit all (Ok bytes) = (bytes ≡ all) × (length all ≤ limit)
ReadsBytes limit all (Err error) = (error ≡ TooLong) × (limit < length all)

-- the instances that the bytes spell; of the refusals that apply to bytes within the limit, the one that wins
abbrev pub ReadsInstances : Reading (List Instance)
ReadsInstances all (Ok instances) = syntax.Reads all instances
ReadsInstances all (Err TooLong) = input_limit < length all
ReadsInstances all (Err (Mof error)) = (length all ≤ input_limit) × IsUnspelled all error
ReadsInstances all (Err (Merge error)) = ⊥
ReadsInstances all (Err (Meta error)) = ⊥
ReadsInstances all (Err (Parts walk)) = ⊥
ReadsInstances all (Err (Fit error)) = ⊥
ReadsInstances all (Err (ListTooLong bytes)) = ⊥
ReadsInstances all (Err (Compile reason)) = ⊥
ReadsInstances all (Err (Script line)) = ⊥

-- the part that an input is, which has no name
abbrev pub parts_of : List ℕ → List Part
parts_of all = unnamed_part all ∷ []

-- the bytes are within the limit and declare no document, and of the refusals that apply to them this one wins
pub record IsNoDocument (all : List ℕ) (error : MergeError) : Type 0 where
  pub fits : length all ≤ input_limit
  pub wins : Refused (parts_of all) error
  pub cause : error ≢ merge.Memory

-- the document that the bytes declare
abbrev pub ReadsDocument : Reading Document
ReadsDocument all (Ok document) = Merged (parts_of all) document
ReadsDocument all (Err TooLong) = input_limit < length all
ReadsDocument all (Err (Mof error)) = ⊥
ReadsDocument all (Err (Merge error)) = IsNoDocument all error
ReadsDocument all (Err (Meta error)) = ⊥
ReadsDocument all (Err (Parts walk)) = ⊥
ReadsDocument all (Err (Fit error)) = ⊥
ReadsDocument all (Err (ListTooLong bytes)) = ⊥
ReadsDocument all (Err (Compile reason)) = ⊥
ReadsDocument all (Err (Script line)) = ⊥

-- the bytes are within the limit and declare no meta-configuration, and of the refusals that apply to them this one wins
pub record IsNoMeta (all : List ℕ) (error : MetaError) : Type 0 where
  pub fits : length all ≤ meta_limit
  pub wins : metas.Refuses all error
  pub cause : error ≢ meta_errors.Memory
  pub none : (meta : declared.Meta) → metas.Means all meta → ⊥

-- they are within the limit and declare one whose partial configurations go round like this and have no order
pub record IsUnordered (all walk : List ℕ) : Type 0 where
  pub fits : length all ≤ meta_limit
  pub meta : declared.Meta
  pub means : metas.Means all meta
  pub cycle : IsCycleOfParts meta walk
  pub none : (order : List ℕ) → IsOrderOfParts meta order → ⊥

-- the meta-configuration that the bytes declare, whose partial configurations have an order
pub record IsMetaInput (all : List ℕ) (meta : declared.Meta) : Type 0 where
  pub fits : length all ≤ meta_limit
  pub means : metas.Means all meta
  pub ordered : HasPartsOrder meta

abbrev pub ReadsMeta : Reading declared.Meta
ReadsMeta all (Ok meta) = IsMetaInput all meta
ReadsMeta all (Err TooLong) = meta_limit < length all
ReadsMeta all (Err (Mof error)) = ⊥
ReadsMeta all (Err (Merge error)) = ⊥
ReadsMeta all (Err (Meta error)) = IsNoMeta all error
ReadsMeta all (Err (Parts walk)) = IsUnordered all walk
ReadsMeta all (Err (Fit error)) = ⊥
ReadsMeta all (Err (ListTooLong bytes)) = ⊥
ReadsMeta all (Err (Compile reason)) = ⊥
ReadsMeta all (Err (Script line)) = ⊥

-- ---- inputs

-- the whole input, that of the source where it is shown, is read so
pub record IsInput {A : Type 0} (reads : List ℕ → A → Type 0) (input : Option (List ℕ)) (answer : A) : Type 0 where
  pub all : List ℕ
  pub input_is : IfSome input (λ shown. shown ≡ all)
  pub is_answer : reads all answer

-- the input has more bytes
abbrev pub IsLonger : List ℕ → ℕ → Type 0
IsLonger all most = most < length all

-- why an input was not read: it is refused for the error that it is read as, a read failed, or memory ran out
abbrev pub IsUnread : {A : Type 0} → Reading A → Unread → Option (List ℕ) → ℕ → ℕ → Type 0
IsUnread reads (unread.Refused error) input before now = IsInput reads input (Err error)
IsUnread reads unread.ReadFault input before now = Rose before now
IsUnread reads unread.Memory input before now = ⊤

-- why, where no memory is taken to read it
abbrev pub IsRefused : {A : Type 0} → Reading A → Unread → Option (List ℕ) → ℕ → ℕ → Type 0
IsRefused reads unread.Memory input before now = ⊥
IsRefused reads cause input before now = IsUnread reads cause input before now
