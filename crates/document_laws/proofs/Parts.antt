-- Parts are merged or refused: each of them is read, or has a fault.
use Rattle.std.proofs.Common.{inl, inr, List}
use Rattle.std.specs.Prelude.{slice_index_or}
use Rattle.mof_values.specs.declared.instance.Instance.{Instance}
use Rattle.mof_syntax.specs.Refusals.{Reads}
use Rattle.dsc_document.specs.Rules.{document_of}
use Rattle.partial_merge.specs.declared.error.PartFault.TheVariants.{Doc, Mof}
use Rattle.partial_merge.specs.declared.part.Part.{Part}
use Rattle.partial_merge.specs.Laws.{IsRead}
use Rattle.partial_merge.proofs.Existing.{answers_exist}
use Rattle.document_laws.specs.Laws.{MergedOrRefused}
use Rattle.document_laws.proofs.Reading.{read_or_refused}
use Rattle.document_laws.proofs.Rules.{part_kept_or_broken}

spelled_part : (part : Part) (instances : List Instance) → Reads part.bytes instances → IsRead part
spelled_part part instances read = elim (part_kept_or_broken instances) [
  | inl kept ↦ inl (document_of instances, record { instances = instances; spelled = read; rules = kept })
  | inr broken ↦ inr (Doc broken.0, (instances, read, broken.1, broken.2))
]

is_read : (part : Part) → IsRead part
is_read part = elim (read_or_refused part.bytes) [
  | inl read ↦ spelled_part part read.0 read.1
  | inr unspelled ↦ inr (Mof unspelled.0, unspelled.1)
]

pub merged_or_refused : (parts : List Part) → MergedOrRefused parts
merged_or_refused parts = answers_exist parts (λ k d within. is_read (slice_index_or parts k d))
