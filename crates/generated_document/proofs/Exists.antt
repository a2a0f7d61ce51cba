-- The generated document exists.
use Rattle.std.proofs.Common.{inl, inr, ℕ, ◌≤◌, [], ◌∷◌, refl, arith}
use Rattle.mof_syntax.specs.Canonical.{canonical_bytes}
use Rattle.dsc_document.specs.Tests.{KeepsUpTo}
use Rattle.dsc_document.specs.declared.document.Document.{Document}
use Rattle.dsc_document.specs.Rules.{document_of, texts_to_depend_on}
use Rattle.dsc_document.proofs.Declared.{document_distinct, document_few}
use Rattle.depend_order.proofs.KnownNames.{document_order_or_cycle}
use Rattle.partial_merge.specs.Merged.{Merged}
use Rattle.partial_merge.specs.Parts.{AreParts, unnamed_part}
use Rattle.partial_merge.proofs.OnePart.{are_parts}
use Rattle.generated_document.specs.Generated.{IsGenerated, generated_instances}
use Rattle.generated_document.proofs.Kept.{rules_kept}
use Rattle.generated_document.proofs.NoCycle.{no_cycle}
use Rattle.generated_document.proofs.Reading.{generated_reads}
use Rattle.generated_document.proofs.Resources.{names_resources, resources_are}
use Rattle.generated_document.proofs.Within.{instances_count}
use Rattle.dsc_document.specs.declared.limits.TheConstants.{MAX_RESOURCES}

module _ (n : ℕ) (few : n ≤ MAX_RESOURCES) where
  the_document : Document
  the_document = document_of (generated_instances n)

  kept : KeepsUpTo texts_to_depend_on (generated_instances n)
  kept refusal condition applies = rules_kept n few refusal (omega (arith, condition)) applies

  its_parts : AreParts (unnamed_part (canonical_bytes (generated_instances n)) ∷ []) the_document
  unfolding the_document
  its_parts =
      are_parts (unnamed_part (canonical_bytes (generated_instances n))) the_document ([] ∷ []) refl
      (record {
        instances = generated_instances n;
        spelled = generated_reads n (canonical_bytes (generated_instances n)) few refl;
        rules = record { kept = rules_kept n few; made = refl };
      })
      (omega (arith, few, instances_count n, document_few (generated_instances n) the_document refl kept))
      (document_distinct (generated_instances n) the_document refl kept)

  merged : Merged (unnamed_part (canonical_bytes (generated_instances n)) ∷ []) the_document
  unfolding the_document
  merged =
      let part = unnamed_part (canonical_bytes (generated_instances n)) in
      let reads = generated_reads n (canonical_bytes (generated_instances n)) few refl in
      let stand = resources_are part n reads the_document its_parts in
      let known = names_resources the_document n stand in
      record {
        parts_are = its_parts;
        known = known;
        ordered = elim (document_order_or_cycle the_document (document_distinct (generated_instances n) the_document refl kept) known) [
          | inl order ↦ order
          | inr cycle ↦ absurd (no_cycle the_document n few stand cycle.0 cycle.1)
        ];
      }

  pub generated_exists : (document : Document) × IsGenerated n document
  generated_exists = (the_document, record { text = canonical_bytes (generated_instances n); written = refl; merged = merged })
