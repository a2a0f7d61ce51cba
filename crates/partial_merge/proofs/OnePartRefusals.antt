-- One part has neither too many resources nor equal ids.
use Rattle.std.proofs.Common.{ℕ, List, [], ◌∷◌, subst, refl, arith}
use Rattle.std.specs.List.{AllZip}
use Rattle.dsc_document.specs.Rules.{texts_to_depend_on}
use Rattle.dsc_document.specs.Tests.{KeepsUpTo}
use Rattle.dsc_document.specs.declared.document.Document.{Document}
use Rattle.dsc_document.specs.declared.spot.Spot.{Spot}
use Rattle.dsc_document.proofs.Declared.{document_distinct, document_few}
use Rattle.partial_merge.specs.declared.part.Part.{Part}
use Rattle.partial_merge.specs.declared.error.MergeError.TheVariants as refusals
use Rattle.partial_merge.specs.Laws.{OnePartRefusals}
use Rattle.partial_merge.specs.Parts.{AreJoined, AreParts, IsWhole, named}
use Rattle.partial_merge.specs.Refused.{HasSameIds, HasTooMany}
use Rattle.partial_merge.proofs.OneMerge.{joined_once, same_ids, too_many}
use Rattle.partial_merge.proofs.OnePart.{are_parts, one_differs}

module _ (part : Part) where
  whole_parts : (document : Document) → IsWhole part document → AreParts (part ∷ []) (named document (part.name ∷ []))
  whole_parts document whole =
      let kept : KeepsUpTo texts_to_depend_on whole.instances = λ refusal condition. whole.rules.kept refusal (omega (arith, condition)) in
      are_parts part document (part.name ∷ []) refl whole
      (omega (arith, document_few whole.instances document whole.rules.made kept, whole.spelled.spelled.limits.count))
      (document_distinct whole.instances document whole.rules.made kept)

  -- what one part is joined to is its document
  pub one_are_parts : (document : Document) → AreJoined (part ∷ []) document → AreParts (part ∷ []) document
  one_are_parts document are = go are.documents are.whole
    where
      go : (documents : List Document) → AllZip IsWhole (part ∷ []) documents → AreParts (part ∷ []) document
      go [] whole = absurd whole
      go (d ∷ ds) whole =
          let parts = whole_parts d whole.0 in
          subst (λ (x : Document). AreParts (part ∷ []) x) (joined_once (part ∷ []) (named d (part.name ∷ [])) document parts.are_joined are) parts

  pub one_not_many : (count : ℕ) → HasTooMany (part ∷ []) count → ⊥
  one_not_many count has = too_many (part ∷ []) count has has.document has.are_joined (one_are_parts has.document has.are_joined).few

  pub one_not_same : (first second : Spot) → HasSameIds (part ∷ []) first second → ⊥
  one_not_same first second has = same_ids (part ∷ []) first second has has.document (one_are_parts has.document has.are_joined)

  pub of_one_part : OnePartRefusals part
  of_one_part (refusals.TwoNames first second) refused = absurd (one_differs part first second refused.repeats)
  of_one_part (refusals.Part index fault) refused = tt
  of_one_part (refusals.TooMany count) refused = absurd (one_not_many count refused)
  of_one_part (refusals.DuplicateId first second) refused = absurd (one_not_same first second refused)
  of_one_part (refusals.DependsUnknown spot name) refused = tt
  of_one_part (refusals.Cycle cycle) refused = tt
  of_one_part refusals.Memory refused = tt
