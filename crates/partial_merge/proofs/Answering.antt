-- From the parts and the document that they are joined to, to what is answered.
use Rattle.std.proofs.Common.{◌≡◌, ◌≤◌, List, Result, Ok, Err, IfErr, IfOk, IsErrAnd, length, sym, subst}
use Rattle.std.proofs.lemmas.Result.{IfErr-weaker}
use Rattle.dsc_document.specs.Sizes.{DocumentInSize}
use Rattle.dsc_document.specs.declared.document.Document.{Document}
use Rattle.dsc_document.specs.declared.limits.TheConstants.{MAX_RESOURCES}
use Rattle.depend_order.specs.Ordered.{IsOrdered}
use Rattle.depend_order.specs.declared.ordered.OrderedDocument.{OrderedDocument}
use Rattle.partial_merge.specs.declared.part.Part.{Part}
use Rattle.partial_merge.specs.declared.error.MergeError.{MergeError}
use Rattle.partial_merge.specs.declared.error.MergeError.TheVariants as refusals
use Rattle.partial_merge.specs.Merged.{Merged}
use Rattle.partial_merge.specs.Parts.{AreJoined}
use Rattle.partial_merge.proofs.Sizes.{joined_in_size}
use Rattle.partial_merge.specs.Refused.{IsDocumentFault, IsFirstFault, IsNameFault, IsPartFault, Refused}

-- an error that is passed on as it is
pub passed_on : {T : Type 0} (result : Result T MergeError) (error : MergeError) (P : MergeError → Type 0) → IsErrAnd result (λ same. same ≡ error) → P error → IfErr result P
passed_on (Ok value) error P is holds = tt
passed_on (Err same) error P is holds = subst P (sym is) holds

module _ (parts : List Part) where
  pub name_refused : (error : MergeError) → IsNameFault parts error → Refused parts error
  name_refused (refusals.TwoNames first second) fault = fault
  name_refused (refusals.Part index fault) none = absurd none
  name_refused (refusals.TooMany count) none = absurd none
  name_refused (refusals.DuplicateId first second) none = absurd none
  name_refused (refusals.DependsUnknown spot name) none = absurd none
  name_refused (refusals.Cycle cycle) none = absurd none
  name_refused refusals.Memory fault = tt

  pub part_refused : (error : MergeError) → IsPartFault (IsFirstFault parts) error → Refused parts error
  part_refused (refusals.TwoNames first second) none = absurd none
  part_refused (refusals.Part index fault) first = first
  part_refused (refusals.TooMany count) none = absurd none
  part_refused (refusals.DuplicateId first second) none = absurd none
  part_refused (refusals.DependsUnknown spot name) none = absurd none
  part_refused (refusals.Cycle cycle) none = absurd none
  part_refused refusals.Memory fault = tt

  module _ (document : Document) (are : AreJoined parts document) where
    pub document_refused : (error : MergeError) → IsDocumentFault document error → Refused parts error
    document_refused (refusals.TwoNames first second) none = absurd none
    document_refused (refusals.Part index fault) none = absurd none
    document_refused (refusals.TooMany count) fault = record { document = document; are_joined = are; counted = fault.0; many = fault.1 }
    document_refused (refusals.DuplicateId first second) fault = record { document = document; are_joined = are; few = fault.0; repeats = fault.1 }
    document_refused (refusals.DependsUnknown spot name) fault = record {
      document = document;
      parts_are = record { are_joined = are; few = fault.0.0; ids = fault.0.1 };
      unknown = fault.1;
    }
    document_refused (refusals.Cycle cycle) fault = record {
      document = document;
      parts_are = record { are_joined = are; few = fault.0.0; ids = fault.0.1 };
      known = fault.1;
      leads_round = fault.2;
    }
    document_refused refusals.Memory fault = tt

    pub merged_ordered : (ordered : OrderedDocument) → ordered.document ≡ document → length ordered.document.resources ≤ MAX_RESOURCES → IsOrdered ordered
        → Merged parts ordered.document
    merged_ordered ordered same few is = record {
      parts_are = record { are_joined = subst (λ (d : Document). AreJoined parts d) (sym same) are; few = few; ids = is.distinct };
      known = is.known;
      ordered = (ordered.order, is.order);
    }

    -- ---- what the check of the document answers

    pub merged_if : (result : Result OrderedDocument MergeError) → IfOk result (λ ordered. ordered.document ≡ document)
        → IfOk result (λ ordered. length ordered.document.resources ≤ MAX_RESOURCES) → IfOk result IsOrdered → IfOk result (λ ordered. Merged parts ordered.document)
    merged_if (Ok ordered) same few is = merged_ordered ordered same few is
    merged_if (Err error) same few is = tt

    pub in_size_if : (result : Result OrderedDocument MergeError) → IfOk result (λ ordered. ordered.document ≡ document)
        → IfOk result (λ ordered. length ordered.document.resources ≤ MAX_RESOURCES) → IfOk result (λ ordered. DocumentInSize ordered.document)
    in_size_if (Ok ordered) same few =
        joined_in_size parts ordered.document (subst (λ (d : Document). AreJoined parts d) (sym same) are) few
    in_size_if (Err error) same few = tt

    pub refused_if : (result : Result OrderedDocument MergeError) → IfErr result (IsDocumentFault document) → IfErr result (Refused parts)
    refused_if result = IfErr-weaker result (IsDocumentFault document) (Refused parts) document_refused
