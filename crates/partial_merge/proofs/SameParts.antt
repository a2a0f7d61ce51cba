-- A part is its name and its bytes, and so is what it is merged to, or refused for.
use Rattle.std.proofs.Common.{◌≡◌, ℕ, zero, suc, List, [], ◌∷◌, ap, subst, ◌∙◌, arith}
use Rattle.std.proofs.Props.{props}
use Rattle.sha2.specs.Sha256.{sha256}
use Rattle.std.specs.List.{AllZip}
use Rattle.mof_syntax.specs.Refusals.{Reads}
use Rattle.dsc_document.specs.declared.document.Document.{Document}
use Rattle.partial_merge.specs.declared.part.Part.{Part}
use Rattle.partial_merge.specs.declared.error.PartFault.{PartFault}
use Rattle.partial_merge.specs.declared.error.PartFault.TheVariants.{Mof, Doc}
use Rattle.partial_merge.specs.declared.error.MergeError.{MergeError}
use Rattle.partial_merge.specs.declared.error.MergeError.TheVariants as refusals
use Rattle.partial_merge.specs.Parts.{AreJoined, AreParts, IsWhole, joined}
use Rattle.partial_merge.specs.Merged.{Merged}
use Rattle.partial_merge.proofs.OnePart.{one_differs, one_name}
use Rattle.partial_merge.specs.Refused.{HasFault, IsFirstFault, IsUnspelled, Refused}

part_made : (name digest bytes : List ℕ) → digest ≡ sha256 bytes → Part
part_made n d b w = record { name = n; digest = d; bytes = b; whole = w }

one_proof_of_digest : (d e : List ℕ) → IsProp (d ≡ e)
one_proof_of_digest d e = Prim.hlevel props

same_made : (n n' d d' b b' : List ℕ) (w : d ≡ sha256 b) (w' : d' ≡ sha256 b') → n ≡ n' → d ≡ d' → b ≡ b' → part_made n d b w ≡ part_made n' d' b' w'
same_made n n' d d' b b' w w' name digest bytes =
    subst (λ (b2 : List ℕ). (w2 : d' ≡ sha256 b2) → part_made n d b w ≡ part_made n' d' b2 w2) bytes
    (λ w1. subst (λ (d2 : List ℕ). (w2 : d2 ≡ sha256 b) → part_made n d b w ≡ part_made n' d2 b w2) digest
    (λ w3. ap (λ (m : List ℕ). part_made m d b w) name ∙ ap (λ (v : d ≡ sha256 b). part_made n' d b v) (one_proof_of_digest d (sha256 b) w w3)) w1) w'

-- parts of one name and the same bytes are the same
pub part_same : (x y : Part) → x.name ≡ y.name → x.digest ≡ y.digest → x.bytes ≡ y.bytes → x ≡ y
unfolding part_made
part_same x y name digest bytes = same_made x.name y.name x.digest y.digest x.bytes y.bytes x.whole y.whole name digest bytes

module _ (part other : Part) (named : part.name ≡ other.name) (of : part.bytes ≡ other.bytes) where
  whole_same : (document : Document) → IsWhole part document → IsWhole other document
  whole_same document whole = record {
    instances = whole.instances;
    spelled = subst (λ (bytes : List ℕ). Reads bytes whole.instances) of whole.spelled;
    rules = whole.rules;
  }

  fault_same : (fault : PartFault) → HasFault part fault → HasFault other fault
  fault_same (Mof refusal) has = subst (λ (bytes : List ℕ). IsUnspelled bytes refusal) of has
  fault_same (Doc refusal) has = (has.0, subst (λ (bytes : List ℕ). Reads bytes has.0) of has.1, has.2, has.3)

  joined_same : (documents : List Document) → joined (part ∷ []) documents ≡ joined (other ∷ []) documents
  joined_same documents =
      ap (λ (name : List ℕ).
      let merged : Document = joined (part ∷ []) documents in
      record { version = merged.version; resources = merged.resources; others = merged.others; parts = name ∷ [] }) named

  all_same : (documents : List Document) → AllZip IsWhole (part ∷ []) documents → AllZip IsWhole (other ∷ []) documents
  all_same [] whole = absurd whole
  all_same (document ∷ []) whole = (whole_same document whole.0, tt)
  all_same (document ∷ more ∷ rest) whole = absurd whole.1

  pub are_joined_same : (document : Document) → AreJoined (part ∷ []) document → AreJoined (other ∷ []) document
  are_joined_same document are = record {
    names = one_name other;
    documents = are.documents;
    whole = all_same are.documents are.whole;
    joined = are.joined ∙ joined_same are.documents;
  }

  are_same : (document : Document) → AreParts (part ∷ []) document → AreParts (other ∷ []) document
  are_same document are = record { are_joined = are_joined_same document are.are_joined; few = are.few; ids = are.ids }

  pub merged_same : (document : Document) → Merged (part ∷ []) document → Merged (other ∷ []) document
  merged_same document merged = record { parts_are = are_same document merged.parts_are; known = merged.known; ordered = merged.ordered }

  first_same : (index : ℕ) (fault : PartFault) → IsFirstFault (part ∷ []) index fault → IsFirstFault (other ∷ []) index fault
  first_same zero fault first = record { names = one_name other; here = fault_same fault first.here; before = λ k before. absurd (omega (arith, before)) }
  first_same (suc index) fault first = absurd first.here

  pub refused_same : (refusal : MergeError) → Refused (part ∷ []) refusal → Refused (other ∷ []) refusal
  refused_same (refusals.TwoNames i j) refused = absurd (one_differs part i j refused.repeats)
  refused_same (refusals.TooMany count) refused = record {
    document = refused.document;
    are_joined = are_joined_same refused.document refused.are_joined;
    counted = refused.counted;
    many = refused.many;
  }
  refused_same (refusals.DuplicateId i j) refused = record {
    document = refused.document;
    are_joined = are_joined_same refused.document refused.are_joined;
    few = refused.few;
    repeats = refused.repeats;
  }
  refused_same (refusals.Part index fault) refused = first_same index fault refused
  refused_same (refusals.DependsUnknown spot name) refused =
      record { document = refused.document; parts_are = are_same refused.document refused.parts_are; unknown = refused.unknown }
  refused_same (refusals.Cycle cycle) refused = record {
    document = refused.document;
    parts_are = are_same refused.document refused.parts_are;
    known = refused.known;
    leads_round = refused.leads_round;
  }
  refused_same refusals.Memory refused = tt
