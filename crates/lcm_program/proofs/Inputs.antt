-- What is known of an input that was read, and of one that was not.
use Rattle.std.proofs.Common.{◌≡◌, ◌≢◌, ◌∙◌, ◌⊎◌, inl, inr, ◌<◌, ℕ, List, [], ◌∷◌, Option, Some, None, Ok, Err, length, refl, sym, ap, subst, arith, length-append}
use Rattle.std.specs.Io.KnownBytes.{Consumes}
use Rattle.mof_values.specs.declared.instance.Instance.{Instance}
use Rattle.mof_syntax.specs.declared.mof_error.MofError.{MofError}
use Rattle.mof_syntax.specs.declared.mof_error.MofError.TheVariants as faults
use Rattle.mof_syntax.specs.Refusals as syntax
use Rattle.dsc_document.specs.declared.document.Document.{Document}
use Rattle.partial_merge.specs.declared.part.Part.{Part}
use Rattle.partial_merge.specs.declared.error.MergeError.{MergeError}
use Rattle.partial_merge.specs.declared.error.MergeError.TheVariants as merge
use Rattle.partial_merge.specs.Merged.{Merged}
use Rattle.partial_merge.specs.Parts.{unnamed_part}
use Rattle.partial_merge.specs.Refused.{Refused}
use Rattle.partial_merge.proofs.SameParts.{merged_same, refused_same}
use Rattle.meta_config.specs.declared.error.MetaError.{MetaError}
use Rattle.meta_config.specs.declared.error.MetaError.TheVariants as meta_errors
use Rattle.meta_config.specs.declared.meta.Meta as declared
use Rattle.meta_config.specs.Parts.{HasPartsOrder, IsCycleOfParts, IsOrderOfParts}
use Rattle.meta_config.specs.Refusals as metas
use Rattle.dsc_node.specs.declared.status.InputError.{InputError}
use Rattle.dsc_node.specs.declared.status.InputError.TheVariants.{TooLong, Mof, Merge, Meta, Parts}
use Rattle.lcm_program.specs.declared.input.Unread.{Unread}
use Rattle.lcm_program.specs.declared.input.Unread.TheVariants as unread
use Rattle.lcm_program.specs.Checksum.{AnswersChecksum, checksum_limit}
use Rattle.lcm_program.specs.Input.{IsInput, IsLonger, IsUnread, Reading, ReadsBytes, ReadsDocument, ReadsInstances, ReadsMeta, input_limit, meta_limit}

-- ---- inputs that are too long

-- an input is too long where its front is
pub longer_front : (limit : ℕ) (left now : Option (List ℕ)) (taken : List ℕ) → Consumes left now taken → limit < length taken
    → IsInput IsLonger left limit
longer_front limit None now taken p above = record { all = taken; input_is = tt; is_answer = above }
longer_front limit (Some all) None taken p above = absurd p
longer_front limit (Some all) (Some rest) taken p above =
    let longer_too : limit < length all = omega (arith, above, ap length p, length-append taken rest) in
    record { all = all; input_is = refl; is_answer = longer_too }

pub longer : (left now : Option (List ℕ)) (taken : List ℕ) → Consumes left now taken → checksum_limit < length taken
    → IsInput AnswersChecksum left (Err TooLong)
longer left now taken p above =
    let found = longer_front checksum_limit left now taken p above in
    record { all = found.all; input_is = found.input_is; is_answer = (refl, found.is_answer) }

-- ---- one reading in place of another

pub weaker : {A B : Type 0} (P : Reading A) (Q : Reading B) → ((all : List ℕ) (error : InputError) → P all (Err error) → Q all (Err error))
    → (e : Unread) (left : Option (List ℕ)) (before now : ℕ) → IsUnread P e left before now → IsUnread Q e left before now
weaker P Q f (unread.Refused error) left before now cause =
    record { all = cause.all; input_is = cause.input_is; is_answer = f cause.all error cause.is_answer }
weaker P Q f unread.ReadFault left before now cause = cause
weaker P Q f unread.Memory left before now cause = cause

module _ (left : Option (List ℕ)) (before now : ℕ) where
  -- what is too long is no document, and spells no instances
  pub too_long_unread : (e : Unread) → IsUnread (ReadsBytes input_limit) e left before now → IsUnread ReadsDocument e left before now
  too_long_unread e cause =
      weaker (ReadsBytes input_limit) ReadsDocument (λ all error long. subst (λ (x : InputError). ReadsDocument all (Err x)) (sym long.0) long.1)
      e left before now cause

  pub too_long_unspelled : (e : Unread) → IsUnread (ReadsBytes input_limit) e left before now → IsUnread ReadsInstances e left before now
  too_long_unspelled e cause =
      weaker (ReadsBytes input_limit) ReadsInstances (λ all error long. subst (λ (x : InputError). ReadsInstances all (Err x)) (sym long.0) long.1)
      e left before now cause

  -- and declares no meta-configuration
  pub too_long_undeclared : (e : Unread) → IsUnread (ReadsBytes meta_limit) e left before now → IsUnread ReadsMeta e left before now
  too_long_undeclared e cause =
      weaker (ReadsBytes meta_limit) ReadsMeta (λ all error long. subst (λ (x : InputError). ReadsMeta all (Err x)) (sym long.0) long.1)
      e left before now cause

  -- bytes that are not merged, as a part without a name, are refused so
  pub unmerged_unread : (bytes : List ℕ) (part : Part) (error : MergeError) (e : Unread) → IsInput (ReadsBytes input_limit) left (Ok bytes)
      → part.name ≡ [] → part.bytes ≡ bytes → Refused (part ∷ []) error
      → ((error ≡ merge.Memory) × (e ≡ unread.Memory)) ⊎ ((error ≢ merge.Memory) × (e ≡ unread.Refused (Merge error)))
      → IsUnread ReadsDocument e left before now
  unmerged_unread bytes part error e input unnamed of wins (inl memory) =
      subst (λ (u : Unread). IsUnread ReadsDocument u left before now) (sym memory.1) tt
  unmerged_unread bytes part error e input unnamed of wins (inr refused) =
      subst (λ (u : Unread). IsUnread ReadsDocument u left before now) (sym refused.1) (record {
        all = input.all;
        input_is = input.input_is;
        is_answer = record {
          fits = input.is_answer.1;
          wins = refused_same part (unnamed_part input.all) unnamed (of ∙ input.is_answer.0) error wins;
          cause = refused.0;
        };
      })

  -- bytes that spell no instances are refused so
  pub unspelled_unread : (bytes taken : List ℕ) (error : MofError) (e : Unread) → IsInput (ReadsBytes input_limit) left (Ok bytes) → taken ≡ bytes
      → (error ≢ faults.Memory → (instances : List Instance) → syntax.Reads taken instances → ⊥) → syntax.Refuses taken error
      → ((error ≡ faults.Memory) × (e ≡ unread.Memory)) ⊎ ((error ≢ faults.Memory) × (e ≡ unread.Refused (Mof error)))
      → IsUnread ReadsInstances e left before now
  unspelled_unread bytes taken error e input same none wins (inl memory) =
      subst (λ (u : Unread). IsUnread ReadsInstances u left before now) (sym memory.1) tt
  unspelled_unread bytes taken error e input same none wins (inr refused) =
      subst (λ (u : Unread). IsUnread ReadsInstances u left before now) (sym refused.1) (record {
        all = input.all;
        input_is = input.input_is;
        is_answer = subst (λ (b : List ℕ). ReadsInstances b (Err (Mof error))) (same ∙ input.is_answer.0)
            (omega (arith, input.is_answer.1, ap length (same ∙ input.is_answer.0)), record { caused = refused.0; unspelled = none refused.0; refused = wins });
      })

  -- bytes that declare no meta-configuration are refused so
  pub undeclared_unread : (bytes taken : List ℕ) (error : MetaError) (e : Unread) → IsInput (ReadsBytes meta_limit) left (Ok bytes) → taken ≡ bytes
      → (error ≢ meta_errors.Memory → (meta : declared.Meta) → metas.Means taken meta → ⊥) → metas.Refuses taken error
      → ((error ≡ meta_errors.Memory) × (e ≡ unread.Memory)) ⊎ ((error ≢ meta_errors.Memory) × (e ≡ unread.Refused (Meta error)))
      → IsUnread ReadsMeta e left before now
  undeclared_unread bytes taken error e input same none wins (inl memory) =
      subst (λ (u : Unread). IsUnread ReadsMeta u left before now) (sym memory.1) tt
  undeclared_unread bytes taken error e input same none wins (inr refused) =
      subst (λ (u : Unread). IsUnread ReadsMeta u left before now) (sym refused.1) (record {
        all = input.all;
        input_is = input.input_is;
        is_answer = subst (λ (b : List ℕ). ReadsMeta b (Err (Meta error))) (same ∙ input.is_answer.0)
            (record { fits = omega (arith, input.is_answer.1, ap length (same ∙ input.is_answer.0)); wins = wins; cause = refused.0; none = none refused.0 });
      })

  -- so are bytes that declare one whose partial configurations have no order
  pub unordered_unread : (bytes taken walk : List ℕ) (meta : declared.Meta) → IsInput (ReadsBytes meta_limit) left (Ok bytes) → taken ≡ bytes → metas.Means taken meta
      → IsCycleOfParts meta walk → ((order : List ℕ) → IsOrderOfParts meta order → ⊥) → IsUnread ReadsMeta (unread.Refused (Parts walk)) left before now
  unordered_unread bytes taken walk meta input same means cycle none = record {
    all = input.all;
    input_is = input.input_is;
    is_answer = subst (λ (b : List ℕ). ReadsMeta b (Err (Parts walk))) (same ∙ input.is_answer.0)
        (record { fits = omega (arith, input.is_answer.1, ap length (same ∙ input.is_answer.0)); meta = meta; means = means; cycle = cycle; none = none });
  }

-- bytes that are merged so are the document's
pub merged_input : (left : Option (List ℕ)) (bytes : List ℕ) (part : Part) (d : Document) → IsInput (ReadsBytes input_limit) left (Ok bytes)
    → part.name ≡ [] → part.bytes ≡ bytes → Merged (part ∷ []) d → IsInput ReadsDocument left (Ok d)
merged_input left bytes part d input unnamed of merged = record {
  all = input.all;
  input_is = input.input_is;
  is_answer = merged_same part (unnamed_part input.all) unnamed (of ∙ input.is_answer.0) d merged;
}

-- bytes that spell these instances are the instances'
pub spelled_input : (left : Option (List ℕ)) (bytes taken : List ℕ) (instances : List Instance) → IsInput (ReadsBytes input_limit) left (Ok bytes) → taken ≡ bytes
    → syntax.Reads taken instances → IsInput ReadsInstances left (Ok instances)
spelled_input left bytes taken instances input same reads = record {
  all = input.all;
  input_is = input.input_is;
  is_answer = subst (λ (b : List ℕ). syntax.Reads b instances) (same ∙ input.is_answer.0) reads;
}

-- bytes that declare this meta-configuration are its
pub declared_input : (left : Option (List ℕ)) (bytes taken : List ℕ) (meta : declared.Meta) → IsInput (ReadsBytes meta_limit) left (Ok bytes) → taken ≡ bytes → metas.Means taken meta
    → HasPartsOrder meta → IsInput ReadsMeta left (Ok meta)
declared_input left bytes taken meta input same means ordered = record {
  all = input.all;
  input_is = input.input_is;
  is_answer = subst (λ (b : List ℕ). ReadsMeta b (Ok meta)) (same ∙ input.is_answer.0)
      (record { fits = omega (arith, input.is_answer.1, ap length (same ∙ input.is_answer.0)); means = means; ordered = ordered });
}
