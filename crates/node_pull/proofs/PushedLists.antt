-- The list of parts that a pushed part comes to.
use Rattle.std.proofs.Common.{◌≡◌, ℕ, zero, suc, ◌<◌, List, [], ◌∷◌, length, get_or, Some, Result, Ok, Err, sym, ap, subst, ◌∙◌, arith}
use Rattle.std.specs.Prelude.{IfErr, IfOk, slice_get}
use Rattle.dsc_document.specs.Sizes.{DocumentInSize}
use Rattle.depend_order.specs.declared.ordered.OrderedDocument.{OrderedDocument}
use Rattle.depend_order.specs.Ordered.{IsOrdered}
use Rattle.meta_config.specs.declared.meta.Meta.{Meta}
use Rattle.meta_config.specs.declared.meta.Partial.{Partial}
use Rattle.meta_config.specs.Parts.{IsMeta, IsPartName}
use Rattle.node_state.specs.declared.error.StageError.{StageError}
use Rattle.node_state.specs.declared.error.StageError.TheVariants.{Merge, Fit, TooLong, Memory}
use Rattle.node_state.specs.Lists.{AreNamed}
use Rattle.node_state.specs.Staging.{AreFitting, AreRefused}
use Rattle.partial_merge.specs.declared.part.Part.{Part}
use Rattle.partial_merge.specs.Merged.{IsDocumentOf, Merged}
use Rattle.node_pull.specs.Laying.{AreLaid, AreLaidRefused, laid_over}
use Rattle.node_pull.specs.Names.{ArePartNames}
use Rattle.node_pull.proofs.LaidParts.{laid_named, over_new, under_first}
use Rattle.node_pull.proofs.PartNames.{part_among}

-- the partial configuration is at the place
abbrev HasAt : List Partial → ℕ → Partial → Type 0
HasAt partials k partial = (k < length partials) × (get_or partials k partial ≡ partial)

get_of : (partials : List Partial) (k : ℕ) (partial : Partial) → HasAt partials k partial → slice_get partials k ≡ Some partial
get_of [] k partial has = absurd (omega (arith, has.0))
get_of (p ∷ ps) zero partial has = ap Some has.1
get_of (p ∷ ps) (suc k) partial has = get_of ps k partial (omega (arith, has.0), has.1)

push_named : (meta : Meta) (names : List (List ℕ)) (part : Part) (held : List Part) → IsMeta meta → IsPartName meta.partials part.name → ArePartNames meta names
    → AreNamed (laid_over names (part ∷ []) held)
push_named meta names part held is (k, partial, lt, at, same) are =
    laid_named meta names (part ∷ []) held partial.name is are (part_among meta names k partial (get_of meta.partials k partial (lt, at)) are)
    (over_new (part ∷ []) held partial.name part (under_first part [] partial.name same))

module _ (meta : Meta) (part : Part) (held parts : List Part) where
  pub are_laid : (names handed : List (List ℕ)) (given : List Part) → ArePartNames meta names → handed ≡ names → given ≡ part ∷ [] → parts ≡ laid_over handed given held
      → AreLaid meta (part ∷ []) held parts
  are_laid names handed given are same new is = record {
    names = names;
    part_names = are;
    laid = is ∙ ap (λ ns. laid_over ns given held) same ∙ ap (λ ps. laid_over names ps held) new;
  }

  pub are_named : IsMeta meta → IsPartName meta.partials part.name → AreLaid meta (part ∷ []) held parts → AreNamed parts
  are_named is declared laid = subst AreNamed (sym laid.laid) (push_named meta laid.names part held is declared laid.part_names)

  -- the list that was staged, by its parts
  pub laid_if : {A : Type 0} (of : A → List Part) (result : Result A StageError) → AreLaid meta (part ∷ []) held parts → IfOk result (λ a. of a ≡ parts)
      → IfOk result (λ a. AreLaid meta (part ∷ []) held (of a))
  laid_if of (Ok a) laid is = subst (AreLaid meta (part ∷ []) held) (sym is) laid
  laid_if of (Err error) laid is = tt

  pub fits_if : {A : Type 0} (of : A → List Part) (result : Result A StageError) → IfOk result (λ a. of a ≡ parts) → IfOk result (λ a. AreFitting meta parts)
      → IfOk result (λ a. AreFitting meta (of a))
  fits_if of (Ok a) is fits = subst (AreFitting meta) (sym is) fits
  fits_if of (Err error) is fits = tt

  pub document_if : {A : Type 0} (of : A → List Part) (document : A → OrderedDocument) (result : Result A StageError) → IfOk result (λ a. of a ≡ parts)
      → IfOk result (λ a. Merged parts (document a).document) → IfOk result (λ a. IsOrdered (document a)) → IfOk result (λ a. DocumentInSize (document a).document)
      → IfOk result (λ a. IsDocumentOf (of a) (document a))
  document_if of document (Ok a) is merged ordered sized =
      subst (λ (ps : List Part). IsDocumentOf ps (document a)) (sym is) (record { merged = merged; ordered = ordered; in_size = sized })
  document_if of document (Err error) is merged ordered sized = tt

  refused_so : (error : StageError) → AreLaid meta (part ∷ []) held parts → AreRefused meta parts error → AreLaidRefused meta (part ∷ []) held error
  refused_so (Merge error) laid refused = (parts, laid, refused)
  refused_so (Fit error) laid refused = (parts, laid, refused)
  refused_so (TooLong bytes) laid refused = (parts, laid, refused)
  refused_so Memory laid refused = tt

  pub refused_if : {A : Type 0} (result : Result A StageError) → AreLaid meta (part ∷ []) held parts → IfErr result (AreRefused meta parts)
      → IfErr result (AreLaidRefused meta (part ∷ []) held)
  refused_if (Ok a) laid refused = tt
  refused_if (Err error) laid refused = refused_so error laid refused
