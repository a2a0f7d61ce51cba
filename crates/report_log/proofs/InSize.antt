-- A report on what is in size is in size.
use Rattle.std.proofs.Common.{◌≡◌, inl, inr, ◌≤◌, ℕ, List, [], ◌∷◌, length, IsSomeAnd, take, sym, ◌∙◌, ap, subst, arith}
use Rattle.std.specs.List.{AllByRecursion, AllZip}
use Rattle.std.proofs.lemmas.List.Elements.{All-from_recursion}
use Rattle.std.proofs.lemmas.Option.{slice_get_cases}
use Rattle.std.proofs.lemmas.Slice.Zip.{AllZip-long}
use Rattle.dsc_outside.specs.Clock.{last_moment}
use Rattle.dsc_document.specs.declared.document.Document.{Document}
use Rattle.dsc_document.specs.declared.document.Resource.{Resource}
use Rattle.resource_kinds.specs.declared.entry.Entry.{Entry}
use Rattle.report_log.specs.declared.report.Frame.{Frame}
use Rattle.report_log.specs.declared.report.Missed.{Missed}
use Rattle.report_log.specs.declared.report.Report.{Report}
use Rattle.report_log.specs.Report.{IsMissed, IsReport, missed_places}
use Rattle.report_log.specs.declared.limits.TheConstants.{LISTED_LIMIT}
use Rattle.dsc_document.specs.Sizes.{DocumentInSize, Fits}
use Rattle.report_log.specs.Sizes.{FrameInSize, PartsInSize, ReportInSize}
use Rattle.report_log.proofs.Grown.{length-first}
use Rattle.dsc_document.specs.declared.limits.TheConstants.{MAX_ID, MAX_VERSION}

module _ (document : Document) (trace : List Entry) (in_size : DocumentInSize document) where
  id_fits : (r : ℕ) (missed : Missed) → IsMissed document trace r missed → Fits MAX_ID missed.id
  id_fits r missed is = elim (slice_get_cases document.resources r).1 [
    | inl here ↦
        let id : missed.id ≡ here.0.id = subst (λ o. IsSomeAnd o (λ (resource : Resource). missed.id ≡ resource.id)) here.2 is.id in
        subst (Fits MAX_ID) (sym (id ∙ ap (λ (resource : Resource). resource.id) (sym here.3))) (in_size.ids r here.0 here.1)
    | inr past ↦ absurd (subst (λ o. IsSomeAnd o (λ (resource : Resource). missed.id ≡ resource.id)) past.1 is.id)
  ]

  ids_fit : (places : List ℕ) (listed : List Missed) → AllZip (IsMissed document trace) places listed → AllByRecursion (λ missed. Fits MAX_ID missed.id) listed
  ids_fit [] [] all = tt
  ids_fit [] (missed ∷ rest) all = absurd all
  ids_fit (r ∷ places) [] all = absurd all
  ids_fit (r ∷ places) (missed ∷ rest) all = (id_fits r missed all.0, ids_fit places rest all.1)

  pub report_in_size : (frame : Frame) (report : Report) → FrameInSize frame → IsReport document trace frame report → ReportInSize report
  report_in_size frame report framed is =
      let first = take LISTED_LIMIT (missed_places document trace) in
      record {
        version = subst (λ (l : List ℕ). length l ≤ MAX_VERSION) (sym is.version) in_size.version;
        listed = omega (arith, AllZip-long (IsMissed document trace) first report.listed is.listed, length-first LISTED_LIMIT (missed_places document trace));
        ids = All-from_recursion (λ missed. Fits MAX_ID missed.id) report.listed (ids_fit first report.listed is.listed);
        parts = subst PartsInSize (sym is.parts) framed.parts;
        times = record {
          start = subst (λ (n : ℕ). n ≤ last_moment) (sym is.start) framed.times.start;
          end = subst (λ (n : ℕ). n ≤ last_moment) (sym is.end) framed.times.end;
        };
      }
