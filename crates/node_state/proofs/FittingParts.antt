-- Parts that fit are refused for memory alone.
use Rattle.std.proofs.Common.{refl, sym, ap, ◌∙◌, arith}
use Rattle.std.proofs.lemmas.Option.{none-some}
use Rattle.dsc_document.specs.declared.document.Document.{Document}
use Rattle.partial_merge.proofs.OneMerge.{never_both, one_document}
use Rattle.node_state.specs.declared.error.StageError.TheVariants.{Merge, Fit, TooLong, Memory}
use Rattle.node_state.specs.Fits.{misfit}
use Rattle.node_state.specs.Staging.{FittingAreTaken}

pub fitting_are_taken : FittingAreTaken
fitting_are_taken meta parts (Merge error) fitting short (caused, refused) = absurd (never_both parts fitting.document error caused fitting.merged refused)
fitting_are_taken meta parts (Fit error) fitting short misfits =
    absurd (none-some error
    (sym fitting.fits ∙ ap (λ (d : Document). misfit meta.partials d) (one_document parts fitting.document misfits.document fitting.merged misfits.merged) ∙ misfits.misfits))
fitting_are_taken meta parts (TooLong bytes) fitting short long = absurd (omega (arith, short, long.long, long.counted))
fitting_are_taken meta parts Memory fitting short none = refl
