use Rattle.std.proofs.Common.{ap, ◌∙◌}
use Rattle.dsc_document.specs.Places.{place_of}
use Rattle.dsc_document.proofs.FoldKeys.{kept_at}
use Rattle.dsc_document.proofs.places.Places.find.Goals as goal

pub returns : goal.returns
unfolding place_of
returns c = c.copied.ensures ∙ c.get.ensures.value ∙ ap (kept_at c.args.self.now.by_fold) (c.as_slice.ensures.value ∙ c.in_ok-fold.ensures)
