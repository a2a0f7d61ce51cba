use Rattle.std.proofs.Common.{refl}
use Rattle.dsc_document.specs.Places.{place_of}
use Rattle.dsc_document.proofs.places.Places.new.Goals as goal

pub returns : goal.returns
unfolding place_of
returns c = λ name. rw c.new.ensures.empty refl
