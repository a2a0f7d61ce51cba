-- What a link shows, of a value of its type.
use Rattle.dsc_outside.specs.Link.{LinkView}
use Rattle.dsc_outside.specs.declared.link.Link.{Ghosts}

abbrev pub view_of : {L : Type 0} → Ghosts L → L → LinkView
view_of ghosts link = record { shown = ghosts.shown link; faults = ghosts.faults link }
