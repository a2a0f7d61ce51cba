use Rattle.config_script.proofs.Scanned.{cut_ends, cut_same, identifier_cuts}
use Rattle.config_script.proofs.token.identifier.Goals as goal

pub before-requires : goal.before-requires
before-requires c = cut_ends _ _ _ (identifier_cuts _ _ c.in_ok-rest.ensures)

pub returns : goal.returns
returns c = cut_same _ _ _ _ (identifier_cuts _ _ c.in_ok-rest.ensures) c.before-2.ensures
