use Rattle.config_script.proofs.Scanned.{cut_ends, cut_plain, cut_same, digits_cuts}
use Rattle.config_script.proofs.token.digits.Goals as goal

pub before-requires : goal.before-requires
before-requires c = cut_ends _ _ _ (digits_cuts _ _ c.in_ok-rest.ensures)

pub returns-clause-split : goal.returns-clause-split
returns-clause-split c = cut_same _ _ _ _ (digits_cuts _ _ c.in_ok-rest.ensures) c.before-2.ensures

pub returns-clause-plain : goal.returns-clause-plain
returns-clause-plain c = cut_plain _ _ _ (digits_cuts _ _ c.in_ok-rest.ensures) c.before-2.ensures
