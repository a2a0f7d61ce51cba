use Rattle.config_script.proofs.Texts.{first_apostrophe, no_apostrophe}
use Rattle.config_script.proofs.token.from_apostrophe.Goals as goal

pub returns-in-Some : goal.returns-in-Some
returns-in-Some c = first_apostrophe _ _ _ c.utf8.text c.in-Some.ensures.cases c.range_from.ensures.value

pub returns-in-None : goal.returns-in-None
returns-in-None c = no_apostrophe _ c.utf8.text c.in-None.ensures.cases
