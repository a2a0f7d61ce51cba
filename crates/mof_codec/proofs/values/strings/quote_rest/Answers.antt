use Rattle.mof_codec.proofs.Options.{if_none}
use Rattle.mof_codec.proofs.LiteralsRead.{no_literal_first}
use Rattle.mof_codec.proofs.values.strings.quote_rest.Goals as goal

pub returns-clause-none : goal.returns-clause-none
returns-clause-none c = if_none _ _ _ c.char_rest.ensures (λ e. no_literal_first _ _ c.separators_rest.ensures.stands c.separators_rest.ensures.stops e)
