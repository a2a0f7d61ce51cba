use Rattle.mof_codec.proofs.Options.{untrue}
use Rattle.mof_codec.proofs.Names.{begins_word, begins_keyword, begins_no_word, begins_other_word}
use Rattle.mof_codec.proofs.values.words.keyword.Goals as goal

pub returns-in_err-found-clause-none : goal.returns-in_err-found-clause-none
returns-in_err-found-clause-none c =
    rw c.from_residual.ensures (begins_no_word _ _ c.separators_rest.ensures.stands c.separators_rest.ensures.stops _ c.in_err-found.ensures.none)

pub returns-then-is_word-clause-some : goal.returns-then-is_word-clause-some
returns-then-is_word-clause-some c =
    begins_keyword _ _ c.separators_rest.ensures.stands _ _ _ c.in_ok-found.ensures.some (c.is_word.ensures.0 c.if-is_word.true)

pub returns-else-is_word-clause-none : goal.returns-else-is_word-clause-none
returns-else-is_word-clause-none c =
    begins_other_word _ _ _ (begins_word _ _ c.separators_rest.ensures.stands _ _ c.in_ok-found.ensures.some) _ (λ same. untrue _ (c.is_word.ensures.1 same) c.if-is_word.false)
