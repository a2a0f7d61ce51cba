use Rattle.mof_codec.proofs.LiteralsRead.{plain_front}
use Rattle.mof_codec.proofs.values.strings.plain_front.Goals as goal

pub before-requires : goal.before-requires
before-requires c = (c.plain_rest-left.ensures.front, c.plain_rest-left.ensures.split)

pub returns-clause-front : goal.returns-clause-front
returns-clause-front c = plain_front _ _ _ c.plain_rest-left.ensures c.before-2.ensures
