use Rattle.mof_codec.proofs.Names.{identifier_end, identifier_front}
use Rattle.mof_codec.proofs.values.words.identifier.Goals as goal

pub before-requires : goal.before-requires
before-requires c = identifier_end _ _ c.in_ok-rest.ensures

pub returns-clause-some : goal.returns-clause-some
returns-clause-some c = identifier_front _ _ _ c.in_ok-rest.ensures c.before-2.ensures
