use Rattle.std.proofs.Common.{◌∙◌}
use Rattle.dsc_node.proofs.PushedParts.{lays, part_is}
use Rattle.dsc_node.proofs.bringing.laid.Goals as goal

pub lay_push-requires-clause-declared : goal.lay_push-requires-clause-declared
lay_push-requires-clause-declared c = rw (c.in_ok-part.ensures.name ∙ c.in_ok-name.ensures) c.requires.declared

pub returns-clause-laid : goal.returns-clause-laid
returns-clause-laid c =
    let part = part_is c.in_ok-part.part c.args.partial.now.name c.args.bytes (c.in_ok-part.ensures.name ∙ c.in_ok-name.ensures) c.in_ok-part.ensures.bytes in
    lays c.args.node.now c.in_ok-part.part _ c.held_of.result.now part c.held_of.ensures c.lay_push.result c.lay_push.ensures.laid c.lay_push.ensures.fits c.lay_push.ensures.refused
