use Rattle.std.proofs.Common.{inl, inr, arith}
use Rattle.std.proofs.lemmas.Bool.{ltb-true}
use Rattle.node_pull.proofs.PartRows.{all_wanted}
use Rattle.node_pull.proofs.listing.to_fetch.Goals.{in_default, in_default-2}
use Rattle.node_pull.proofs.listing.to_fetch.Goals as goal

pub returns : goal.returns
returns c = all_wanted c.args.names.now c.args.fetches.now c.loop-left.left.now c.loop-left.answers.now c.loop-left.wanted.items c.loop-left.invariant
    (elim c.if-left-lt1.branch [ in_default w ↦ inl w.in_default.len_below | in_default-2 w ↦ inr (omega (arith, ltb-true)) ])
