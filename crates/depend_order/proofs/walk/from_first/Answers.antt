use Rattle.std.proofs.lemmas.List.{take_rest}
use Rattle.depend_order.proofs.Splits.{split_more}
use Rattle.depend_order.proofs.walk.from_first.Goals as goal

pub loop-rest-preserved : goal.loop-rest-preserved
loop-rest-preserved c =
    let more = split_more c.args.walk.now c.loop-rest.invariant.splits.0 c.loop-rest.rest.now c.args.place c.loop-rest.invariant.splits.1 c.loop-rest.invariant.ahead c.if-visited-place.false in
    let tail = take_rest c.loop-rest.rest.now 1 in
    rw tail (record { splits = more.0; ahead = more.1 })
