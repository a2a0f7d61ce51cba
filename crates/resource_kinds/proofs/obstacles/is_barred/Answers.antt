use Rattle.resource_kinds.proofs.Barred.{barred, not_barred}
use Rattle.resource_kinds.proofs.obstacles.is_barred.Goals as goal

pub returns-then-branch-clause-answer : goal.returns-then-branch-clause-answer
returns-then-branch-clause-answer g c =
    barred (g.H.Host.shown c.args.host.now) (g.H.Host.shown c.loop-at.host) c.in_ok-stands_for_folder.field-0 c.args.path.now c.split_at.result.0.now c.loop-at.at
    c.loop-at.invariant.shown c.if-branch.true c.split_at.ensures.front c.loop-at-test.true (cc (c.if-as_bytes-at-eq47.true, c.as_bytes.ensures.value)) c.in_ok-stands_for_folder.ensures.answer

pub returns-clause-answer : goal.returns-clause-answer
returns-clause-answer g c = not_barred (g.H.Host.shown c.args.host.now) c.args.path.now c.loop-at.at c.loop-at-test.false c.loop-at.invariant.clear
