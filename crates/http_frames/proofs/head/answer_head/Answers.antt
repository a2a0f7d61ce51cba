use Rattle.std.proofs.Common.{◌≡◌, length, arith, subst}
use Rattle.http_frames.specs.Heads.{IsOpenAnswer}
use Rattle.http_frames.proofs.HeadReads.{answer_read_at, answer_awaited}
use Rattle.http_frames.proofs.head.answer_head.Goals as goal

pub returns-in_ok-copy_answer-in-Some-clause-head : goal.returns-in_ok-copy_answer-in-Some-clause-head
returns-in_ok-copy_answer-in-Some-clause-head c =
    let found = rw c.in-Some.is at c.in_ok-found.ensures in
    let capacity : length c.read_answer.new.spans ≡ 64 = omega arith in
    answer_read_at c.args.bytes.now c.front_of-front.result.now c.read_answer.new.spans c.in-Some.found
    c.in_ok-copy_answer-in-Some.field-0 c.front_of-front.ensures capacity found.within found.head
    c.in_ok-copy_answer-in-Some.ensures

pub returns-else-bytes-ge-HEAD_BYTES-clause-more : goal.returns-else-bytes-ge-HEAD_BYTES-clause-more
returns-else-bytes-ge-HEAD_BYTES-clause-more c =
    let none = rw c.in-None.is at c.in_ok-found.ensures in
    answer_awaited c.args.bytes.now (omega (arith, c.if-bytes-ge-HEAD_BYTES.false))
    (subst IsOpenAnswer c.front_of-front.ensures none.more)
