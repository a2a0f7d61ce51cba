use Rattle.std.proofs.Common.{◌≡◌, length, arith, subst}
use Rattle.http_frames.specs.Heads.{IsOpenRequest}
use Rattle.http_frames.proofs.HeadReads.{request_read_at, request_awaited}
use Rattle.http_frames.proofs.head.request_head.Goals as goal

pub returns-in_ok-copy_request-in-Some-clause-head : goal.returns-in_ok-copy_request-in-Some-clause-head
returns-in_ok-copy_request-in-Some-clause-head c =
    let found = rw c.in-Some.is at c.in_ok-found.ensures in
    let capacity : length c.read_request.new.spans ≡ 64 = omega arith in
    request_read_at c.args.bytes.now c.front_of-front.result.now c.read_request.new.spans c.in-Some.found
    c.in_ok-copy_request-in-Some.field-0 c.front_of-front.ensures capacity found.within found.head
    c.in_ok-copy_request-in-Some.ensures

pub returns-else-bytes-ge-HEAD_BYTES-clause-more : goal.returns-else-bytes-ge-HEAD_BYTES-clause-more
returns-else-bytes-ge-HEAD_BYTES-clause-more c =
    let none = rw c.in-None.is at c.in_ok-found.ensures in
    request_awaited c.args.bytes.now (omega (arith, c.if-bytes-ge-HEAD_BYTES.false))
    (subst IsOpenRequest c.front_of-front.ensures none.more)
