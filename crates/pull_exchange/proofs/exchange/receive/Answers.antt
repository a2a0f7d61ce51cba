use Rattle.std.proofs.Common.{rules, ◌≡◌, ◌≢◌, IfSome, subst, sym, take}
use Rattle.http_frames.specs.declared.frame_error.FrameError.TheVariants as frames
use Rattle.pull_exchange.specs.declared.exchange.Received.{Received}
use Rattle.pull_exchange.specs.Exchange.{IsReceived}
use Rattle.pull_exchange.proofs.Receiving.{but_memory, consumes_on, not_memory, request_received, error_received}
use Rattle.pull_exchange.proofs.exchange.receive.Goals as goal

pub returns-in-Ok-Some-clause-received : goal.returns-in-Ok-Some-clause-received
returns-in-Ok-Some-clause-received g c =
    let fed = not_memory c.in-Ok-Some.field-0 c.in-Ok-Some.ensures.fed in
    let read = consumes_on (g.X.Ends.left c.args.conn.now) (g.X.Ends.left c.loop-reader.conn) (g.X.Ends.left c.read.new.self) c.loop-reader.reader.bytes (take c.in-Ok.count c.read.new.into)
    c.feed.new.self.bytes c.loop-reader.invariant.so_far c.in-Ok.ensures.bytes.0 fed in
    request_received (g.X.Ends.left c.args.conn.now) (g.X.Ends.left c.read.new.self) c.feed.new.self.bytes c.in-Ok-Some.request read (rw c.in-Ok-Some.field-0-is at c.in-Ok-Some.ensures.whole)

pub returns-in-Err-feed-clause-received : goal.returns-in-Err-feed-clause-received
returns-in-Err-feed-clause-received g c =
    let e = c.in-Err-feed.error in
    let is = error_received (g.X.Ends.left c.args.conn.now) (g.X.Ends.left c.read.new.self) c.feed.new.self.bytes e
    (λ other. consumes_on (g.X.Ends.left c.args.conn.now) (g.X.Ends.left c.loop-reader.conn) (g.X.Ends.left c.read.new.self) c.loop-reader.reader.bytes (take c.in-Ok.count c.read.new.into)
    c.feed.new.self.bytes c.loop-reader.invariant.so_far c.in-Ok.ensures.bytes.0 (but_memory e other c.in-Err-feed.ensures.fed))
    (λ other. c.in-Err-feed.ensures.refused other) in
    subst (λ (r : Received). IfSome (g.X.Ends.left c.args.conn.now) (λ all. IsReceived all r)) (sym c.received_of.ensures) is
