use Rattle.std.proofs.Common.{◌&&◌, not, false, ◌∙◌, ap, refl, inl, arith, subst, ℕ, Bool, List, Option}
use Rattle.pull_exchange.specs.declared.exchange.Received.TheVariants as received
use Rattle.pull_store.specs.Store.{is_spent}
use Rattle.pull_serving.specs.declared.connection.ConnectionEnd.TheVariants as ends
use Rattle.pull_serving.specs.Sent.{IsSentEnd}
use Rattle.pull_outside.specs.Door.{known_of}
use Rattle.pull_serving.proofs.Served.{served_otherwise, served_refused, served_request}
use Rattle.pull_serving.proofs.connection.serve_connection.Goals as goal

pub returns-in-Ok-clause-served : goal.returns-in-Ok-clause-served
returns-in-Ok-clause-served g c =
    let came = known_of g.X.Ends c.args.conn.now in
    let went = known_of g.X.Ends c.send.new.conn in
    let sent = subst (λ (h : Option (List ℕ)). IsSentEnd h went.held c.in-Ok.reply (g.X.Ends.faults c.receive.new.conn) went.faults c.is_newly_spent.result c.send.result) c.receive.ensures.held c.send.ensures.sent in
    let broken = c.is_newly_spent.ensures ∙ ap (λ (b : Bool). not b && is_spent (g.A.Answerer.store c.answer.new.self)) c.is_spent-was_spent.ensures in
    served_request g.A.Answerer.replies g.D.Disk c.args.disk.now (g.S.Shelf.holds c.args.shelf.now) came went (g.A.Answerer.store c.args.service.now) (g.S.Shelf.faults c.args.shelf.now)
    c.answer.new.disk (g.A.Answerer.store c.answer.new.self) (g.S.Shelf.faults c.answer.new.shelf) c.in-Request.request c.in-Request.ensures.received
    c.in-Ok.reply c.is_newly_spent.result (g.X.Ends.faults c.receive.new.conn) c.send.result c.receive.ensures.count broken
    c.in-Ok.ensures.serves c.in-Ok.ensures.reply c.in-Ok.ensures.cause c.in-Ok.ensures.crowded c.in-Ok.ensures.overfull sent c.answer.ensures.shelf_count (omega (arith, c.receive.ensures.count, c.send.ensures.count))

pub returns-in-Ok-refusal-clause-served : goal.returns-in-Ok-refusal-clause-served
returns-in-Ok-refusal-clause-served g c =
    let came = known_of g.X.Ends c.args.conn.now in
    let went = known_of g.X.Ends c.send-in-Ok-refusal.new.conn in
    let sent = subst (λ (h : Option (List ℕ)). IsSentEnd h went.held c.in-Ok-refusal.reply (g.X.Ends.faults c.receive.new.conn) went.faults false c.send-in-Ok-refusal.result) c.receive.ensures.held c.send-in-Ok-refusal.ensures.sent in
    served_refused g.A.Answerer.replies g.D.Disk c.args.disk.now (g.S.Shelf.holds c.args.shelf.now) came went (g.A.Answerer.store c.args.service.now) (g.S.Shelf.faults c.args.shelf.now) (g.met.D.Disk.only_now c.args.disk.now)
    c.in-Refused.error c.in-Ok-refusal.reply (g.X.Ends.faults c.receive.new.conn) c.send-in-Ok-refusal.result c.in-Refused.ensures.received c.receive.ensures.count c.in-Refused.ensures.sized c.in-Ok-refusal.ensures sent
    (omega (arith, c.receive.ensures.count, c.send-in-Ok-refusal.ensures.count))

pub returns-in-Refused-clause-served : goal.returns-in-Refused-clause-served
returns-in-Refused-clause-served g c =
    let came = known_of g.X.Ends c.args.conn.now in
    let went = known_of g.X.Ends c.receive.new.conn in
    served_otherwise g.A.Answerer.replies g.D.Disk c.args.disk.now (g.S.Shelf.holds c.args.shelf.now) came went (g.A.Answerer.store c.args.service.now) (g.S.Shelf.faults c.args.shelf.now) (g.met.D.Disk.only_now c.args.disk.now)
    (received.Refused c.in-Refused.error) ends.Memory c.in-Refused.ensures.received (c.receive.ensures.held, inl refl) tt c.receive.ensures.count

pub returns-in-Torn-clause-served : goal.returns-in-Torn-clause-served
returns-in-Torn-clause-served g c =
    let came = known_of g.X.Ends c.args.conn.now in
    let went = known_of g.X.Ends c.receive.new.conn in
    served_otherwise g.A.Answerer.replies g.D.Disk c.args.disk.now (g.S.Shelf.holds c.args.shelf.now) came went (g.A.Answerer.store c.args.service.now) (g.S.Shelf.faults c.args.shelf.now) (g.met.D.Disk.only_now c.args.disk.now)
    (received.Torn c.in-Torn.at) (ends.Torn c.in-Torn.at) c.in-Torn.ensures.received (refl, c.receive.ensures.held) tt c.receive.ensures.count

pub returns-in-ReadFault-clause-served : goal.returns-in-ReadFault-clause-served
returns-in-ReadFault-clause-served g c =
    let came = known_of g.X.Ends c.args.conn.now in
    let went = known_of g.X.Ends c.receive.new.conn in
    served_otherwise g.A.Answerer.replies g.D.Disk c.args.disk.now (g.S.Shelf.holds c.args.shelf.now) came went (g.A.Answerer.store c.args.service.now) (g.S.Shelf.faults c.args.shelf.now) (g.met.D.Disk.only_now c.args.disk.now)
    received.ReadFault ends.ReadFault c.in-ReadFault.ensures.received (refl, c.in-ReadFault.ensures.cause, c.receive.ensures.held) tt c.receive.ensures.count

pub returns-clause-served : goal.returns-clause-served
returns-clause-served g c =
    let came = known_of g.X.Ends c.args.conn.now in
    let went = known_of g.X.Ends c.receive.new.conn in
    served_otherwise g.A.Answerer.replies g.D.Disk c.args.disk.now (g.S.Shelf.holds c.args.shelf.now) came went (g.A.Answerer.store c.args.service.now) (g.S.Shelf.faults c.args.shelf.now) (g.met.D.Disk.only_now c.args.disk.now)
    received.Memory ends.Memory c.in-Memory.ensures.received (c.receive.ensures.held, inl refl) tt c.receive.ensures.count
