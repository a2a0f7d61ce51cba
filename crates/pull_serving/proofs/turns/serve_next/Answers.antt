use Rattle.std.proofs.Common.{sym, subst, arith, List, Option}
use Rattle.pull_outside.specs.Door.{GetsBack, HandedBack, Known, TakesFirst}
use Rattle.pull_outside.specs.declared.door.Parting.{Parting}
use Rattle.pull_outside.specs.Door.{known_of}
use Rattle.pull_serving.proofs.Stepped.{stepped}
use Rattle.pull_serving.proofs.turns.serve_next.Goals as goal

pub returns-clause-step : goal.returns-clause-step
returns-clause-step g c =
    let conn = c.in_ok-conn.conn in
    let after = c.serve_connection-end.new.conn in
    let came = known_of g.G.Conn.Ends conn in
    let went = known_of g.G.Conn.Ends after in
    let took = subst (λ (o : Option (List Known)). TakesFirst (g.G.Door.coming c.args.door.now) o came) (sym c.close.ensures.coming) c.in_ok-conn.ensures.taken in
    let back = subst (λ (o : Option (List HandedBack)). GetsBack o (g.G.Door.back c.close.new.self) (record { known = went; parting = c.parting.result })) c.in_ok-conn.ensures.back c.close.ensures.back in
    let gave = subst (λ (p : Parting). GetsBack (g.G.Door.back c.args.door.now) (g.G.Door.back c.close.new.self) (record { known = went; parting = p })) c.parting.ensures back in
    stepped g.A.Answerer.replies g.D.Disk c.args.disk.now c.serve_connection-end.new.disk (g.S.Shelf.holds c.args.shelf.now) (g.A.Answerer.store c.args.service.now) (g.A.Answerer.store c.serve_connection-end.new.service)
    (g.S.Shelf.faults c.args.shelf.now) (g.S.Shelf.faults c.serve_connection-end.new.shelf) came went c.serve_connection-end.result c.requires
    c.serve_connection-end.ensures.ready c.serve_connection-end.ensures.served (g.met.D.Disk.only_now c.serve_connection-end.new.disk)
    (g.G.Door.coming c.args.door.now) (g.G.Door.coming c.close.new.self) (g.G.Door.back c.args.door.now) (g.G.Door.back c.close.new.self)
    (g.G.Door.out c.args.door.now) (g.G.Door.out c.close.new.self) took gave (omega (arith, c.in_ok-conn.ensures.given, c.close.ensures.out))
