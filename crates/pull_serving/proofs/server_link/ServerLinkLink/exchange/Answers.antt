use Rattle.std.proofs.Common.{◌∙◌, List, Some, refl, sym, ap, subst}
use Rattle.dsc_outside.specs.declared.exchange.Exchange.{Exchange}
use Rattle.pull_outside.specs.Door.{Known}
use Rattle.pull_serving.specs.ServerLink.{Becomes, ServerInMemory}
use Rattle.pull_serving.specs.ServerLinks.{server_stays}
use Rattle.pull_serving.proofs.ServerLinked.{exchanged}
use Rattle.pull_serving.proofs.server_link.ServerLinkLink.exchange.Goals as goal

pub returns-in-Err-clause-becomes : goal.returns-in-Err-clause-becomes
returns-in-Err-clause-becomes g c =
    let with_exchanges : List Exchange → ServerInMemory _ _ = λ l. record { store = c.self.inside.store; disk = c.self.inside.disk; shelf = c.self.inside.shelf; exchanges = l } in
    let same = ap with_exchanges c.make_ready.ensures.same ∙ c.self.view_is in
    subst (λ (l : ServerInMemory _ _). Becomes g.D.Disk g.F.Shelf c.args.self.now l) (sym same) (server_stays g.D.Disk g.F.Shelf c.args.self.now)

pub returns-clause-becomes : goal.returns-clause-becomes
returns-clause-becomes g c =
    let with_exchanges : List Exchange → ServerInMemory _ _ = λ l. record { store = c.self.inside.store; disk = c.self.inside.disk; shelf = c.self.inside.shelf; exchanges = l } in
    let same = ap with_exchanges c.make_ready.ensures.same ∙ c.self.view_is in
    let before = c.in-Ok.ready.conn in
    let after = c.serve_connection-end.new.conn in
    let came : Known = record { left = Some before.left; held = Some before.held; faults = before.calls.faults } in
    let went : Known = record { left = Some after.left; held = Some after.held; faults = after.calls.faults } in
    let e : Exchange = record { peer = c.in-Ok.ready.peer; request = c.in-Ok.ready.request; outcome = c.give-given.result.0 } in
    let new : ServerInMemory _ _ = record {
      store = c.serve_connection-end.new.service;
      disk = c.serve_connection-end.new.disk;
      shelf = c.serve_connection-end.new.shelf;
      exchanges = c.push_within.new.exchanges.items;
    } in
    subst (λ (l : ServerInMemory _ _). Becomes g.D.Disk g.F.Shelf l new) same
    (exchanged g.D.Disk g.F.Shelf (with_exchanges c.make_ready.new.exchanges.items) new e came went after.held c.serve_connection-end.result c.taken.result c.serve_connection-end.ensures.served
    c.serve_connection-end.ensures.shelf c.serve_connection-end.ensures.shelf_count c.serve_connection-end.ensures.count c.push_within.ensures
    (ap Some (c.in-Ok.ensures.left ∙ sym c.in-Ok.ensures.request)) (ap Some c.in-Ok.ensures.held) refl
    c.taken.ensures c.give-given.ensures.outcome)
