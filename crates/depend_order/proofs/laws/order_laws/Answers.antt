use Rattle.std.proofs.Common.{length}
use Rattle.dsc_document.specs.Dependencies.{IsDependency, Names}
use Rattle.depend_order.proofs.Cycles.{one_cycle, never_both, closed}
use Rattle.depend_order.proofs.KnownNames.{document_order_or_cycle}
use Rattle.depend_order.proofs.Orders.{order_same}
use Rattle.depend_order.proofs.Resolved.{names_one}
use Rattle.depend_order.proofs.laws.order_laws.Goals as goal

pub returns : goal.returns
returns c =
    let document = c.args.document.now in
    let count = length document.resources in
    record {
      one_order = order_same count (IsDependency document);
      one_cycle = one_cycle count (Names document) (names_one document c.requires);
      never_both = never_both count (Names document);
      closed = closed count (Names document);
      exists = document_order_or_cycle document c.requires;
    }
