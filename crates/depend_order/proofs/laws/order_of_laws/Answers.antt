use Rattle.std.proofs.Common.{length, sym, ◌∙◌}
use Rattle.std.proofs.lemmas.Option.{same_Some}
use Rattle.depend_order.specs.Cycle.{DependsOn}
use Rattle.depend_order.specs.Numbers.{Lists, numbers_of}
use Rattle.depend_order.proofs.Cycles.{one_cycle, never_both, closed}
use Rattle.depend_order.proofs.Existing.{order_or_cycle}
use Rattle.depend_order.proofs.NumberLemmas.{number_below}
use Rattle.depend_order.proofs.Orders.{order_same}
use Rattle.depend_order.proofs.laws.order_of_laws.Goals as goal

pub returns : goal.returns
returns c =
    let depends = c.args.depends.now in
    let count = length depends in
    record {
      one_order = order_same count (DependsOn (Lists depends));
      one_cycle = one_cycle count (Lists depends) (λ r k q s one other. same_Some q s (sym one ∙ other));
      never_both = never_both count (Lists depends);
      closed = closed count (Lists depends);
      exists = λ below. order_or_cycle count (numbers_of depends) (λ r k q at. number_below count depends r k q below at);
    }
