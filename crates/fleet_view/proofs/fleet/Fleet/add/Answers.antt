use Rattle.std.proofs.Common.{rules, ◌≡◌, ◌<◌, ◌^◌, List, length, sym, ◌∙◌, ap, arith}
use Rattle.fleet_view.specs.declared.member.Member.{Member}
use Rattle.fleet_view.specs.Counting.{counts_of, one_more}
use Rattle.fleet_view.specs.Members.{classes_in, number_in}
use Rattle.fleet_view.proofs.Counted.{added_counts, number_within}
use Rattle.fleet_view.proofs.fleet.Fleet.add.Goals as goal

pub more-requires : goal.more-requires
more-requires c =
    let members = c.self.inside.members.items in
    let small : length members < 2 ^ 63 = search rules in
    omega (arith, small, number_within c.args.class members, ap (number_in c.args.class) c.self.invariant)

pub invariant_of-self : goal.invariant_of-self
invariant_of-self c =
    let members = c.self.inside.members.items in
    let new : Member = record { agent = c.args.agent; class = c.args.class } in
    c.more.ensures ∙ ap (one_more c.args.class) c.self.invariant ∙ sym (added_counts members new)
    ∙ ap (λ (l : List Member). counts_of (classes_in l)) (sym c.in-Ok.ensures.items)
