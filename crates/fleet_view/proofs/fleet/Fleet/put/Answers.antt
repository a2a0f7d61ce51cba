use Rattle.std.proofs.Common.{rules, ◌≡◌, ◌<◌, ◌≤◌, ◌^◌, ℕ, List, [], ◌∷◌, ◌++◌, length, Some, slice_set, refl, sym, ◌∙◌, ap, subst, arith}
use Rattle.std.specs.Prelude.{slice_get}
use Rattle.std.proofs.lemmas.Option.{slice_get_read}
use Rattle.fleet_view.specs.declared.counts.Counts.{Counts}
use Rattle.fleet_view.specs.declared.member.Member.{Member}
use Rattle.fleet_view.specs.Counting.{counts_of}
use Rattle.fleet_view.specs.Members.{FleetTerm, classes_in, number_in, place_of, with_class}
use Rattle.fleet_view.proofs.Counted.{moved_counts, number_grows, number_some, number_within}
use Rattle.fleet_view.proofs.Placed.{at_end, placed}
use Rattle.fleet_view.proofs.fleet.Fleet.put.Goals as goal

pub less-requires : goal.less-requires
less-requires c =
    let members = c.self.inside.members.items in
    let member = c.index-member.result.now in
    let at = c.place_of-at.result in
    let within : at < length members = omega (arith, c.if-at-len.true, c.len.ensures, c.self.inside.members.ok) in
    let found = slice_get_read members (length members) at member refl within c.index-member.ensures in
    subst (λ (n : Counts). 1 ≤ number_in member.class n) (sym c.self.invariant) (number_some members at member found)

pub more-requires : goal.more-requires
more-requires c =
    let members = c.self.inside.members.items in
    let member = c.index-member.result.now in
    let small : length members < 2 ^ 63 = search rules in
    omega (
      arith,
      small,
      number_within c.args.class members,
      number_grows c.args.class member.class c.less.new.self,
      ap (number_in c.args.class) (c.less.ensures ∙ c.self.invariant),
    )

pub invariant_of-self : goal.invariant_of-self
invariant_of-self c =
    let members = c.self.inside.members.items in
    let member = c.index-member.result.now in
    let at = c.place_of-at.result in
    let new : Member = record { agent = c.args.agent; class = c.args.class } in
    let within : at < length members = omega (arith, c.if-at-len.true, c.len.ensures, c.self.inside.members.ok) in
    let place : at ≡ place_of c.args.agent members = c.place_of-at.ensures.place ∙ ap (place_of c.args.agent) c.deref.ensures.value in
    let found = slice_get_read members (length members) at member refl within c.index-member.ensures in
    let there = subst (λ (n : ℕ). slice_get members n ≡ Some member) place found in
    c.more.ensures ∙ moved_counts c.args.agent c.args.class members member c.less.new.self there (c.less.ensures ∙ c.self.invariant)
    ∙ ap (λ (l : List Member). counts_of (classes_in l))
    (placed c.args.agent c.args.class members (omega (arith, within, place)) ∙ ap (λ (n : ℕ). slice_set members n new) (sym place))

pub returns-then-at-len : goal.returns-then-at-len
returns-then-at-len c =
    let members = c.self.inside.members.items in
    let at = c.place_of-at.result in
    let new : Member = record { agent = c.args.agent; class = c.args.class } in
    let within : at < length members = omega (arith, c.if-at-len.true, c.len.ensures, c.self.inside.members.ok) in
    let place : at ≡ place_of c.args.agent members = c.place_of-at.ensures.place ∙ ap (place_of c.args.agent) c.deref.ensures.value in
    ap (λ (n : ℕ). slice_set members n new) place ∙ sym (placed c.args.agent c.args.class members (omega (arith, within, place)))
    ∙ ap (λ (f : FleetTerm). with_class c.args.agent c.args.class f.members) c.self.view_is

pub returns-else-at-len : goal.returns-else-at-len
returns-else-at-len c =
    let members = c.self.inside.members.items in
    let at = c.place_of-at.result in
    let many : length members ≤ at = omega (arith, c.if-at-len.false, c.len.ensures, c.self.inside.members.ok) in
    let place : at ≡ place_of c.args.agent members = c.place_of-at.ensures.place ∙ ap (place_of c.args.agent) c.deref.ensures.value in
    let new : Member = record { agent = c.args.agent; class = c.args.class } in
    c.add.ensures ∙ ap (λ (f : FleetTerm). f.members ++ new ∷ []) (sym c.self.view_is)
    ∙ sym (at_end c.args.agent c.args.class members (omega (arith, many, place)))
    ∙ ap (λ (f : FleetTerm). with_class c.args.agent c.args.class f.members) c.self.view_is
