use Rattle.std.proofs.Common.{◌≡◌, ◌↔◌, ◌∙◌, Bool, IsTrue, nat_eq, sym, subst}
use Rattle.std.proofs.lemmas.Bool.{false≢true}
use Rattle.std.specs.List.{starts_with}
use Rattle.resource_kinds.specs.Keys.{AnyBeginsWith, kept_place}
use Rattle.resource_kinds.proofs.KeyRanges.{first_tells, none_begins}
use Rattle.resource_kinds.proofs.keys.Keys.any_begins_with.Goals as goal

pub returns-in-Some : goal.returns-in-Some
unfolding kept_place
returns-in-Some c =
    let shown = first_tells c.args.self.now.by_key c.args.front.now c.range.result (c.range.ensures.in_range tt) c.in-Some.key.now c.in-Some.field-0-1.now c.next.new.self c.in-Some.ensures.steps in
    let same = c.starts_with.ensures.value ∙ (λ i. starts_with nat_eq (c.as_slice.ensures.value i) (c.as_slice-in-Some.ensures.value i)) in
    subst (λ (b : Bool). IsTrue b ↔ AnyBeginsWith c.args.self.now c.args.front.now.items) (sym same) shown

pub returns-in-None : goal.returns-in-None
unfolding kept_place
returns-in-None c =
    let none = none_begins c.args.self.now.by_key c.args.front.now c.range.result (c.range.ensures.in_range tt) c.in-None.ensures.steps.0 in
    (λ yes. absurd (false≢true yes), λ (rest, place, found). absurd (none rest place found))
