use Rattle.std.proofs.Common.{◌∙◌, sym}
use Rattle.std.proofs.lemmas.Bool.{both_ways}
use Rattle.std.proofs.lemmas.Slice.Eq.{bytes_eq-Decides}
use Rattle.resource_kinds.proofs.SubjectsMeet.{entries_met, entries_unmet}
use Rattle.resource_kinds.proofs.subjects.entries_meet.Goals as goal

pub returns-then-eq : goal.returns-then-eq
returns-then-eq c =
    let same = (bytes_eq-Decides c.as_slice.result.now c.as_slice-2.result.now).0 (sym c.eq.ensures ∙ c.if-eq.true) in
    entries_met c.args.id.now c.args.other_id.now c.args.message.now c.args.other.now c.same_text.result
    (sym c.as_slice.ensures.value ∙ same ∙ c.as_slice-2.ensures.value) c.same_text.ensures

pub returns-else-eq : goal.returns-else-eq
returns-else-eq c =
    entries_unmet c.args.id.now c.args.other_id.now c.args.message.now c.args.other.now c.eq.result c.if-eq.false
    (λ same. both_ways _ (sym c.eq.ensures ∙ c.if-eq.false)
    ((bytes_eq-Decides c.as_slice.result.now c.as_slice-2.result.now).1 (c.as_slice.ensures.value ∙ same ∙ sym c.as_slice-2.ensures.value)))
