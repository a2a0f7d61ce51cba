use Rattle.std.proofs.Common.{◌≡◌, ap, subst, ◌∙◌, arith}
use Rattle.dsc_terms.specs.Counts.{Rose}
use Rattle.memory_outside.specs.MemoryDisk.{DiskInMemory, outcome_of}
use Rattle.memory_outside.specs.declared.disk_calls.CallOutcome.TheVariants as outcomes
use Rattle.memory_outside.proofs.DiskCalls.{bytes_keep_up, settles_with_cause}
use Rattle.memory_outside.proofs.disk.MemoryDisk.take_call.Goals as goal

pub invariant_of-self : goal.invariant_of-self
invariant_of-self c =
    let kept = c.record_call-tried in
    bytes_keep_up c.self.inside.first.items c.self.inside.bytes.items kept.new.bytes.items c.self.inside.recorded.items kept.new.calls.items c.args.asked _ kept.result c.self.invariant kept.ensures.calls kept.ensures.bytes kept.ensures.asked kept.ensures.err

pub returns-clause-cause : goal.returns-clause-cause
returns-clause-cause c =
    let same = ap (λ (d : DiskInMemory). d.count.faults) c.self.view_is in
    let cause = λ (not_done : c.recorded_outcome-outcome.result ≡ outcomes.Done → ⊥). subst (λ n. Rose n c.begin_change.new.self.faults) same (c.begin_change.ensures.cause (λ runs. not_done (c.recorded_outcome-outcome.ensures ∙ ap outcome_of runs))) in
    settles_with_cause c.recorded_outcome-outcome.result c.record_call-tried.result c.args.self.now.count.faults c.self.inside.short c.settle.new.short c.begin_change.new.self c.settle.new.calls c.settle.result (omega (arith, same, c.begin_change.ensures.later)) c.settle.ensures.later cause c.settle.ensures.answer
