use Rattle.std.proofs.Common.{◌≡◌, arith, sym, ap, subst, take, ◌-◌, ◌∙◌}
use Rattle.std.proofs.lemmas.List.{get_or_read}
use Rattle.memory_outside.specs.MemoryDisk.{filled, range_of}
use Rattle.memory_outside.specs.declared.disk_calls.RecordedCall.{RecordedCall}
use Rattle.memory_outside.proofs.DiskParts.{fill_more, no_ranges, take_last}
use Rattle.memory_outside.proofs.disk_parts.fill_ranges.Goals as goal

pub returns-then-is_sync : goal.returns-then-is_sync
returns-then-is_sync c =
    let entries = c.args.calls.now in
    let n = c.loop-end.end in
    let last = c.index-calls-end.result in
    let is = take_last entries n last c.loop-end-test.true c.loop-end.invariant.within c.index-calls-end.is in
    λ state none. ap (λ ranges. filled c.args.byte ranges c.loop-end.bytes) (sym (no_ranges (take (n - 1) entries) (take n entries) last is state (sym c.is_sync.ensures ∙ c.if-is_sync.true))) ∙ c.loop-end.invariant.same state

pub loop-end-preserved : goal.loop-end-preserved
loop-end-preserved c =
    let entries = c.args.calls.now in
    let n = c.loop-end.end in
    let last = c.index-calls-end.result in
    let is = take_last entries n last c.loop-end-test.true c.loop-end.invariant.within c.index-calls-end.is in
    let again = c.index-calls-end-in-loop-end in
    let low = c.loop-end.invariant.within in
    let some = c.loop-end-test.true in
    let same = get_or_read entries (n - 1) again.result (omega (arith, low, some)) again.is last ∙ sym c.index-calls-end.is in
    record {
      within = omega (arith, c.loop-end.invariant.within);
      same = λ state. fill_more (take (n - 1) entries) (take n entries) last is state c.args.byte c.loop-end.bytes c.fill_range.new.bytes (sym c.is_sync.ensures ∙ c.if-is_sync.false) (subst (λ (x : RecordedCall). c.fill_range.new.bytes ≡ filled c.args.byte (range_of x.outcome x.call) c.loop-end.bytes) same c.fill_range.ensures) ∙ c.loop-end.invariant.same state;
    }
