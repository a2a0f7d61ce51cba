use Rattle.std.proofs.Common.{arith, sym, take, ◌-◌, ◌∙◌}
use Rattle.memory_outside.proofs.DiskParts.{synced_before, synced_there, take_last}
use Rattle.memory_outside.proofs.disk_parts.until_sync.Goals as goal

pub returns-then-is_sync : goal.returns-then-is_sync
returns-then-is_sync c =
    let entries = c.args.calls.now in
    let n = c.loop-end.end in
    let last = c.index-calls-end.result in
    let is = take_last entries n last c.loop-end-test.true c.loop-end.invariant.within c.index-calls-end.is in
    λ state same. sym (synced_there (take (n - 1) entries) (take n entries) last is state (sym c.is_sync.ensures ∙ c.if-is_sync.true)) ∙ c.loop-end.invariant.same state

pub loop-end-preserved : goal.loop-end-preserved
loop-end-preserved c =
    let entries = c.args.calls.now in
    let n = c.loop-end.end in
    let last = c.index-calls-end.result in
    let is = take_last entries n last c.loop-end-test.true c.loop-end.invariant.within c.index-calls-end.is in
    record {
      within = omega (arith, c.loop-end.invariant.within);
      same = λ state. sym (synced_before (take (n - 1) entries) (take n entries) last is state (sym c.is_sync.ensures ∙ c.if-is_sync.false)) ∙ c.loop-end.invariant.same state;
    }
