use Rattle.std.proofs.Common.{ap, sym, ◌∙◌, ◌+◌, ◌++◌, ◌∷◌, [], take}
use Rattle.std.proofs.lemmas.List.{take_more}
use Rattle.memory_outside.proofs.DiskCalls.{bytes_push}
use Rattle.memory_outside.proofs.disk_parts.replay.Goals as goal

pub loop-recorded-preserved : goal.loop-recorded-preserved
loop-recorded-preserved c =
    let entries = c.args.calls.now in
    let i = c.loop-recorded.recorded-index in
    let entry = c.recorded-item.result in
    let more = take_more entries i entry c.loop-recorded-test.true ∙ ap (λ x. take i entries ++ x ∷ []) (sym c.recorded-item.is) in
    λ state is. bytes_push c.loop-recorded.bytes.items _ (take i entries) (take (i + 1) entries) entry state (c.loop-recorded.invariant state is) c.in_ok-do_outcome.ensures.ok more
