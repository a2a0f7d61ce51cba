use Rattle.std.proofs.Common.{get_or, ◌∷◌, ◌++◌, [], refl, ap, ◌∙◌}
use Rattle.resource_kinds.proofs.Meets.{entry_done, entry_more}
use Rattle.resource_kinds.proofs.overlap.entry_key.Goals as goal

pub loop-byte-preserved : goal.loop-byte-preserved
loop-byte-preserved c =
    c.loop-byte.invariant ∙ entry_more c.loop-byte.key.items c.push-in-loop-byte-2.new.self.items c.as_bytes-byte-items.result.now c.args.message.now c.loop-byte.byte-index
    (get_or c.as_bytes-byte-items.result.now c.loop-byte.byte-index 0) c.loop-byte-test.true refl
    (c.in_ok-push-3.ensures.items ∙ ap (λ k. k ++ get_or c.as_bytes-byte-items.result.now c.loop-byte.byte-index 0 ∷ []) c.in_ok-push-2.ensures.items)

pub returns : goal.returns
returns c =
    entry_done c.loop-byte.key.items c.extend_from_slice.new.self.items c.args.id.now c.as_bytes-byte-items.result.now c.args.message.now c.as_bytes.result.now c.loop-byte.byte-index
    c.loop-byte-test.false c.as_bytes-byte-items.ensures c.as_bytes.ensures
    (c.in_ok-extend_from_slice.ensures.items ∙ ap (λ k. k ++ c.as_bytes.result.now) c.in_ok-push-4.ensures.items) c.loop-byte.invariant
