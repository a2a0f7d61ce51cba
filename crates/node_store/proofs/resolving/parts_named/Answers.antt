use Rattle.std.proofs.Common.{◌≡◌, ◌-◌, ◌∷◌, List, take, drop, length}
use Rattle.report_log.specs.declared.report.PartMark.{PartMark}
use Rattle.node_store.proofs.HeldLists.{left_is}
use Rattle.node_store.proofs.Resolved.{named_no_more}
use Rattle.node_store.proofs.resolving.parts_named.Goals as goal

pub returns-in-Err-clause-wrong : goal.returns-in-Err-clause-wrong
returns-in-Err-clause-wrong c = λ same.
    let l = c.loop-left in
    let left : List PartMark = l.left.now in
    let mark : PartMark = c.mark-item.result in
    let rest : List PartMark = take (length left - 1) (drop 1 left) in
    let is : left ≡ mark ∷ rest = left_is left mark c.in-len1-up.len_at_least c.mark-item.is in
    named_no_more c.args.blobs.now c.args.marks.now left l.parts.items l.invariant mark rest is (c.in-Err.ensures.wrong same)
