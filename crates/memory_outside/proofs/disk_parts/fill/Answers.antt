use Rattle.std.proofs.Common.{rules, ap, ◌∙◌, ◌+◌, ◌-◌, arith, drop, replicate, length-take, length-drop}
use Rattle.memory_outside.proofs.DiskBytes.{range_put}
use Rattle.memory_outside.proofs.disk_parts.fill.Goals as goal

pub returns : goal.returns
returns c =
    let bytes = c.args.bytes.now in
    let from = c.min-from.result in
    let k = from + c.min-count.result - from in
    let all = c.fill.ensures.after (λ y is. search rules) in
    range_put c.args.byte c.args.at c.args.count from k bytes c.fill.new.self (search rules) (omega arith)
    (all ∙ ap (λ n. replicate n c.args.byte) (omega (arith, length-take k (drop from bytes), length-drop from bytes, c.min-from.ensures, c.min-count.ensures)))
