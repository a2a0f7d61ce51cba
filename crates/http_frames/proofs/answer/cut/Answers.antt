use Rattle.std.proofs.Common.{◌≡◌, ◌+◌, ◌-◌, take, drop, ap, ◌∙◌, arith, length-drop}
use lib.Seq.{paste}
use Rattle.std.proofs.lemmas.List.Edits.{take-paste}
use Rattle.http_frames.proofs.answer.cut.Goals as goal

pub returns : goal.returns
returns c =
    let all = c.args.bytes.items in
    let n = c.args.count in
    let body = drop c.args.front all in
    let moved : (c.args.front + n) - c.args.front ≡ n = omega arith in
    let same : n ≡ 0 + n = omega arith in
    c.truncate.ensures.items ∙ ap (take n) c.copy_within.ensures.items ∙ ap (λ k. take n (paste all 0 body k)) moved
    ∙ ap (λ k. take k (paste all 0 body n)) same
    ∙ take-paste all 0 body n (omega (arith, c.requires)) (omega (arith, c.requires, length-drop c.args.front all))
