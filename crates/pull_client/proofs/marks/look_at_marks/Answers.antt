use Rattle.std.proofs.Common.{List, All, take, sym, subst, arith, get_or}
use Rattle.std.proofs.lemmas.List.{take_all, take_more}
use Rattle.std.proofs.lemmas.List.Elements.{All-push}
use Rattle.report_log.specs.declared.report.PartMark.{PartMark}
use Rattle.pull_client.specs.Fitting.{IsMark}
use Rattle.pull_client.proofs.marks.look_at_marks.Goals as goal

pub loop-part-preserved : goal.loop-part-preserved
loop-part-preserved c =
    let parts = c.args.parts.now in
    let i = c.loop-part.part-index in
    let part = c.part-item.result in
    subst (λ (l : List PartMark). All IsMark l) (sym (take_more parts i part c.loop-part-test.true))
    (All-push IsMark (take i parts) (get_or parts i part) c.loop-part.invariant (subst IsMark c.part-item.is c.look_at_mark.ensures))

pub returns : goal.returns
returns c =
    subst (λ (l : List PartMark). All IsMark l) (take_all c.loop-part.part-index c.args.parts.now (omega (arith, c.loop-part-test.false))) c.loop-part.invariant
