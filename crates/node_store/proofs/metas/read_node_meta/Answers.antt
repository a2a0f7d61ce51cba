use Rattle.std.proofs.Common.{◌∙◌, sym, ℕ}
use Rattle.std.specs.Global.{Vec}
use Rattle.std.proofs.lemmas.Slice.Eq.{bytes_eq-Decides}
use Rattle.node_store.proofs.Reported.{never}
use Rattle.node_store.proofs.MetasRead.{other_text, no_order, spells, at_cycle}
use Rattle.node_store.proofs.metas.read_node_meta.Goals as goal

pub returns-in-Ok-parts_order-clause-found : goal.returns-in-Ok-parts_order-clause-found
returns-in-Ok-parts_order-clause-found c =
    let same = (bytes_eq-Decides c.as_slice.result.now c.args.text.now).0 (sym c.eq.ensures ∙ c.if-eq.true) in
    spells c.args.text.now c.in-Ok.meta c.in-Ok.ensures.found (sym c.in-Ok-write_meta.ensures ∙ sym c.as_slice.ensures.value ∙ same) (c.in-Ok-parts_order.field-0.items, c.in-Ok-parts_order.ensures.order)

pub returns-in-Err-Cycle-clause-wrong : goal.returns-in-Err-Cycle-clause-wrong
returns-in-Err-Cycle-clause-wrong c = λ is meta spelled.
    no_order c.metas_read_back.ensures.read_back c.metas_read_back.ensures.one c.args.text.now c.in-Ok.meta meta c.in-Ok.ensures.found (λ order. at_cycle (Vec ℕ) _ c.in-Err-Cycle.field-0 c.in-Err-Cycle.field-0-0 c.in-Err-Cycle.field-0-is c.in-Err-Cycle.ensures.no_order order.0 order.1) spelled

pub returns-clause-wrong : goal.returns-clause-wrong
returns-clause-wrong c = λ is meta spelled.
    other_text c.metas_read_back.ensures.read_back c.metas_read_back.ensures.one c.args.text.now c.in-Ok.meta meta c.in-Ok.ensures.found
    (λ same. never c.eq.result (c.eq.ensures ∙ (bytes_eq-Decides c.as_slice.result.now c.args.text.now).1 (c.as_slice.ensures.value ∙ c.in-Ok-write_meta.ensures ∙ same)) c.if-eq.false) spelled
