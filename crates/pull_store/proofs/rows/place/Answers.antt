use Rattle.std.proofs.Common.{◌≡◌, ◌∙◌, length, sym, ap, arith}
use Rattle.pull_store.specs.Steps.{place_of}
use Rattle.pull_store.proofs.Placing.{placed, at_end}
use Rattle.pull_store.proofs.rows.place.Goals as goal

pub returns-then-at-len : goal.returns-then-at-len
returns-then-at-len c =
    let is : c.place_of-at.result ≡ place_of c.args.row.agent c.args.rows.now.items = c.place_of-at.ensures.place ∙ ap (place_of c.args.row.agent) c.deref.ensures.value in
    rw is (sym (placed c.args.row c.args.rows.now.items (omega (arith, is, c.if-at-len.true, c.len.ensures, c.deref.ensures.len, ap length c.deref.ensures.value))))

pub returns-else-at-len : goal.returns-else-at-len
returns-else-at-len c =
    let is : c.place_of-at.result ≡ place_of c.args.row.agent c.args.rows.now.items = c.place_of-at.ensures.place ∙ ap (place_of c.args.row.agent) c.deref.ensures.value in
    c.add.ensures ∙ sym (at_end c.args.row c.args.rows.now.items (omega (arith, is, c.if-at-len.false, c.len.ensures, c.deref.ensures.len, ap length c.deref.ensures.value)))
