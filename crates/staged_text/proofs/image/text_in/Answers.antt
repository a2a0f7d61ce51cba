use Rattle.staged_text.specs.Texts.{HasNoText, HasText, Shows, ShowsNothing}
use Rattle.staged_text.proofs.Images.{of_node, stands_for, where_err, where_ok}
use Rattle.staged_text.proofs.image.text_in.Goals as goal

pub returns-in-Ok-clause-shown : goal.returns-in-Ok-clause-shown
returns-in-Ok-clause-shown c =
    let node = c.state.result.now in
    let stands = stands_for c.args.image.items c.in_ok-disk.disk c.in-Ok.store.node node c.in_ok-disk.ensures c.in-Ok.ensures.found c.state.ensures in
    where_ok c.text_at.result (λ text. HasText c.args.stage node text.items) (λ text. Shows c.args.stage c.args.image.items text.items)
    (λ text has. (node, stands, has)) c.text_at.ensures.text

pub returns-in-Ok-clause-cause : goal.returns-in-Ok-clause-cause
returns-in-Ok-clause-cause c =
    let node = c.state.result.now in
    let stands = stands_for c.args.image.items c.in_ok-disk.disk c.in-Ok.store.node node c.in_ok-disk.ensures c.in-Ok.ensures.found c.state.ensures in
    where_err c.text_at.result (HasNoText c.args.stage node) (ShowsNothing c.args.stage c.args.image.items)
    (λ why none. of_node c.args.stage c.args.image.items node why stands none) c.text_at.ensures.none
