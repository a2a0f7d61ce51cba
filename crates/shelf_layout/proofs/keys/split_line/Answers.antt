-- The first line of the text is before its first line feed, or the whole text.
use Rattle.std.proofs.Common.{◌∙◌, ◌+◌, ◌-◌, sym, ap, length, drop, arith, length-drop}
use Rattle.std.proofs.lemmas.List.{take_all}
use Rattle.shelf_layout.proofs.KeyLines.{keys_at, keys_of_line}
use Rattle.shelf_layout.specs.Keys.{keys_in, with_line}
use Rattle.shelf_layout.proofs.keys.split_line.Goals as goal

pub returns-in-None-clause-keys : goal.returns-in-None-clause-keys
returns-in-None-clause-keys c = keys_of_line c.args.text.now (sym c.line_feed.ensures ∙ c.in-None.is)

pub returns-in-Some-clause-keys : goal.returns-in-Some-clause-keys
returns-in-Some-clause-keys c =
    let rest = drop (c.in-Some.end + 1) c.args.text.now in
    keys_at c.args.text.now c.in-Some.end (sym c.line_feed.ensures ∙ c.in-Some.is)
    ∙ ap (λ line. with_line line (keys_in rest)) (sym c.without_return.ensures.stripped)
    ∙ ap (λ more. with_line c.without_return.result.now (keys_in more)) (sym (take_all (length c.args.text.now - (c.in-Some.end + 1)) rest (omega (arith, length-drop (c.in-Some.end + 1) c.args.text.now))))
