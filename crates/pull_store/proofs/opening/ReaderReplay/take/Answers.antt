use Rattle.std.proofs.Common.{◌∙◌, ◌++◌, ◌∷◌, [], List, sym, subst}
use Rattle.pull_store.specs.declared.row.Row.{Row}
use Rattle.pull_store.specs.Stands.{Replays}
use Rattle.pull_store.proofs.Replaying.{took_more, no_body, not_accepted}
use Rattle.pull_store.proofs.opening.ReaderReplay.take.Goals as goal

pub returns-in-Err-Wrong : goal.returns-in-Err-Wrong
returns-in-Err-Wrong c = λ bodies replays.
    no_body c.args.self.now.grown.rows.items bodies c.args.body.now replays (c.in-Err-Wrong.ensures.wrong c.in-Err-Wrong.field-0-is)

pub returns-in-Some : goal.returns-in-Some
returns-in-Some c = λ bodies replays.
    not_accepted c.args.self.now.grown.rows.items bodies c.args.body.now c.in-Ok.change replays c.in-Ok.ensures.found
    (λ none. let is = c.in-Some.ensures ∙ none in cc is)

pub returns : goal.returns
returns c = λ bodies replays.
    let rows = c.args.self.now.grown.rows.items in
    let change = c.in-Ok.change in
    let accepted = sym c.in-None.ensures in
    subst (λ (rows : List Row). Replays [] (bodies ++ c.args.body.now ∷ []) rows) (sym c.in_ok-apply.ensures) (took_more rows bodies c.args.body.now change replays c.in-Ok.ensures.found accepted)
