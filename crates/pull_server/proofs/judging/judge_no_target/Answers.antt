use Rattle.std.proofs.Common.{rules, ◌≡◌, ◌++◌, Err, refl, true, false, [], codes}
use Rattle.std.specs.Fmt.{decimal}
use Rattle.dsc_terms.specs.Counts.{Rose}
use Rattle.pull_server.specs.Table.{is_known}
use Rattle.pull_server.proofs.Judged.{refuses}
use Rattle.pull_server.proofs.Rows.{unknown, astray}
use Rattle.pull_server.proofs.judging.judge_no_target.Goals as goal

pub returns-then-not-is_known-clause-judged : goal.returns-then-not-is_known-clause-judged
returns-then-not-is_known-clause-judged g c =
    let other : is_known c.args.request.now.method ≡ false = search rules in
    refuses c.args.store.now c.args.request.now (Err c.args.at) (g.S.Shelf.holds c.args.shelf.now) (Rose (g.S.Shelf.faults c.args.shelf.now) (g.S.Shelf.faults c.args.shelf.now))
    c.plain.result 501 [] c.plain.ensures refl refl (λ shelf told. unknown c.args.store.now shelf c.args.request.now (Err c.args.at) other)

pub returns-clause-judged : goal.returns-clause-judged
returns-clause-judged g c =
    let known : is_known c.args.request.now.method ≡ true = search rules in
    refuses c.args.store.now c.args.request.now (Err c.args.at) (g.S.Shelf.holds c.args.shelf.now) (Rose (g.S.Shelf.faults c.args.shelf.now) (g.S.Shelf.faults c.args.shelf.now))
    c.in_ok-bad_target.field-0 400 (codes "target " ++ decimal c.args.at) c.in_ok-bad_target.ensures refl refl (λ shelf told. astray c.args.store.now shelf c.args.request.now c.args.at known)
