use Rattle.std.proofs.Common.{rules, ◌≡◌, true, false, [], Ok, refl, codes, bytes_eq}
use Rattle.dsc_terms.specs.Counts.{Rose}
use Rattle.http_frames.specs.Headers.{all_named}
use Rattle.pull_server.specs.Asked.{method_of}
use Rattle.pull_server.specs.Table.{is_known, is_version}
use Rattle.pull_server.proofs.Judged.{refuses}
use Rattle.pull_server.proofs.Rows.{unknown, other_method, other_version, past}
use Rattle.pull_server.proofs.judging.judge_target.Goals as goal

pub returns-then-not-is_known-clause-judged : goal.returns-then-not-is_known-clause-judged
returns-then-not-is_known-clause-judged g c =
    let other : is_known c.args.request.now.method ≡ false = search rules in
    refuses c.args.store.now c.args.request.now (Ok c.args.target.now) (g.S.Shelf.holds c.args.shelf.now) (Rose (g.S.Shelf.faults c.args.shelf.now) (g.S.Shelf.faults c.args.shelf.now))
    c.plain.result 501 [] c.plain.ensures refl refl (λ shelf told. unknown c.args.store.now shelf c.args.request.now (Ok c.args.target.now) other)

pub returns-then-not-has_method-clause-judged : goal.returns-then-not-has_method-clause-judged
returns-then-not-has_method-clause-judged g c =
    let known : is_known c.args.request.now.method ≡ true = search rules in
    let other : bytes_eq c.args.request.now.method (method_of c.args.target.now) ≡ false = search rules in
    refuses c.args.store.now c.args.request.now (Ok c.args.target.now) (g.S.Shelf.holds c.args.shelf.now) (Rose (g.S.Shelf.faults c.args.shelf.now) (g.S.Shelf.faults c.args.shelf.now))
    c.plain-then-not-has_method.result 405 [] c.plain-then-not-has_method.ensures refl refl (λ shelf told. other_method c.args.store.now shelf c.args.request.now c.args.target.now known other)

pub returns-then-not-is_of_version-clause-judged : goal.returns-then-not-is_of_version-clause-judged
returns-then-not-is_of_version-clause-judged g c =
    let known : is_known c.args.request.now.method ≡ true = search rules in
    let fits : bytes_eq c.args.request.now.method (method_of c.args.target.now) ≡ true = search rules in
    let other : all_named (codes "ProtocolVersion") is_version c.args.request.now.headers ≡ false = search rules in
    refuses c.args.store.now c.args.request.now (Ok c.args.target.now) (g.S.Shelf.holds c.args.shelf.now) (Rose (g.S.Shelf.faults c.args.shelf.now) (g.S.Shelf.faults c.args.shelf.now))
    c.in_ok-reply.reply 400 (codes "wrong ProtocolVersion") c.in_ok-reply.ensures refl refl
    (λ shelf told. other_version c.args.store.now shelf c.args.request.now c.args.target.now known fits other)

pub judge_past_head-requires-clause-past : goal.judge_past_head-requires-clause-past
judge_past_head-requires-clause-past g c = λ shelf.
    let known : is_known c.args.request.now.method ≡ true = search rules in
    let fits : bytes_eq c.args.request.now.method (method_of c.args.target.now) ≡ true = search rules in
    let version : all_named (codes "ProtocolVersion") is_version c.args.request.now.headers ≡ true = search rules in
    past c.args.store.now shelf c.args.request.now c.args.target.now known fits version
