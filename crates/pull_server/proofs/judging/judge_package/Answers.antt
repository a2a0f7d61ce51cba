use Rattle.std.proofs.Common.{◌≡◌, refl, sym, encode_utf8_all}
use Rattle.pull_messages.specs.declared.target_kinds.Target.TheVariants.{Module}
use Rattle.pull_outside.specs.Shelf.{package_of}
use Rattle.pull_store.specs.Store.{is_spent}
use Rattle.pull_server.proofs.Judged.{item_said}
use Rattle.pull_server.proofs.Rows.{no_package, spent_package, found_package}
use Rattle.pull_server.proofs.judging.judge_package.Goals as goal

pub returns-clause-judged : goal.returns-clause-judged
returns-clause-judged g c =
    let store = c.args.store.now in
    let request = c.args.request.now in
    let state : is_spent store ≡ c.is_spent.result = sym c.is_spent.ensures in
    item_said store request (Module c.args.name.now c.args.version.now) (g.S.Shelf.holds c.args.shelf.now) (g.S.Shelf.faults c.args.shelf.now) (g.S.Shelf.faults c.item_reply.new.shelf)
    c.requires.past refl (λ shelf. package_of (encode_utf8_all c.args.name.now) (encode_utf8_all c.args.version.now) shelf)
    (λ shelf none. no_package store shelf request c.args.name.now c.args.version.now none)
    (λ shelf bytes is spent. spent_package store shelf request c.args.name.now c.args.version.now bytes is spent)
    (λ shelf bytes is unspent. found_package store shelf request c.args.name.now c.args.version.now bytes is unspent)
    c.is_spent.result c.package-found.result c.in_ok-item_reply.field-0 state c.package-found.ensures.package (rw c.item_reply.ensures.faults c.package-found.ensures.cause) c.in_ok-item_reply.ensures.reply
