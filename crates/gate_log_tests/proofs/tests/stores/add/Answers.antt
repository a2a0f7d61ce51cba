use Rattle.std.proofs.Common.{◌≡◌, ◌++◌, ◌∷◌, [], false, rules}
use Rattle.gate_log.proofs.Ready.{of_disk, ready_appended}
use Rattle.gate_log_tests.proofs.tests.stores.add.Goals as goal

pub returns-clause-of : goal.returns-clause-of
returns-clause-of g c =
    let log = c.args.log.now in
    let unspent : log.spent ≡ false = search rules in
    let of = of_disk g.D.Disk c.args.disk.now log unspent c.requires.of in
    ready_appended g.D.Disk _ _ c.append.new.disk log c.append.new.self c.args.body.now c.append.result (of.0 ++ c.args.body.now ∷ []) c.append.ensures.answer (c.append.ensures.ok of.0 of.1)
