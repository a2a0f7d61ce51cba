use Rattle.std.proofs.Common.{◌≡◌, false, sym, subst, rules}
use Rattle.gate_log.specs.Log.{LogTerm, IsLogOf}
use Rattle.gate_log.proofs.Ready.{of_disk, ready_put}
use Rattle.gate_log_tests.proofs.Begun.{begun_of}
use Rattle.gate_log_tests.proofs.tests.stores.begin_with.Goals as goal

pub returns-clause-of : goal.returns-clause-of
returns-clause-of g c =
    let log = c.args.log.now in
    let unspent : log.spent ≡ false = search rules in
    let of = of_disk g.D.Disk c.args.disk.now log unspent c.requires.of in
    let begun = subst (λ (t : LogTerm). IsLogOf g.D.Disk c.args.disk.now t of.0) (sym c.begin_rewrite.ensures) (begun_of _ _ log of.0 of.1) in
    ready_put g.D.Disk _ _ c.put.new.disk c.begin_rewrite.new.self c.put.new.self c.args.body.now c.put.result of.0 c.put.ensures.answer (c.put.ensures.ok of.0 begun)
