use Rattle.std.proofs.Common.{◌≡◌, ◌≤◌, ◌++◌, ◌∷◌, [], false, sym, subst, rules}
use Rattle.gate_log.specs.Log.{LogTerm, IsLogOf, HasPutOn}
use Rattle.gate_log.proofs.Ready.{of_disk, ready_finished}
use Rattle.gate_log_tests.proofs.Begun.{begun_of, begun_put}
use Rattle.gate_log_tests.proofs.tests.stores.rewrite.Goals as goal

pub finish_rewrite-requires-clause-of : goal.finish_rewrite-requires-clause-of
finish_rewrite-requires-clause-of g c =
    let log = c.args.log.now in
    let unspent : log.spent ≡ false = search rules in
    let of = of_disk g.D.Disk c.args.disk.now log unspent c.requires.of in
    let begun = subst (λ (t : LogTerm). IsLogOf g.D.Disk c.args.disk.now t of.0) (sym c.begin_rewrite.ensures) (begun_of _ _ log of.0 of.1) in
    (of.0, c.in_ok-put.ensures.ok of.0 begun)

pub finish_rewrite-requires-clause-begun : goal.finish_rewrite-requires-clause-begun
finish_rewrite-requires-clause-begun g c =
    let log = c.args.log.now in
    let some : 1 ≤ log.shape.bank = search rules in
    let put = subst (λ (t : LogTerm). HasPutOn g.D.Disk c.args.disk.now t []) (sym c.begin_rewrite.ensures) (begun_put _ log some) in
    ([] ++ c.args.body.now ∷ [], c.in_ok-put.ensures.put [] put)

pub returns-clause-of : goal.returns-clause-of
returns-clause-of g c =
    let log = c.args.log.now in
    let body = c.args.body.now in
    let unspent : log.spent ≡ false = search rules in
    let some : 1 ≤ log.shape.bank = search rules in
    let of = of_disk g.D.Disk c.args.disk.now log unspent c.requires.of in
    let begun = subst (λ (t : LogTerm). IsLogOf g.D.Disk c.args.disk.now t of.0) (sym c.begin_rewrite.ensures) (begun_of _ _ log of.0 of.1) in
    let put = subst (λ (t : LogTerm). HasPutOn g.D.Disk c.args.disk.now t []) (sym c.begin_rewrite.ensures) (begun_put _ log some) in
    ready_finished g.D.Disk _ _ c.finish_rewrite.new.disk c.put.new.self c.finish_rewrite.new.self c.finish_rewrite.result ([] ++ body ∷ []) c.finish_rewrite.ensures.answer
    (c.finish_rewrite.ensures.ok of.0 ([] ++ body ∷ []) (c.in_ok-put.ensures.ok of.0 begun) (c.in_ok-put.ensures.put [] put))
