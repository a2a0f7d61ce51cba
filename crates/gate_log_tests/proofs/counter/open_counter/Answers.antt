use Rattle.std.proofs.Common.{ℕ, sym, subst}
use Rattle.gate_log.specs.declared.error.LogError.{LogError}
use Rattle.gate_log.specs.Kept.{NotOpenedBy, UnopenedBy}
use Rattle.gate_log_tests.specs.Counting.{LeadsToCount, count_shape}
use Rattle.gate_log_tests.proofs.counter.open_counter.Goals as goal

pub returns-in-Err-Disk-clause-cause : goal.returns-in-Err-Disk-clause-cause
returns-in-Err-Disk-clause-cause g c =
    subst (λ (e : LogError). UnopenedBy {X = ℕ} g.D.Disk c.args.disk.now c.open_kept.new.disk count_shape LeadsToCount e) c.in-Err-Disk.field-0-is
    (c.in-Err-Disk.ensures.cause c.open_kept.new.replay.count (λ bodies took. took) (λ bodies body refused. refused))

pub returns-in-Err-NotAStore-clause-cause : goal.returns-in-Err-NotAStore-clause-cause
returns-in-Err-NotAStore-clause-cause g c =
    subst (λ (at : ℕ). NotOpenedBy {X = ℕ} g.D.Disk c.args.disk.now c.open_kept.new.disk count_shape LeadsToCount at) (sym c.in-Err-NotAStore.at-is)
    (subst (λ (e : LogError). UnopenedBy {X = ℕ} g.D.Disk c.args.disk.now c.open_kept.new.disk count_shape LeadsToCount e) c.in-Err-NotAStore.field-0-is
    (c.in-Err-NotAStore.ensures.cause c.open_kept.new.replay.count (λ bodies took. took) (λ bodies body refused. refused)))
