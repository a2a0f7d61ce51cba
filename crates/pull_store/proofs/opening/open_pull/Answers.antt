use Rattle.std.proofs.Common.{ℕ, [], sym, subst}
use Rattle.gate_log.specs.declared.error.LogError.{LogError}
use Rattle.gate_log.specs.Kept.{UnopenedBy}
use Rattle.pull_store.specs.Stands.{Leads, pull_shape}
use Rattle.pull_store.specs.Store.{NotOpened}
use Rattle.pull_store.proofs.SoundSteps.{no_rows, sound_replayed}
use Rattle.pull_store.proofs.opening.open_pull.Goals as goal

pub returns-in-Err-Disk-clause-cause : goal.returns-in-Err-Disk-clause-cause
returns-in-Err-Disk-clause-cause g c =
    subst (λ (e : LogError). UnopenedBy g.D.Disk c.args.disk.now c.open_kept.new.disk pull_shape Leads e) c.in-Err-Disk.field-0-is
    (c.in-Err-Disk.ensures.cause c.open_kept.new.replay.grown.rows.items (λ bodies took. took) (λ bodies body refused. refused))

pub returns-in-Err-NotAStore-clause-cause : goal.returns-in-Err-NotAStore-clause-cause
returns-in-Err-NotAStore-clause-cause g c =
    subst (λ (at : ℕ). NotOpened g.D.Disk c.args.disk.now c.open_kept.new.disk at) (sym c.in-Err-NotAStore.at-is)
    (subst (λ (e : LogError). UnopenedBy g.D.Disk c.args.disk.now c.open_kept.new.disk pull_shape Leads e) c.in-Err-NotAStore.field-0-is
    (c.in-Err-NotAStore.ensures.cause c.open_kept.new.replay.grown.rows.items (λ bodies took. took) (λ bodies body refused. refused)))

pub of-requires-clause-apart : goal.of-requires-clause-apart
of-requires-clause-apart g c =
    let kept = (c.in-Ok.ensures.opened c.open_kept.new.replay.grown.rows.items (λ bodies took. took)).kept in
    (sound_replayed kept.bodies [] c.open_kept.new.replay.grown.rows.items no_rows kept.leads).apart
