use Rattle.gate_log.proofs.Leading.{kept_grown, moment_added_by}
use Rattle.gate_log.proofs.keeping.add_all.Goals as goal

pub returns-in-Ok-clause-kept : goal.returns-in-Ok-clause-kept
returns-in-Ok-clause-kept g c = λ old new kept counts.
    kept_grown g.K.LoggedState.shape g.K.LoggedState.leads g.D.Disk c.args.disk.now c.append_all.new.disk c.args.log.now c.append_all.new.log (g.S.Spelling.rest c.args.change.now) old new kept counts.1 c.in-Ok.ensures.answer
    (c.in-Ok.ensures.ok kept.bodies kept.of)

pub returns-in-Ok-clause-any_moment : goal.returns-in-Ok-clause-any_moment
returns-in-Ok-clause-any_moment g c = λ old new kept counts.
    moment_added_by g.K.LoggedState.shape g.K.LoggedState.leads g.D.Disk c.args.disk.now c.append_all.new.disk c.args.log.now (g.S.Spelling.rest c.args.change.now) old new kept counts.0 counts.1 (c.append_all.ensures.any_moment kept.bodies kept.of)

pub returns-in-Err-Disk-clause-any_moment : goal.returns-in-Err-Disk-clause-any_moment
returns-in-Err-Disk-clause-any_moment g c = λ old new kept counts.
    moment_added_by g.K.LoggedState.shape g.K.LoggedState.leads g.D.Disk c.args.disk.now c.append_all.new.disk c.args.log.now (g.S.Spelling.rest c.args.change.now) old new kept counts.0 counts.1 (c.append_all.ensures.any_moment kept.bodies kept.of)

pub returns-in-Ok-clause-same_bank : goal.returns-in-Ok-clause-same_bank
returns-in-Ok-clause-same_bank g c = c.append_all.ensures.same_bank c.requires.kept.1.bodies c.requires.kept.1.of

pub returns-in-Err-Disk-clause-same_bank : goal.returns-in-Err-Disk-clause-same_bank
returns-in-Err-Disk-clause-same_bank g c = c.append_all.ensures.same_bank c.requires.kept.1.bodies c.requires.kept.1.of
