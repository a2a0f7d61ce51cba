use Rattle.gate_log.proofs.Leading.{kept_rewritten, moment_by}
use Rattle.gate_log.proofs.keeping.rewrite.Goals as goal

pub returns-in-Ok-clause-kept : goal.returns-in-Ok-clause-kept
returns-in-Ok-clause-kept g c = λ old new kept leads.
    kept_rewritten g.K.LoggedState.shape g.K.LoggedState.leads g.D.Disk c.args.disk.now c.rewrite_all.new.disk c.args.log.now c.rewrite_all.new.log (g.S.Spelling.rest c.args.whole.now) old new kept leads c.in-Ok.ensures.answer
    (c.in-Ok.ensures.ok kept.bodies kept.of)

pub returns-in-Ok-clause-any_moment : goal.returns-in-Ok-clause-any_moment
returns-in-Ok-clause-any_moment g c = λ old new kept leads.
    moment_by g.K.LoggedState.shape g.K.LoggedState.leads g.D.Disk c.args.disk.now c.rewrite_all.new.disk c.args.log.now (g.S.Spelling.rest c.args.whole.now) old new kept leads (c.rewrite_all.ensures.any_moment kept.bodies kept.of)

pub returns-in-Err-Disk-clause-any_moment : goal.returns-in-Err-Disk-clause-any_moment
returns-in-Err-Disk-clause-any_moment g c = λ old new kept leads.
    moment_by g.K.LoggedState.shape g.K.LoggedState.leads g.D.Disk c.args.disk.now c.rewrite_all.new.disk c.args.log.now (g.S.Spelling.rest c.args.whole.now) old new kept leads (c.rewrite_all.ensures.any_moment kept.bodies kept.of)

pub returns-in-Ok-clause-bodies : goal.returns-in-Ok-clause-bodies
returns-in-Ok-clause-bodies g c = λ bodies of. c.in-Ok.ensures.ok bodies of
