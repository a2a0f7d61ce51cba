use Rattle.std.proofs.Common.{◌==◌, ◌∙◌, ap, refl, rules, subst, sym, IsErr}
use Rattle.std.proofs.lemmas.Bool.{eq-eqb}
use Rattle.dsc_terms.specs.Counts.{Rose}
use Rattle.pull_messages.specs.declared.target_kinds.Target.TheVariants.{Node, SendReport}
use Rattle.pull_store.specs.declared.change.Change.TheVariants as changes
use Rattle.pull_server.specs.declared.verdict.Verdict.{Verdict}
use Rattle.pull_server.specs.Judging.{Judges}
use Rattle.pull_server.specs.Own.{is_shared}
use Rattle.pull_server.proofs.Judged.{never}
use Rattle.pull_server.proofs.Served.{crowds_ok, kept_serves, overfills_ok, registration_made, registration_replies, report_made, report_replies, unserved, unserved_not_ok, wider}
use Rattle.pull_server.proofs.answers.answer.Goals as goal

pub returns-in_err-reply-clause-serves : goal.returns-in_err-reply-clause-serves
returns-in_err-reply-clause-serves g c =
    let fails : IsErr c.from_residual.result = search rules in
    unserved_not_ok g.D.Disk c.args.request.now (g.S.Shelf.holds c.args.shelf.now) c.args.store.now c.args.disk.now c.from_residual.result fails (g.met.D.Disk.only_now c.args.disk.now) c.requires.ready

pub returns-in-Says-clause-reply : goal.returns-in-Says-clause-reply
returns-in-Says-clause-reply g c = λ contents told.
    let judges = subst (λ (v : Verdict). Judges c.args.store.now c.args.request.now (g.S.Shelf.holds c.args.shelf.now) (Rose (g.S.Shelf.faults c.args.shelf.now) (g.S.Shelf.faults c.judge.new.shelf)) v) c.in-Says.is c.in_ok-reply.ensures.judges in
    record {
      aim = judges.aim;
      is_aim = judges.is_aim;
      pulled = wider c.args.store.now contents c.args.request.now judges.aim (Rose (g.S.Shelf.faults c.args.shelf.now) (g.S.Shelf.faults c.judge.new.shelf))
          (Rose (g.D.Disk.faults c.args.disk.now) (g.D.Disk.faults c.args.disk.now)) c.in-Says.reply c.args.store.now.rows (judges.judged.pulled contents told);
    }

pub returns-in-Says-clause-serves : goal.returns-in-Says-clause-serves
returns-in-Says-clause-serves g c =
    let judges = subst (λ (v : Verdict). Judges c.args.store.now c.args.request.now (g.S.Shelf.holds c.args.shelf.now) (Rose (g.S.Shelf.faults c.args.shelf.now) (g.S.Shelf.faults c.judge.new.shelf)) v) c.in-Says.is c.in_ok-reply.ensures.judges in
    unserved g.D.Disk c.args.request.now (g.S.Shelf.holds c.args.shelf.now) c.args.store.now c.args.disk.now c.in-Says.reply (g.met.D.Disk.only_now c.args.disk.now) c.requires.ready
    (λ done change asks. cc (judges.judged.nothing done, judges.only change asks))

pub returns-in-Register-clause-reply : goal.returns-in-Register-clause-reply
returns-in-Register-clause-reply g c =
    let judges = subst (λ (v : Verdict). Judges c.args.store.now c.args.request.now (g.S.Shelf.holds c.args.shelf.now) (Rose (g.S.Shelf.faults c.args.shelf.now) (g.S.Shelf.faults c.judge.new.shelf)) v) c.in-Register.is c.in_ok-reply.ensures.judges in
    registration_replies c.args.store.now c.keep_registration.new.store c.args.request.now (g.S.Shelf.holds c.args.shelf.now)
    (Rose (g.D.Disk.faults c.args.disk.now) (g.D.Disk.faults c.keep_registration.new.disk)) (Rose (g.S.Shelf.faults c.args.shelf.now) (g.S.Shelf.faults c.judge.new.shelf))
    judges.aim judges.is_aim c.in-Register.agent c.in-Register.registration judges.judged.0 judges.judged.2.asks judges.judged.2.passes c.keep_registration.result c.keep_registration.ensures.reply

pub returns-in-Register-clause-serves : goal.returns-in-Register-clause-serves
returns-in-Register-clause-serves g c =
    let judges = subst (λ (v : Verdict). Judges c.args.store.now c.args.request.now (g.S.Shelf.holds c.args.shelf.now) (Rose (g.S.Shelf.faults c.args.shelf.now) (g.S.Shelf.faults c.judge.new.shelf)) v) c.in-Register.is c.in_ok-reply.ensures.judges in
    kept_serves g.D.Disk c.args.request.now c.args.store.now c.args.disk.now judges.aim (Node c.in-Register.agent) (changes.Register c.in-Register.agent c.in-Register.registration)
    judges.judged.0 judges.is_aim judges.judged.2.asks judges.only (g.S.Shelf.holds c.args.shelf.now)
    (registration_made c.args.store.now c.args.request.now (g.S.Shelf.holds c.args.shelf.now) judges.aim c.in-Register.agent c.in-Register.registration judges.judged.0 judges.judged.2.asks judges.judged.2.passes)
    204 c.keep_registration.result c.keep_registration.new.store c.keep_registration.new.disk refl c.keep_registration.ensures

pub returns-in-Report-clause-reply : goal.returns-in-Report-clause-reply
returns-in-Report-clause-reply g c =
    let judges = subst (λ (v : Verdict). Judges c.args.store.now c.args.request.now (g.S.Shelf.holds c.args.shelf.now) (Rose (g.S.Shelf.faults c.args.shelf.now) (g.S.Shelf.faults c.judge.new.shelf)) v) c.in-Report.is c.in_ok-reply.ensures.judges in
    report_replies c.args.store.now c.keep_report.new.store c.args.request.now (g.S.Shelf.holds c.args.shelf.now)
    (Rose (g.D.Disk.faults c.args.disk.now) (g.D.Disk.faults c.keep_report.new.disk)) (Rose (g.S.Shelf.faults c.args.shelf.now) (g.S.Shelf.faults c.judge.new.shelf))
    judges.aim judges.is_aim c.in-Report.agent c.in-Report.job c.in-Report.body.items judges.judged.0 judges.judged.3.asks judges.judged.3.passes c.keep_report.result c.keep_report.ensures.reply

pub returns-in-Report-clause-serves : goal.returns-in-Report-clause-serves
returns-in-Report-clause-serves g c =
    let judges = subst (λ (v : Verdict). Judges c.args.store.now c.args.request.now (g.S.Shelf.holds c.args.shelf.now) (Rose (g.S.Shelf.faults c.args.shelf.now) (g.S.Shelf.faults c.judge.new.shelf)) v) c.in-Report.is c.in_ok-reply.ensures.judges in
    kept_serves g.D.Disk c.args.request.now c.args.store.now c.args.disk.now judges.aim (SendReport c.in-Report.agent) (changes.Report c.in-Report.agent c.in-Report.job c.in-Report.body.items)
    judges.judged.0 judges.is_aim judges.judged.3.asks judges.only (g.S.Shelf.holds c.args.shelf.now)
    (report_made c.args.store.now c.args.request.now (g.S.Shelf.holds c.args.shelf.now) judges.aim c.in-Report.agent c.in-Report.job c.in-Report.body.items judges.judged.0 judges.judged.3.asks judges.judged.3.passes)
    200 c.keep_report.result c.keep_report.new.store c.keep_report.new.disk refl c.keep_report.ensures

pub returns-in-Says-clause-crowded : goal.returns-in-Says-clause-crowded
returns-in-Says-clause-crowded g c = λ shared.
    let judges = subst (λ (v : Verdict). Judges c.args.store.now c.args.request.now (g.S.Shelf.holds c.args.shelf.now) (Rose (g.S.Shelf.faults c.args.shelf.now) (g.S.Shelf.faults c.judge.new.shelf)) v) c.in-Says.is c.in_ok-reply.ensures.judges in
    never (500 == 503) (eq-eqb 500 503 (sym (judges.judged.own (ap is_shared shared)) ∙ shared)) refl

pub returns-in-Register-clause-crowded : goal.returns-in-Register-clause-crowded
returns-in-Register-clause-crowded g c =
    let judges = subst (λ (v : Verdict). Judges c.args.store.now c.args.request.now (g.S.Shelf.holds c.args.shelf.now) (Rose (g.S.Shelf.faults c.args.shelf.now) (g.S.Shelf.faults c.judge.new.shelf)) v) c.in-Register.is c.in_ok-reply.ensures.judges in
    crowds_ok g.D.Disk c.args.request.now c.args.store.now c.args.disk.now judges.aim (Node c.in-Register.agent) (changes.Register c.in-Register.agent c.in-Register.registration)
    judges.judged.0 judges.is_aim judges.judged.2.asks judges.only 204 (Rose (g.D.Disk.faults c.args.disk.now) (g.D.Disk.faults c.keep_registration.new.disk))
    c.keep_registration.result c.keep_registration.new.store refl c.keep_registration.ensures.reply

pub returns-in-Report-clause-crowded : goal.returns-in-Report-clause-crowded
returns-in-Report-clause-crowded g c =
    let judges = subst (λ (v : Verdict). Judges c.args.store.now c.args.request.now (g.S.Shelf.holds c.args.shelf.now) (Rose (g.S.Shelf.faults c.args.shelf.now) (g.S.Shelf.faults c.judge.new.shelf)) v) c.in-Report.is c.in_ok-reply.ensures.judges in
    crowds_ok g.D.Disk c.args.request.now c.args.store.now c.args.disk.now judges.aim (SendReport c.in-Report.agent) (changes.Report c.in-Report.agent c.in-Report.job c.in-Report.body.items)
    judges.judged.0 judges.is_aim judges.judged.3.asks judges.only 200 (Rose (g.D.Disk.faults c.args.disk.now) (g.D.Disk.faults c.keep_report.new.disk))
    c.keep_report.result c.keep_report.new.store refl c.keep_report.ensures.reply

pub returns-in-Says-clause-overfull : goal.returns-in-Says-clause-overfull
returns-in-Says-clause-overfull g c = λ shared.
    let judges = subst (λ (v : Verdict). Judges c.args.store.now c.args.request.now (g.S.Shelf.holds c.args.shelf.now) (Rose (g.S.Shelf.faults c.args.shelf.now) (g.S.Shelf.faults c.judge.new.shelf)) v) c.in-Says.is c.in_ok-reply.ensures.judges in
    never (500 == 507) (eq-eqb 500 507 (sym (judges.judged.own (ap is_shared shared)) ∙ shared)) refl

pub returns-in-Register-clause-overfull : goal.returns-in-Register-clause-overfull
returns-in-Register-clause-overfull g c =
    let judges = subst (λ (v : Verdict). Judges c.args.store.now c.args.request.now (g.S.Shelf.holds c.args.shelf.now) (Rose (g.S.Shelf.faults c.args.shelf.now) (g.S.Shelf.faults c.judge.new.shelf)) v) c.in-Register.is c.in_ok-reply.ensures.judges in
    overfills_ok g.D.Disk c.args.request.now c.args.store.now c.args.disk.now judges.aim (Node c.in-Register.agent) (changes.Register c.in-Register.agent c.in-Register.registration)
    judges.judged.0 judges.is_aim judges.judged.2.asks judges.only 204 (Rose (g.D.Disk.faults c.args.disk.now) (g.D.Disk.faults c.keep_registration.new.disk))
    c.keep_registration.result c.keep_registration.new.store refl c.keep_registration.ensures.reply

pub returns-in-Report-clause-overfull : goal.returns-in-Report-clause-overfull
returns-in-Report-clause-overfull g c =
    let judges = subst (λ (v : Verdict). Judges c.args.store.now c.args.request.now (g.S.Shelf.holds c.args.shelf.now) (Rose (g.S.Shelf.faults c.args.shelf.now) (g.S.Shelf.faults c.judge.new.shelf)) v) c.in-Report.is c.in_ok-reply.ensures.judges in
    overfills_ok g.D.Disk c.args.request.now c.args.store.now c.args.disk.now judges.aim (SendReport c.in-Report.agent) (changes.Report c.in-Report.agent c.in-Report.job c.in-Report.body.items)
    judges.judged.0 judges.is_aim judges.judged.3.asks judges.only 200 (Rose (g.D.Disk.faults c.args.disk.now) (g.D.Disk.faults c.keep_report.new.disk))
    c.keep_report.result c.keep_report.new.store refl c.keep_report.ensures.reply
