use Rattle.pull_store.specs.declared.change.Change.TheVariants as changes
use Rattle.pull_server.proofs.Kept.{keeps}
use Rattle.pull_server.proofs.keeping.keep_report.Goals as goal

pub returns : goal.returns
returns g c =
    keeps g.D.Disk c.args.store.now c.put_report-done.new.self (changes.Report c.args.agent c.args.job c.args.body.items) c.args.disk.now c.put_report-done.new.disk 200 c.put_report-done.result c.reply_to.result
    c.requires.row (g.met.D.Disk.only_now c.args.disk.now) c.put_report-done.ensures.answer c.put_report-done.ensures.ready c.put_report-done.ensures.any_moment c.put_report-done.ensures.count c.reply_to.ensures
