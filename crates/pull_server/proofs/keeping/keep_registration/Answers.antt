use Rattle.pull_store.specs.declared.change.Change.TheVariants as changes
use Rattle.pull_server.proofs.Kept.{keeps, known_registration}
use Rattle.pull_server.proofs.keeping.keep_registration.Goals as goal

pub returns : goal.returns
returns g c =
    keeps g.D.Disk c.args.store.now c.register-done.new.self (changes.Register c.args.agent c.args.registration) c.args.disk.now c.register-done.new.disk 204 c.register-done.result c.reply_to.result
    (known_registration c.args.agent c.args.registration c.args.store.now.rows) (g.met.D.Disk.only_now c.args.disk.now) c.register-done.ensures.answer c.register-done.ensures.ready c.register-done.ensures.any_moment c.register-done.ensures.count c.reply_to.ensures
