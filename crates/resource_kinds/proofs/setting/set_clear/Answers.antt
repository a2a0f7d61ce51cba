use Rattle.resource_kinds.proofs.Changed.{changed_then_looked, changed_in_part}
use Rattle.resource_kinds.proofs.setting.set_clear.Goals as goal

pub returns-in-Err-Failed-clause-shown : goal.returns-in-Err-Failed-clause-shown
returns-in-Err-Failed-clause-shown g c =
    changed_in_part (g.H.Host.shown c.args.host.now) (g.H.Host.shown c.apply.new.host) c.args.wanted.now c.in-Err-Failed.field-0 c.requires c.in-Err-Failed.ensures.change

pub returns-in-Err-Memory-clause-shown : goal.returns-in-Err-Memory-clause-shown
returns-in-Err-Memory-clause-shown g c =
    changed_in_part (g.H.Host.shown c.args.host.now) (g.H.Host.shown c.apply.new.host) c.args.wanted.now c.in-Err-Memory.field-0 c.requires c.in-Err-Memory.ensures.change

pub returns-in-Err-Failed-reboot_wanted-clause-shown : goal.returns-in-Err-Failed-reboot_wanted-clause-shown
returns-in-Err-Failed-reboot_wanted-clause-shown g c =
    changed_then_looked (g.H.Host.shown c.args.host.now) (g.H.Host.shown c.apply.new.host) (g.H.Host.shown c.reboot_wanted.new.self) c.args.wanted.now
    c.requires c.in-Ok-apply.ensures.change c.reboot_wanted.ensures.shown

pub returns-clause-shown : goal.returns-clause-shown
returns-clause-shown g c =
    changed_then_looked (g.H.Host.shown c.args.host.now) (g.H.Host.shown c.apply.new.host) (g.H.Host.shown c.reboot_wanted.new.self) c.args.wanted.now
    c.requires c.in-Ok-apply.ensures.change c.reboot_wanted.ensures.shown
