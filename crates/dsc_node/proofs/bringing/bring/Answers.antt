use Rattle.std.proofs.Common.{Option, subst, sym}
use Rattle.std.specs.Prelude.{IfSome}
use Rattle.node_state.specs.declared.event.Event.{Event}
use Rattle.node_state.specs.Table.{IsWithin}
use Rattle.dsc_node.specs.declared.bringing.First.{First}
use Rattle.dsc_node.proofs.Plans.{boot_within}
use Rattle.dsc_node.proofs.bringing.bring.Goals as goal

pub returns-in-Boot-clause-within : goal.returns-in-Boot-clause-within
returns-in-Boot-clause-within g c =
    subst (λ (f : First). IfSome f.event IsWithin) (sym c.plain-in-Boot.ensures)
    (subst (λ (f : Option Event). IfSome f IsWithin) (sym c.boot_event.ensures) (boot_within c.args.node.now.reboot))
