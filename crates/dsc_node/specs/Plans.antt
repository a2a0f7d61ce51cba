-- Plans that a start carries out.
use Rattle.std.specs.Prelude.{◌≡◌, None, ⊤}
use Rattle.partial_merge.specs.Merged.{IsDocumentOf}
use Rattle.node_state.specs.declared.node.Node.{Node}
use Rattle.node_state.specs.StagedParts.{parts_of}
use Rattle.node_state.specs.Table.{IsWithin}
use Rattle.dsc_node.specs.declared.command.Command.{Command}
use Rattle.dsc_node.specs.declared.plan.Bring.{Bring}
use Rattle.dsc_node.specs.declared.plan.Bring.TheVariants as bring
use Rattle.dsc_node.specs.declared.plan.Needs.TheVariants as need
use Rattle.dsc_node.specs.declared.plan.Plan.{Plan}
use Rattle.dsc_node.specs.Commands.{IsPlanOf, IsTaken, why_not}

-- it is what a command asks for
pub record IsPlan (plan : Plan) : Type 0 where
  pub command : Command
  pub taken : IsTaken command
  pub is : IsPlanOf command plan

-- the node can be brought this: an event is as it may have it, a pushed document is that of its parts, a pushed part is one of its partial
-- configurations, and the server may be asked
abbrev pub CanBring : Node → Bring → Type 0
CanBring node (bring.Event event) = IsWithin event
CanBring node (bring.Push staged document) = IsDocumentOf (parts_of staged) document
CanBring node (bring.PushPart name bytes) = why_not node (need.PushedPartial name) ≡ None
CanBring node bring.Pull = why_not node need.Pull ≡ None
CanBring node (bring.Registration name) = why_not node need.Server ≡ None
CanBring node _ = ⊤
