use Rattle.command_kind.proofs.Classes.{commands_of_no_kind}
use Rattle.command_kind.proofs.laws.class_laws.Goals as goal

pub returns : goal.returns
returns c = commands_of_no_kind
