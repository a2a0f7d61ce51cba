use Rattle.resource_kinds.proofs.PathCharacters.{drive_first, name_first}
use Rattle.resource_kinds.proofs.path_order.begun.Goals as goal

pub returns-in-Some : goal.returns-in-Some
returns-in-Some c = drive_first c.args.parts.drive c.in-Some.letter c.args.parts.rest.now c.in-Some.is c.requires

pub returns-in-None : goal.returns-in-None
returns-in-None c = name_first c.args.parts.drive c.args.parts.rest.now c.skipped.result.now c.in-None.is c.skipped.ensures
