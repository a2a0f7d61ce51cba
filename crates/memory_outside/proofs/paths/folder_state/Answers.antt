use Rattle.std.proofs.Common.{sym, ◌∙◌}
use Rattle.memory_outside.proofs.PathEntries.{empty, inhabited}
use Rattle.memory_outside.proofs.paths.folder_state.Goals as goal

pub returns-then-holds_below : goal.returns-then-holds_below
returns-then-holds_below c = (c.requires, inhabited c.args.path.now c.args.paths.now (sym c.holds_below.ensures ∙ c.if-holds_below.true))

pub returns-else-holds_below : goal.returns-else-holds_below
returns-else-holds_below c = (c.requires, empty c.args.path.now c.args.paths.now (sym c.holds_below.ensures ∙ c.if-holds_below.false))
