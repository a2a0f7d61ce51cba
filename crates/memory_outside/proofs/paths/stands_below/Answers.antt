use Rattle.std.proofs.Common.{sym, ◌∙◌}
use Rattle.dsc_outside.proofs.Below.{below_rest, not_after, begins_first, begins_none}
use Rattle.memory_outside.proofs.paths.stands_below.Goals as goal

pub returns-in_default : goal.returns-in_default
returns-in_default c = sym (not_after c.args.path.now c.args.other.now c.in_default.ensures.cases)

pub returns-in-empty : goal.returns-in-empty
returns-in-empty c =
    let cases = c.in-Some.ensures.cases in
    sym (below_rest c.args.path.now c.args.other.now _ cases.0 cases.1 ∙ begins_none _ c.in-empty.len_below)

pub returns-in-len1-up : goal.returns-in-len1-up
returns-in-len1-up c =
    let cases = c.in-Some.ensures.cases in
    sym (below_rest c.args.path.now c.args.other.now _ cases.0 cases.1 ∙ begins_first _ c.in-len1-up.len_at_least)
