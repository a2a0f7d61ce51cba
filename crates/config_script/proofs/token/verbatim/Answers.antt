use Rattle.std.proofs.Common.{rules}
use Rattle.config_script.proofs.Scanned.{verbatim_begins, verbatim_doubled, verbatim_ends, verbatim_found, verbatim_none, verbatim_shorter}
use Rattle.config_script.proofs.token.verbatim.Goals as goal

pub loop-rest-init : goal.loop-rest-init
loop-rest-init c = (search rules, verbatim_begins _ _ c.from_apostrophe-left.ensures)

pub loop-rest-preserved : goal.loop-rest-preserved
loop-rest-preserved c =
    (search rules, verbatim_doubled _ _ _ _ _ _ c.loop-rest.invariant.1 c.in-Some.ensures.some c.in-Some-apostrophe_rest.ensures c.from_apostrophe-left-in-Some.ensures)

pub loop-rest-smaller : goal.loop-rest-smaller
loop-rest-smaller c = verbatim_shorter _ _ _ _ _ c.in-Some.ensures.some c.in-Some-apostrophe_rest.ensures c.from_apostrophe-left-in-Some.ensures

pub returns-in_default-apostrophe_rest : goal.returns-in_default-apostrophe_rest
returns-in_default-apostrophe_rest c =
    verbatim_found _ _ _ _ _ c.loop-rest.invariant.1 c.in-Some.ensures.some c.in_default-apostrophe_rest.ensures
    c.before-in_default-apostrophe_rest.ensures
