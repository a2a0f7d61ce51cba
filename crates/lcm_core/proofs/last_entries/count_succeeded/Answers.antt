use Rattle.std.proofs.Common.{◌∙◌, arith}
use Rattle.std.proofs.lemmas.List.Sums.{count_by-le-length}
use Rattle.dsc_terms.specs.Lists.{places_below}
use Rattle.dsc_terms.proofs.Places.{length-places_below}
use Rattle.resource_kinds.specs.Trace.{has_succeeded}
use Rattle.lcm_core.proofs.Successes.{counted}
use Rattle.lcm_core.proofs.last_entries.count_succeeded.Goals as goal

pub returns-clause-value : goal.returns-clause-value
returns-clause-value c = λ count known. c.count_yes.ensures ∙ counted count c.args.calls.now c.requires known

pub returns-clause-bound : goal.returns-clause-bound
returns-clause-bound c = λ count known.
    omega (arith, c.count_yes.ensures, counted count c.args.calls.now c.requires known, count_by-le-length (has_succeeded c.args.calls.now) (places_below count), length-places_below count)
