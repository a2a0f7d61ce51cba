use Rattle.std.proofs.Common.{rules}
use Rattle.mof_codec.proofs.Options.{of_some, of_none}
use Rattle.mof_codec.proofs.LiteralsRead.{strings_start, strings_next, reads_string, lacks_open, lacks_open_after, string_shorter}
use Rattle.mof_codec.proofs.values.strings.string.Goals as goal

pub returns-in_default-2-clause-none : goal.returns-in_default-2-clause-none
returns-in_default-2-clause-none c = lacks_open _ _ c.in-Some.ensures.some (of_none _ _ c.in_default-2.is c.in_ok-rest.ensures.none)

pub loop-after-init : goal.loop-after-init
loop-after-init c = (search rules, strings_start _ _ _ _ _ c.in-Some.ensures.some c.new-read.ensures.items (of_some _ _ _ c.in-Some-2.is c.in_ok-rest.ensures.some))

pub returns-in_default-3-clause-none : goal.returns-in_default-3-clause-none
returns-in_default-3-clause-none c =
    lacks_open_after _ _ _ _ c.loop-after.invariant.1 c.in-Some-quote_rest.ensures.some (of_none _ _ c.in_default-3.is c.in_ok-rest-2.ensures.none)

pub loop-after-smaller : goal.loop-after-smaller
loop-after-smaller c = string_shorter _ _ _ _ _ c.in-Some-quote_rest.ensures.some (of_some _ _ _ c.in-Some-3.is c.in_ok-rest-2.ensures.some)

pub loop-after-preserved : goal.loop-after-preserved
loop-after-preserved c =
    (search rules, strings_next _ _ _ _ _ _ c.loop-after.invariant.1 c.in-Some-quote_rest.ensures.some (of_some _ _ _ c.in-Some-3.is c.in_ok-rest-2.ensures.some))

pub returns-clause-some : goal.returns-clause-some
returns-clause-some c = rw c.of.ensures (reads_string _ _ _ c.loop-after.invariant.1 c.in_default-quote_rest.ensures.none)
