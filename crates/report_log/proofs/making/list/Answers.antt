use Rattle.std.proofs.Common.{◌∷◌, ◌++◌, ◌∙◌, [], sym, arith, length-append}
use Rattle.std.proofs.lemmas.List.{take_all, take-append-le}
use Rattle.report_log.specs.declared.limits.TheConstants.{LISTED_LIMIT}
use Rattle.report_log.proofs.making.list.Goals as goal

pub returns-in-Ok-clause-listed : goal.returns-in-Ok-clause-listed
returns-in-Ok-clause-listed c =
    let listed = c.args.listed.now.items in
    let more = c.args.missed ∷ [] in
    c.in-Ok.ensures.items ∙ sym (take_all LISTED_LIMIT (listed ++ more) (omega (arith, c.len.ensures, c.if-len-lt-LISTED_LIMIT.true, length-append listed more)))

pub returns-else-len-lt-LISTED_LIMIT-clause-listed :
    goal.returns-else-len-lt-LISTED_LIMIT-clause-listed
returns-else-len-lt-LISTED_LIMIT-clause-listed c =
    let listed = c.args.listed.now.items in
    sym (take-append-le LISTED_LIMIT listed (c.args.missed ∷ []) (omega (arith, c.len.ensures, c.if-len-lt-LISTED_LIMIT.false)) ∙ take_all LISTED_LIMIT listed c.requires.bound)
