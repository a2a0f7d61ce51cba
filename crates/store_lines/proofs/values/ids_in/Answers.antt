use Rattle.std.proofs.Common.{◌∙◌, sym, subst, ap, map, codes, Some}
use Rattle.std.proofs.lemmas.Result.{IfOk-weaker}
use Rattle.clap.specs.Words.{found_of}
use Rattle.pull_messages.specs.Targets.{agent_of}
use Rattle.store_lines.specs.Words.{AreIds, AreNoIds}
use Rattle.store_lines.proofs.Given.{given_texts, no_texts}
use Rattle.store_lines.proofs.values.ids_in.Goals as goal

pub returns-in-Some-clause-ok : goal.returns-in-Some-clause-ok
returns-in-Some-clause-ok c =
    let is = given_texts (found_of c.args.matches.now) (codes "forget") c.get_strs.result c.in-Some.texts c.get_strs.ensures c.in-Some.is in
    IfOk-weaker c.ids_from.result _ _ (λ ids are. subst (λ texts. AreIds texts ids.items) (sym is) are) c.ids_from.ensures.ok

pub returns-in-Some-clause-usage : goal.returns-in-Some-clause-usage
returns-in-Some-clause-usage c refused =
    let is = given_texts (found_of c.args.matches.now) (codes "forget") c.get_strs.result c.in-Some.texts c.get_strs.ensures c.in-Some.is in
    subst AreNoIds (sym is) (c.ids_from.ensures.usage refused)

pub returns-in-None-clause-ok : goal.returns-in-None-clause-ok
returns-in-None-clause-ok c =
    ap (map agent_of) (no_texts (found_of c.args.matches.now) (codes "forget") c.get_strs.result c.get_strs.ensures c.in-None.is)
    ∙ sym (ap (map Some) c.new.ensures.items)
