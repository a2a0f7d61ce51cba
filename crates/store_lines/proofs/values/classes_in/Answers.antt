use Rattle.std.proofs.Common.{◌∙◌, sym, subst, ap, map, codes}
use Rattle.std.proofs.lemmas.Result.{IfOk-weaker}
use Rattle.clap.specs.Words.{found_of}
use Rattle.store_lines.specs.Told.{class_word}
use Rattle.store_lines.specs.Words.{AreNoClasses}
use Rattle.store_lines.proofs.Given.{given_texts, no_texts}
use Rattle.store_lines.proofs.values.classes_in.Goals as goal

pub returns-in-Some-clause-ok : goal.returns-in-Some-clause-ok
returns-in-Some-clause-ok c =
    let is = given_texts (found_of c.args.matches.now) (codes "class") c.get_strs.result c.in-Some.names c.get_strs.ensures c.in-Some.is in
    IfOk-weaker c.classes_named.result _ _ (λ classes same. same ∙ sym is) c.classes_named.ensures.ok

pub returns-in-Some-clause-usage : goal.returns-in-Some-clause-usage
returns-in-Some-clause-usage c refused =
    let is = given_texts (found_of c.args.matches.now) (codes "class") c.get_strs.result c.in-Some.names c.get_strs.ensures c.in-Some.is in
    subst AreNoClasses (sym is) (c.classes_named.ensures.usage refused)

pub returns-in-None-clause-ok : goal.returns-in-None-clause-ok
returns-in-None-clause-ok c =
    ap (map class_word) c.new.ensures.items ∙ sym (no_texts (found_of c.args.matches.now) (codes "class") c.get_strs.result c.get_strs.ensures c.in-None.is)
