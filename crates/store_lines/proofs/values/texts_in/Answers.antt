use Rattle.std.proofs.Common.{◌∙◌, sym, ap, map}
use Rattle.std.specs.Prelude.{encode_utf8_all}
use Rattle.std.proofs.lemmas.Result.{IfOk-weaker}
use Rattle.clap.specs.Words.{found_of}
use Rattle.store_lines.proofs.Given.{given_texts, no_texts}
use Rattle.store_lines.proofs.values.texts_in.Goals as goal

pub returns-in-Some : goal.returns-in-Some
returns-in-Some c =
    let is = given_texts (found_of c.args.matches.now) c.args.name.now c.get_strs.result c.in-Some.values c.get_strs.ensures c.in-Some.is in
    IfOk-weaker c.texts_from.result _ _ (λ texts same. same ∙ sym is) c.texts_from.ensures

pub returns-in-None : goal.returns-in-None
returns-in-None c =
    ap (map encode_utf8_all) c.new.ensures.items ∙ sym (no_texts (found_of c.args.matches.now) c.args.name.now c.get_strs.result c.get_strs.ensures c.in-None.is)
