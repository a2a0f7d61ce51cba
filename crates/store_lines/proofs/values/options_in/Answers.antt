use Rattle.std.proofs.Common.{◌∙◌, ap, map}
use Rattle.std.specs.Prelude.{encode_utf8_all}
use Rattle.std.proofs.lemmas.Result.{IfOk-at_ok}
use Rattle.store_lines.specs.Told.{class_word}
use Rattle.store_lines.proofs.values.options_in.Goals as goal

pub returns-clause-ok : goal.returns-clause-ok
returns-clause-ok c = record {
  stores = ap (map encode_utf8_all) c.of.ensures ∙ IfOk-at_ok _ c.in_ok-stores.was c.texts_in.ensures;
  classes = ap (map class_word) c.of-2.ensures ∙ IfOk-at_ok _ c.in_ok-classes.was c.classes_in.ensures.ok;
  older = IfOk-at_ok _ c.in_ok-older.was c.number_in.ensures.ok;
  reports = c.flag_in.ensures;
  table = c.flag_in-2.ensures;
  prometheus = c.flag_in-3.ensures;
  choice = IfOk-at_ok _ c.in_ok-choice.was c.choice_in.ensures.ok;
}
