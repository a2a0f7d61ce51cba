use Rattle.std.proofs.Common.{◌∙◌, ap, map, sym, subst}
use Rattle.std.proofs.lemmas.Result.{IfOk-at_ok}
use Rattle.store_lines.specs.Words.{AreIds}
use Rattle.store_lines.proofs.values.choice_in.Goals as goal

pub returns-clause-ok : goal.returns-clause-ok
returns-clause-ok c = record {
  agents = subst (AreIds _) (sym c.of.ensures) (IfOk-at_ok _ c.in_ok-agents.was c.ids_in.ensures.ok);
  silent = IfOk-at_ok _ c.in_ok-silent_days.was c.number_in.ensures.ok;
  never = c.flag_in.ensures;
}
