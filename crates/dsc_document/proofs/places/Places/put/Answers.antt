use Rattle.std.proofs.Common.{ap, sym, ◌∙◌}
use Rattle.dsc_document.specs.Places.{place_of}
use Rattle.dsc_document.proofs.FoldKeys.{kept_at, kept_at-put_same, kept_at-put_other}
use Rattle.dsc_document.proofs.places.Places.put.Goals as goal

pub returns-clause-had : goal.returns-clause-had
unfolding place_of
returns-clause-had c = c.in_ok-insert.ensures.old ∙ ap (kept_at c.args.self.now.by_fold) c.in_ok-folded.ensures

pub returns-clause-put : goal.returns-clause-put
unfolding place_of
returns-clause-put c = record {
  here = λ other same. kept_at-put_same c.args.self.now.by_fold c.insert.new.self c.in_ok-folded.field-0 c.args.place c.in_ok-insert.ensures.updates _ (c.in_ok-folded.ensures ∙ same);
  kept = λ other differs. kept_at-put_other c.args.self.now.by_fold c.insert.new.self c.in_ok-folded.field-0 c.args.place c.in_ok-insert.ensures.updates _ (λ same. differs (sym c.in_ok-folded.ensures ∙ same));
}
