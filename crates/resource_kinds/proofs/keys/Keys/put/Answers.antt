use Rattle.std.proofs.Common.{refl}
use Rattle.dsc_document.proofs.FoldKeys.{kept_at-put_same, kept_at-put_other}
use Rattle.resource_kinds.specs.Keys.{kept_place}
use Rattle.resource_kinds.proofs.keys.Keys.put.Goals as goal

pub returns-clause-had : goal.returns-clause-had
unfolding kept_place
returns-clause-had c = c.in_ok-insert.ensures.old

pub returns-clause-put : goal.returns-clause-put
unfolding kept_place
returns-clause-put c = record {
  here = kept_at-put_same c.args.self.now.by_key c.insert.new.self c.args.key c.args.place c.in_ok-insert.ensures.updates c.args.key.items refl;
  kept = λ other differs. kept_at-put_other c.args.self.now.by_key c.insert.new.self c.args.key c.args.place c.in_ok-insert.ensures.updates other differs;
}
