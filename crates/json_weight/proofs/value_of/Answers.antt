use Rattle.std.proofs.Common.{Result, Ok, Err, IfOk}
use Rattle.serde_json.specs.View.{view}
use Rattle.json_weight.proofs.Reading.{weight-read}
use Rattle.json_weight.proofs.Texts.{view_texts}
use Rattle.json_weight.proofs.value_of.Goals as goal

if_ok : {T E : Type 0} (P Q : T → Type 0) (r : Result T E) → ((x : T) → P x → Q x) → IfOk r P → IfOk r Q
if_ok P Q (Ok x) f h = f x h
if_ok P Q (Err e) f h = tt

pub returns-clause-texts : goal.returns-clause-texts
returns-clause-texts c = if_ok _ _ c.from_slice.result (λ v h. view_texts v) c.from_slice.ensures.ok

pub returns-clause-weighed : goal.returns-clause-weighed
returns-clause-weighed c = if_ok _ _ c.from_slice.result (λ v h. weight-read c.args.text.now (view v) h.1) c.from_slice.ensures.ok
