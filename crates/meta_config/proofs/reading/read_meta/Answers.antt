use Rattle.std.proofs.Common.{sym, subst}
use Rattle.mof_syntax.specs.Refusals.{Reads}
use Rattle.meta_config.proofs.OneMeaning.{said, says_nothing}
use Rattle.meta_config.proofs.reading.read_meta.Goals as goal

pub returns-in-Err : goal.returns-in-Err
returns-in-Err c =
    let s = says_nothing c.args.bytes.now c.in-Err.fault c.refusal_of_text.result c.refusal_of_text.ensures c.in-Err.ensures.refused c.in-Err.ensures.only in
    record { ok = tt; is_meta = tt; refused = s.0; only = s.1 }

pub returns-clause-ok : goal.returns-clause-ok
returns-clause-ok c =
    (said c.args.bytes.now c.deref.result.now c.meta_from.result (subst (Reads c.args.bytes.now) (sym c.deref.ensures.value) c.in-Ok.ensures.ok) c.meta_from.ensures.answered c.meta_from.ensures.made).ok

pub returns-clause-is_meta : goal.returns-clause-is_meta
returns-clause-is_meta c =
    (said c.args.bytes.now c.deref.result.now c.meta_from.result (subst (Reads c.args.bytes.now) (sym c.deref.ensures.value) c.in-Ok.ensures.ok) c.meta_from.ensures.answered c.meta_from.ensures.made).is_meta

pub returns-clause-refused : goal.returns-clause-refused
returns-clause-refused c =
    (said c.args.bytes.now c.deref.result.now c.meta_from.result (subst (Reads c.args.bytes.now) (sym c.deref.ensures.value) c.in-Ok.ensures.ok) c.meta_from.ensures.answered c.meta_from.ensures.made).refused

pub returns-clause-only : goal.returns-clause-only
returns-clause-only c =
    (said c.args.bytes.now c.deref.result.now c.meta_from.result (subst (Reads c.args.bytes.now) (sym c.deref.ensures.value) c.in-Ok.ensures.ok) c.meta_from.ensures.answered c.meta_from.ensures.made).only
