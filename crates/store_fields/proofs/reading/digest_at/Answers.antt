use Rattle.std.proofs.Common.{arith}
use Rattle.store_fields.proofs.Numbers.{digest_read, digest_missing}
use Rattle.store_fields.proofs.reading.digest_at.Goals as goal

pub returns-in_default : goal.returns-in_default
returns-in_default c = digest_missing _ _ c.in_default.ensures.cases

pub returns : goal.returns
returns c =
    let cases = c.in-Some.ensures.cases in
    digest_read _ _ _ (omega arith) cases.0 cases.1
