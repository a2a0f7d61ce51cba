use Rattle.std.proofs.Common.{arith}
use Rattle.std.specs.Int.{w32}
use Rattle.store_fields.proofs.Numbers.{wide32, number_read, number_missing}
use Rattle.store_fields.proofs.reading.u32_at.Goals as goal

pub returns-in_default : goal.returns-in_default
returns-in_default c = number_missing w32 wide32 _ _ c.in_default.ensures.cases

pub returns : goal.returns
returns c =
    let cases = c.in-Some.ensures.cases in
    number_read w32 wide32 _ _ _ _ (λ i. omega (arith, c.type_inv.bytes i)) (omega arith) cases.0 cases.1 c.from_be_bytes.ensures
