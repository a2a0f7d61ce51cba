use Rattle.store_fields.proofs.LongNumbers.{long_missing, long_missing_low, long_read}
use Rattle.store_fields.proofs.reading.u128_at.Goals as goal

pub returns-in_default : goal.returns-in_default
returns-in_default c = long_missing _ _ _ c.in_default.ensures

pub returns-in_default-u64_at : goal.returns-in_default-u64_at
returns-in_default-u64_at c = long_missing_low _ _ _ _ _ c.in-Some.ensures c.in_default-u64_at.ensures

pub returns : goal.returns
returns c = rw (c.from.ensures, c.from-2.ensures) (long_read _ _ _ _ _ c.in-Some.ensures c.in-Some-u64_at.ensures)
