use Rattle.std.proofs.Common.{arith}
use Rattle.std.specs.Int.{w16, w32, w64}
use Rattle.store_fields.specs.declared.limits.TheConstants.{MAX_TEXT}
use Rattle.store_fields.proofs.Numbers.{wide16, wide32, wide64, number_unique, digest_unique}
use Rattle.store_fields.proofs.LongNumbers.{long_unique}
use Rattle.store_fields.proofs.Texts.{byte_unique, flag_unique, text_unique, blob_unique}
use Rattle.store_fields.proofs.laws.bytes_are_of_one_value.Goals as goal

pub returns : goal.returns
returns c = record {
  byte = byte_unique;
  flag = flag_unique;
  number_16 = number_unique w16 wide16;
  number_32 = number_unique w32 wide32;
  number_64 = number_unique w64 wide64;
  number_128 = long_unique;
  digest = digest_unique;
  text = text_unique MAX_TEXT (omega arith);
  blob = blob_unique;
}
