use Rattle.std.proofs.Common.{◌≡◌, length, take, map, bit_xor}
use Rattle.shared_key.proofs.keyed_hash.masked.Given as goal

abbrev pub invariant-loop-i : goal.invariant-loop-i
invariant-loop-i l = record {
  masked_so_far : take l.i l.masked ≡ map (bit_xor l.mask) (take l.i l.block);
  same_length : length l.masked ≡ 64;
}
