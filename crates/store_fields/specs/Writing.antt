-- What a writer leaves in the buffer.
use Rattle.std.specs.Prelude.{◌≡◌, ◌≤◌, ◌+◌, List, ℕ, ◌++◌, length, Result, OnOk, IsOk, vec_len, vec_capacity}
use Rattle.std.specs.Global.{Vec}

-- The bytes were appended, unless it ran out of memory, and what was there still stands in front. Where the capacity suffices,
-- memory is not refused.
pub record Writes {E : Type 0} (bytes : List ℕ) (before after : Vec ℕ) (result : Result Unit E) : Type 0 where
  pub items : OnOk result (after.items ≡ before.items ++ bytes)
  pub front : (more : List ℕ) × (after.items ≡ before.items ++ more)
  pub len : OnOk result (vec_len after ≡ vec_len before + length bytes)
  pub capacity : vec_capacity before ≤ vec_capacity after
  pub succeeds : vec_len before + length bytes ≤ vec_capacity before → IsOk result
