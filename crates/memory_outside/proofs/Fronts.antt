-- What is copied from a place on.
use Rattle.std.proofs.Common.{◌≡◌, ◌++◌, ◌+◌, ◌-◌, ◌<◌, min, [], drop, take, length, List, ℕ, sym, arith}
use Rattle.std.proofs.lemmas.List.{drop-drop, take-append-drop, take_all, drop_all, length-drop}

-- the bytes from a place on, as the code takes them
pub tail_is : (at : ℕ) (bytes : List ℕ) → take (length bytes - at) (drop at bytes) ≡ drop at bytes
tail_is at bytes = take_all (length bytes - at) (drop at bytes) (rw length-drop (omega arith))

pub left_is : (at n : ℕ) (bytes into : List ℕ) → take n into ≡ take n (take (length bytes - at) (drop at bytes))
    → drop at bytes ≡ take n into ++ drop (at + n) bytes
left_is at n bytes into copied = rw (copied, tail_is at bytes, ← drop-drop n at bytes) (sym (take-append-drop n (drop at bytes)))

-- where nothing was copied and the buffer was not empty, nothing is left
pub none_is_left : (at n room : ℕ) (bytes : List ℕ) → n ≡ min (length (take (length bytes - at) (drop at bytes))) room → n ≡ 0 → 0 < room
    → drop (at + n) bytes ≡ []
none_is_left at n room bytes most none some = drop_all (at + n) bytes (let copied = simp (tail_is, length-drop) at most in omega arith)
