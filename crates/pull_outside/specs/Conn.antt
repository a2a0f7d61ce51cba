-- A connection in memory.
use Rattle.std.specs.Prelude.{◌≡◌, ℕ, Bool, true, false, List, [], ◌++◌, length, min, take, Result, Ok, Err, MatchBool}
use Rattle.pull_outside.specs.Calls.{CallCount, counted, is_to_fail, uncalled, with_fault}

pub record ConnInMemory : Type 0 where
  -- the bytes that are left to read
  pub left : List ℕ
  -- the bytes that were written
  pub held : List ℕ
  -- how many bytes a call reads or writes at most
  pub most : ℕ
  -- a call failed because it ran out of memory
  pub short : Bool
  pub calls : CallCount

-- a connection before its first call
abbrev pub new_conn : List ℕ → ℕ → List ℕ → ConnInMemory
new_conn bytes most failing = record { left = bytes; held = []; most = most; short = false; calls = uncalled failing }

-- a write keeps the front of the piece; it fails where it is to fail, or where it runs out of memory, which `short` then shows
abbrev pub ConnWrites : {E : Type 0} → ConnInMemory → List ℕ → Result ℕ E → ConnInMemory → Type 0
ConnWrites old piece (Ok n) new = (is_to_fail old.calls ≡ false) × (n ≡ min (length piece) old.most) × (new ≡ record old { held = old.held ++ take n piece; calls = counted old.calls })
ConnWrites old piece (Err e) new = MatchBool (is_to_fail old.calls)
    (new ≡ record old { calls = counted old.calls })
    (new ≡ record old { short = true; calls = with_fault (counted old.calls) })
