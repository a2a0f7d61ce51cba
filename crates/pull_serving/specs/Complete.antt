-- Completeness: a connection that nothing disturbs is answered.
use Rattle.std.specs.Prelude.{◌≡◌, ℕ, List, Option, Some, ⊤}
use Rattle.http_frames.specs.Frames.{AwaitsRest}
use Rattle.pull_outside.specs.Shelf.{Contents}
use Rattle.pull_serving.specs.declared.connection.ConnectionEnd.{ConnectionEnd}
use Rattle.pull_serving.specs.declared.connection.ConnectionEnd.TheVariants as ends
use Rattle.pull_serving.specs.Turn.{Answering, ConnectionRose, IsTurn, OutsideRose, Turn}

-- the connection shows its bytes, which do not end inside a request, and no count of faults rose while it was served
pub record IsUndisturbed (t : Turn) : Type 0 where
  pub bytes : List ℕ
  pub sent : t.came.left ≡ Some bytes
  pub whole : AwaitsRest bytes → ⊥
  pub outside : OutsideRose t → ⊥
  pub connection : ConnectionRose t → ⊥

-- it was answered, or memory ran out
abbrev pub EndsWell : ConnectionEnd → Type 0
EndsWell (ends.Answered code) = ⊤
EndsWell ends.DiskFault = ⊥
EndsWell (ends.Torn at) = ⊥
EndsWell ends.ReadFault = ⊥
EndsWell ends.WriteFault = ⊥
EndsWell ends.Memory = ⊤

-- of any service
abbrev pub UndisturbedAreAnswered : Answering → Type 0
UndisturbedAreAnswered how = (shelf : Option Contents) (t : Turn) → IsTurn how shelf t → IsUndisturbed t → EndsWell t.end
