-- The bodies of a store are taken one after the other.
use Rattle.std.specs.Prelude.{◌≡◌, ◌≢◌, ◌⊎◌, ℕ, Bool, true, false, List, [], ◌∷◌, Option, Some, None, Result, Ok, Err, ⊤}
use Rattle.sha2.specs.Sha256.{sha256}
use Rattle.gate_log.specs.declared.replay.TakeError.{TakeError}
use Rattle.gate_log.specs.declared.replay.TakeError.TheVariants.{Refused, Memory}
use Rattle.node_state.specs.declared.node.Node.{Node}
use Rattle.node_state.specs.declared.event.Event.{Event}
use Rattle.node_state.specs.Table.{Step, new_node}
use Rattle.node_state.specs.Pieces.{fits, placed}
use Rattle.node_store.specs.declared.body.Body.{Body}
use Rattle.node_store.specs.declared.body.Body.TheVariants as bodies
use Rattle.node_store.specs.Bodies.{IsBody}
use Rattle.node_store.specs.Digests.{AddsBlob, Blobs, IsAmong, Says, Unfolds, format_body, nothing_told}
use Rattle.node_store.specs.Stands.{LeadsInFull}
use Rattle.node_store.specs.declared.format.Format.{Format}
use Rattle.node_store.specs.declared.format.Format.TheVariants.{InFull, ByDigests}

abbrev pub has_events : List Event → Bool
has_events [] = false
has_events (event ∷ events) = true

-- the bodies in full lead to the node, and there are events among them exactly where it is begun
pub record Reached (node : Node) (begun : Bool) (bodies : List (List ℕ)) : Type 0 where
  pub leads : LeadsInFull bodies node
  pub is_begun : begun ≡ has_events leads.events

-- what an event or piece makes of the node: an event is a step, and a piece is placed where no event came before
abbrev pub Goes : Node → Bool → Body → Node → Bool → Type 0
Goes old begun (bodies.Event event) new after = Step old event new × (after ≡ true)
Goes old begun (bodies.Piece piece) new after = (begun ≡ false) × (fits old piece ≡ true) × (new ≡ placed old piece) × (after ≡ false)

-- the event or piece of this body makes of the node another one
pub record Moves (old : Node) (begun : Bool) (body : List ℕ) (new : Node) (after : Bool) : Type 0 where
  pub of : Body
  pub is : IsBody body of
  pub goes : Goes old begun of new after

-- it makes none
abbrev pub Stays : Node → Bool → List ℕ → Type 0
Stays old begun body = (new : Node) (after : Bool) → Moves old begun body new after → ⊥

-- what taking an event or piece answers, which is within what a node may have
abbrev pub Took : {T : Type 0} → Node → Bool → Body → Node → Bool → Result T TakeError → Type 0
Took old begun of new after (Ok v) = Goes old begun of new after
Took old begun of new after (Err Refused) = (next : Node) (flag : Bool) → Goes old begun of next flag → ⊥
Took old begun of new after (Err Memory) = ⊤

-- what taking a body answers
abbrev pub TookBody : {T : Type 0} → Node → Bool → List ℕ → Node → Bool → Result T TakeError → Type 0
TookBody old begun body new after (Ok v) = Moves old begun body new after
TookBody old begun body new after (Err Refused) = Stays old begun body
TookBody old begun body new after (Err Memory) = ⊤

-- ---- both formats

-- no two of the Blobs have one digest
abbrev pub Apart : Blobs → Type 0
Apart blobs = (one other : List ℕ) → IsAmong blobs one → IsAmong blobs other → sha256 one ≡ sha256 other → one ≡ other

-- nothing was taken
pub record IsFresh (blobs : Blobs) (node : Node) (begun : Bool) (bodies : List (List ℕ)) : Type 0 where
  pub none : bodies ≡ []
  pub fresh : node ≡ new_node
  pub waits : begun ≡ false
  pub empty : blobs ≡ []

-- some bodies of format 1 were
pub record ReachedInFull (node : Node) (begun : Bool) (bodies : List (List ℕ)) : Type 0 where
  pub first : List ℕ
  pub rest : List (List ℕ)
  pub some : bodies ≡ first ∷ rest
  pub reached : Reached node begun bodies

-- a Format was, and bodies of format 2
pub record ReachedByDigests (blobs : Blobs) (node : Node) (begun : Bool) (bodies : List (List ℕ)) : Type 0 where
  pub rest : List (List ℕ)
  pub said : List (List ℕ)
  pub is : bodies ≡ format_body ∷ rest
  pub unfolds : Unfolds nothing_told rest (record { blobs = blobs; said = said })
  pub reached : Reached node begun said

abbrev pub ReachedIn : Option Format → Blobs → Node → Bool → List (List ℕ) → Type 0
ReachedIn None blobs node begun bodies = IsFresh blobs node begun bodies
ReachedIn (Some InFull) blobs node begun bodies = ReachedInFull node begun bodies
ReachedIn (Some ByDigests) blobs node begun bodies = ReachedByDigests blobs node begun bodies

abbrev pub is_by_digests : Option Format → Bool
is_by_digests None = false
is_by_digests (Some InFull) = false
is_by_digests (Some ByDigests) = true

-- a Blob is one more, and changes nothing of the node
pub record Gathers (blobs : Blobs) (old : Node) (begun : Bool) (body : List ℕ) (more : Blobs) (new : Node) (after : Bool) : Type 0 where
  pub blob : AddsBlob blobs body more
  pub node : new ≡ old
  pub flag : after ≡ begun

-- what the body says in full makes of the node another one
pub record Proceeds (blobs : Blobs) (old : Node) (begun : Bool) (body : List ℕ) (more : Blobs) (new : Node) (after : Bool) : Type 0 where
  pub full : List ℕ
  pub says : Says blobs body full
  pub moves : Moves old begun full new after
  pub same : more ≡ blobs

-- what a body of format 2 does
abbrev pub Advances : Blobs → Node → Bool → List ℕ → Blobs → Node → Bool → Type 0
Advances blobs old begun body more new after = Gathers blobs old begun body more new after ⊎ Proceeds blobs old begun body more new after

-- what taking a body of format 2 answers
abbrev pub TookMarked : {T : Type 0} → Blobs → Node → Bool → List ℕ → Blobs → Node → Bool → Result T TakeError → Type 0
TookMarked blobs old begun body more new after (Ok v) = Advances blobs old begun body more new after
TookMarked blobs old begun body more new after (Err Refused) = (gathered : Blobs) (next : Node) (flag : Bool) → Advances blobs old begun body gathered next flag → ⊥
TookMarked blobs old begun body more new after (Err Memory) = ⊤

-- what taking a Blob answers
abbrev pub TookBlob : {T : Type 0} → Blobs → List ℕ → Blobs → Result T TakeError → Type 0
TookBlob blobs body more (Ok v) = AddsBlob blobs body more
TookBlob blobs body more (Err Refused) = (gathered : Blobs) → AddsBlob blobs body gathered → ⊥
TookBlob blobs body more (Err Memory) = ⊤

-- the first body is a Format
pub record BeginsByDigests (old : Node) (begun : Bool) (blobs : Blobs) (body : List ℕ) (format : Option Format) (new : Node) (after : Bool) (more : Blobs) : Type 0 where
  pub is : body ≡ format_body
  pub second : format ≡ Some ByDigests
  pub node : new ≡ old
  pub flag : after ≡ begun
  pub same : more ≡ blobs

-- it is another, of format 1
pub record BeginsInFull (old : Node) (begun : Bool) (body : List ℕ) (format : Option Format) (new : Node) (after : Bool) : Type 0 where
  pub first : format ≡ Some InFull
  pub moves : Moves old begun body new after

-- what taking the first body answers
abbrev pub TookFirst : {T : Type 0} → Node → Bool → Blobs → List ℕ → Option Format → Node → Bool → Blobs → Result T TakeError → Type 0
TookFirst old begun blobs body format new after more (Ok v) = BeginsByDigests old begun blobs body format new after more ⊎ BeginsInFull old begun body format new after
TookFirst old begun blobs body format new after more (Err Refused) = (body ≢ format_body) × Stays old begun body
TookFirst old begun blobs body format new after more (Err Memory) = ⊤
