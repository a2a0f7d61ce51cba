-- The bank of a store, and what is added to it.
use Rattle.std.specs.Prelude.{◌≡◌, ◌⊎◌, ℕ, Bool, true, false, ◌++◌, length, Option, Some, None}
use Rattle.dsc_outside.specs.declared.disk.Disk.{Ghosts}
use Rattle.gate_log.specs.Log.{LogTerm}
use Rattle.gate_log.specs.Kept.{IsKeptBy}
use Rattle.node_state.specs.declared.event.Event.{Event}
use Rattle.node_state.specs.declared.node.Node.{Node}
use Rattle.node_store.specs.Digests.{Blobs, HaveOneDigest, texts_of_node}
use Rattle.node_store.specs.Growing.{AllAmong, AreColliding, HasLacking, is_stage, texts_of_event}
use Rattle.node_store.specs.Stands.{LeadsIn, node_shape}

-- what contracts see of a bank
pub record BankTerm : Type 0 where
  pub log : LogTerm
  -- the texts of the parts of the node, and of others: in format 2 the Blobs of the bank
  pub texts : Blobs
  pub by_digests : Bool

abbrev pub blobs_as : Bool → Blobs → Option Blobs
blobs_as true texts = Some texts
blobs_as false texts = None

-- the Blobs of the bank, where it is of format 2
abbrev pub blobs_of_bank : BankTerm → Option Blobs
blobs_of_bank bank = blobs_as bank.by_digests bank.texts

-- its bodies lead to the node
abbrev pub IsBankOf : {D : Type 0} → Ghosts D → D → BankTerm → Node → Type 0
IsBankOf d disk bank node = IsKeptBy d disk node_shape (LeadsIn (blobs_of_bank bank)) bank.log node

-- ---- the texts of an event are kept

-- in a bank of either format an event other than a Stage may be added, and in one of format 2 a Stage too, where its list does not collide:
-- the texts from this place on are the Blobs that the bank lacks
pub record MayAdd (old : BankTerm) (event : Event) (from : ℕ) (new : BankTerm) : Type 0 where
  pub format : (old.by_digests ≡ true) ⊎ (is_stage event ≡ false)
  pub many : from ≡ length old.texts
  pub has : HasLacking old.texts (texts_of_event event) new.texts

-- no bodies are added: the event is a Stage, and in format 2 its list collides with the bank
pub record MayNot (old : BankTerm) (event : Event) : Type 0 where
  pub stage : is_stage event ≡ true
  pub collides : old.by_digests ≡ true → AreColliding old.texts (texts_of_event event)

abbrev pub GrewAt : BankTerm → Event → Option ℕ → BankTerm → Type 0
GrewAt old event (Some from) new = MayAdd old event from new
GrewAt old event None new = MayNot old event

pub record Grew (old : BankTerm) (event : Event) (grown : Option ℕ) (new : BankTerm) : Type 0 where
  pub log : new.log ≡ old.log
  pub format : new.by_digests ≡ old.by_digests
  pub more : (added : Blobs) × (new.texts ≡ old.texts ++ added)
  pub there : AllAmong new.texts (texts_of_event event)
  pub at : GrewAt old event grown new

-- ---- after a commit

-- it is of format 2, or two texts of the node have one digest
abbrev pub HasFormat : BankTerm → Node → Type 0
HasFormat bank node = (bank.by_digests ≡ true) ⊎ HaveOneDigest (texts_of_node node)
