-- Bodies of either format.
use Rattle.std.proofs.Common.{inl, inr, ℕ, List, Option, Some, None, Result, Ok, Err}
use Rattle.dsc_outside.specs.declared.disk.Disk.{Ghosts}
use Rattle.dsc_outside.specs.declared.failed.Failed.{Failed}
use Rattle.gate_log.specs.Kept.{IsKeptBy, WroteBy}
use Rattle.gate_log.specs.Log.{LogTerm}
use Rattle.node_state.specs.declared.node.Node.{Node}
use Rattle.node_store.specs.Digests.{Blobs}
use Rattle.node_store.specs.Stands.{LeadTo, Leads, LeadsIn, node_shape}

pub leads_in : (blobs : Option Blobs) (bodies : List (List ℕ)) (node : Node) → LeadsIn blobs bodies node → Leads bodies node
leads_in (Some blobs) bodies node leads = inr (blobs, leads)
leads_in None bodies node leads = inl leads

-- a node, and the Blobs of its bodies
abbrev pub kept_as : Node → Option Blobs → Node × Option Blobs
kept_as node blobs = (node, blobs)

module _ {D : Type 0} (d : Ghosts D) (disk : D) (log : LogTerm) (node : Node) (blobs : Option Blobs) where
  pub kept_leads : IsKeptBy d disk node_shape (LeadsIn blobs) log node → IsKeptBy d disk node_shape Leads log node
  kept_leads kept = record { bodies = kept.bodies; of = kept.of; leads = leads_in blobs kept.bodies node kept.leads; shape = kept.shape; unspent = kept.unspent }

  pub kept_to : IsKeptBy d disk node_shape (LeadsIn blobs) log node → IsKeptBy d disk node_shape LeadTo log (kept_as node blobs)
  kept_to kept = record { bodies = kept.bodies; of = kept.of; leads = kept.leads; shape = kept.shape; unspent = kept.unspent }

  pub kept_from : IsKeptBy d disk node_shape LeadTo log (kept_as node blobs) → IsKeptBy d disk node_shape (LeadsIn blobs) log node
  kept_from kept = record { bodies = kept.bodies; of = kept.of; leads = kept.leads; shape = kept.shape; unspent = kept.unspent }

-- an answer of a write
pub wrote_in : {T D : Type 0} (d : Ghosts D) (before now : D) (log : LogTerm) (node : Node) (blobs : Option Blobs) (result : Result T Failed) → WroteBy d before now node_shape LeadTo (kept_as node blobs) log result
    → WroteBy d before now node_shape (LeadsIn blobs) node log result
wrote_in d before now log node blobs (Ok v) wrote = kept_from d now log node blobs wrote
wrote_in d before now log node blobs (Err e) wrote = wrote
