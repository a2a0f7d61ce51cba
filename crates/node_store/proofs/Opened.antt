-- What an opening of a store gives.
use Rattle.std.proofs.Common.{Bool, List, ℕ, Option}
use Rattle.dsc_outside.specs.declared.disk.Disk.{Ghosts}
use Rattle.dsc_outside.specs.Disk.{From}
use Rattle.dsc_outside.proofs.Moments.{weaker}
use Rattle.gate_log.specs.declared.error.LogError.{LogError}
use Rattle.gate_log.specs.Kept.{IsKeptBy, KeepsValues, UnopenedBy}
use Rattle.gate_log.specs.Log.{AtAnyMoment, Keeps, LogTerm}
use Rattle.gate_log.specs.Replay.{Opened, Unopened}
use Rattle.gate_log.specs.Standing.{AllStand, Any, ReadsAs, StandsAtAnyMoment, StandsFor, StoodFor}
use Rattle.gate_log.proofs.Leading.{keeps_by, opened_by, unopened_by}
use Rattle.node_state.specs.declared.node.Node.{Node}
use Rattle.node_state.specs.Sound.{Sound}
use Rattle.node_store.specs.declared.format.Format.{Format}
use Rattle.node_store.specs.Digests.{Blobs}
use Rattle.node_store.specs.Stands.{EndsAt, Leads, LeadsIn, Stands, node_shape}
use Rattle.node_store.specs.Bank.{blobs_as}
use Rattle.node_store.specs.Taking.{ReachedIn, is_by_digests}
use Rattle.node_store.proofs.Formats.{leads_in}
use Rattle.node_store.proofs.Ranges.{leads_sound}
use Rattle.node_store.proofs.TakenSo.{taken_leads}

-- what an image stood for it still stands for
stood_for : {D : Type 0} (d : Ghosts D) (old new : D) → AtAnyMoment d old new (From (KeepsValues Stands) (d.images old)) → AllStand d old Stands Any
    → StandsAtAnyMoment d old new Stands (StoodFor d old Stands)
stood_for d old new moments all = weaker d.moment d.left_since old new (From (KeepsValues Stands) (d.images old)) (StandsFor Stands (StoodFor d old Stands)) moments stood where
  stood : (c : List ℕ) → From (KeepsValues Stands) (d.images old) c → StandsFor Stands (StoodFor d old Stands) c
  stood c from =
      let before = all from.0 from.1 in
      record { value = before.value; stands = from.2 before.value before.stands; has = record { image = from.0; there = from.1; stands = before.stands } }

pub keeps_standing : {D : Type 0} (d : Ghosts D) (old new : D) → AtAnyMoment d old new (From (Keeps node_shape) (d.images old)) → AllStand d old Stands Any
    → StandsAtAnyMoment d old new Stands (StoodFor d old Stands)
keeps_standing d old new moments all = stood_for d old new (keeps_by node_shape Leads d old new moments) all

-- the bodies that were taken
module _ {D : Type 0} (d : Ghosts D) (old new : D) (format : Option Format) (blobs : Blobs) (node : Node) (begun : Bool) (K : Type 0) where
  leads : (bodies : List (List ℕ)) → ReachedIn format blobs node begun bodies × K → Leads bodies node
  leads bodies reached = leads_in (blobs_as (is_by_digests format) blobs) bodies node (taken_leads format blobs node begun bodies reached.0)

  pub opened_kept : (log : LogTerm) → Opened d old new node_shape (λ bodies. ReachedIn format blobs node begun bodies × K) log → IsKeptBy d new node_shape (LeadsIn (blobs_as (is_by_digests format) blobs)) log node
  opened_kept log opened =
      (opened_by node_shape (LeadsIn (blobs_as (is_by_digests format) blobs)) d old new (λ bodies. ReachedIn format blobs node begun bodies × K) (λ bodies body. EndsAt bodies body) node
      (λ bodies reached. taken_leads format blobs node begun bodies reached.0) log opened).kept

  pub opened_sound : (log : LogTerm) → Opened d old new node_shape (λ bodies. ReachedIn format blobs node begun bodies × K) log → Sound node
  opened_sound log opened =
      let kept = opened_kept log opened in
      leads_sound kept.bodies node (leads_in (blobs_as (is_by_digests format) blobs) kept.bodies node kept.leads)

  pub opened_found : (log : LogTerm) → Opened d old new node_shape (λ bodies. ReachedIn format blobs node begun bodies × K) log → ReadsAs d old Stands node
  opened_found log opened = (opened_by node_shape Leads d old new (λ bodies. ReachedIn format blobs node begun bodies × K) (λ bodies body. EndsAt bodies body) node leads log opened).found

  pub unopened : (e : LogError) → Unopened d old new node_shape (λ bodies. ReachedIn format blobs node begun bodies × K) (λ bodies body. EndsAt bodies body) e → UnopenedBy d old new node_shape Leads e
  unopened e answer = unopened_by node_shape Leads d old new (λ bodies. ReachedIn format blobs node begun bodies × K) (λ bodies body. EndsAt bodies body) node leads (λ bodies body refused. refused) e answer
