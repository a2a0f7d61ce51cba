-- A disk that no call was made of.
use Rattle.std.proofs.Common.{inl, List, ℕ}
use Rattle.dsc_outside.specs.declared.disk.Disk.{Ghosts}
use Rattle.dsc_outside.proofs.Moments.{started}
use Rattle.gate_log.specs.Standing.{StandsAtAnyMoment, StandsFor}
use Rattle.gate_log.proofs.Leading.{kept_stands}
use Rattle.node_state.specs.declared.event.Event.{Event}
use Rattle.node_store.specs.Stands.{BeforeOrAfter, Leads, Stands, node_shape}
use Rattle.node_store.proofs.Formats.{kept_leads}
use Rattle.node_store.specs.Store.{IsKept, StoreTerm}

pub before : {D : Type 0} (d : Ghosts D) (only_now : (disk : D) (c : List ℕ) → d.left_since disk (d.moment disk) c → d.images disk c) (disk : D) (store : StoreTerm) → IsKept d disk store
    → (event : Event) → StandsAtAnyMoment d disk disk Stands (BeforeOrAfter store.node event)
before d only_now disk store kept event = started d.moment d.left_since disk (StandsFor Stands (BeforeOrAfter store.node event)) (λ c left.
    let s = kept_stands node_shape Leads d disk store.log store.node (kept_leads d disk store.log store.node store.blobs kept) c (only_now disk c left) in
    record { value = s.value; stands = s.stands; has = inl s.has })
