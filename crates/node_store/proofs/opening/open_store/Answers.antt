use Rattle.std.proofs.Common.{◌≡◌, ◌∙◌, ℕ, Bool, true, Option, sym, subst}
use Rattle.gate_log.specs.declared.error.LogError.{LogError}
use Rattle.gate_log.specs.Kept.{IsKeptBy, UnopenedBy}
use Rattle.gate_log.specs.Standing.{ReadsAs}
use Rattle.node_state.specs.declared.node.Node.{Node}
use Rattle.node_store.specs.Stands.{Leads, LeadsIn, Stands, node_shape}
use Rattle.node_store.specs.Store.{IsKept, IsNoStore, StoreTerm}
use Rattle.node_store.specs.Bank.{BankTerm, blobs_as, blobs_of_bank}
use Rattle.node_store.specs.Growing.{AllAmong}
use Rattle.node_store.specs.Known.{AreKnown}
use Rattle.node_store.specs.Taking.{is_by_digests}
use Rattle.node_state.specs.Sound.{Sound}
use Rattle.node_store.specs.Digests.{Blobs, texts_of_node}
use Rattle.node_store.proofs.AmongBlobs.{leads_among}
use Rattle.node_store.proofs.Opened.{opened_found, opened_kept, opened_sound, unopened}
use Rattle.node_store.proofs.TextsHeld.{same_blobs}
use Rattle.node_store.proofs.opening.open_store.Goals as goal

pub all_of-requires-clause-sound : goal.all_of-requires-clause-sound
all_of-requires-clause-sound g c =
    let r = c.replay_log.new.replay in
    subst (λ (n : Node). Sound n) (sym c.into_node-node.ensures.node) (opened_sound g.D.Disk c.args.disk.now c.replay_log.new.disk r.format r.blobs r.taking.node r.taking.begun (AreKnown r.blobs r.known.items) c.in-Ok.log c.in-Ok.ensures.ok)

pub all_of-requires-clause-there : goal.all_of-requires-clause-there
all_of-requires-clause-there g c = λ second.
    let r = c.replay_log.new.replay in
    let kept = opened_kept g.D.Disk c.args.disk.now c.replay_log.new.disk r.format r.blobs r.taking.node r.taking.begun (AreKnown r.blobs r.known.items) c.in-Ok.log c.in-Ok.ensures.ok in
    let is : is_by_digests r.format ≡ true = sym c.into_node-node.ensures.format ∙ second in
    let leads = subst (λ (b : Bool). LeadsIn (blobs_as b r.blobs) kept.bodies r.taking.node) is kept.leads in
    subst (λ (b : Blobs). AllAmong b (texts_of_node c.into_node-node.result.0)) (sym c.into_node-node.ensures.blobs)
    (subst (λ (n : Node). AllAmong r.blobs (texts_of_node n)) (sym c.into_node-node.ensures.node) (leads_among r.blobs kept.bodies r.taking.node leads))

pub returns-in-Ok-clause-kept : goal.returns-in-Ok-clause-kept
returns-in-Ok-clause-kept g c =
    let r = c.replay_log.new.replay in
    let now = c.replay_log.new.disk in
    let kept = opened_kept g.D.Disk c.args.disk.now now r.format r.blobs r.taking.node r.taking.begun (AreKnown r.blobs r.known.items) c.in-Ok.log c.in-Ok.ensures.ok in
    let format = c.into_node-node.ensures.format in
    let texts = c.in_ok-texts-in-Ok.texts in
    let held : blobs_as (is_by_digests r.format) r.blobs ≡ blobs_as c.into_node-node.result.2 texts =
    (λ i. blobs_as (sym format i) (sym c.into_node-node.ensures.blobs i)) ∙ same_blobs c.into_node-node.result.2 texts c.into_node-node.result.1 c.in_ok-texts-in-Ok.ensures.1 in
    let bank = c.in_ok-bank-in-Ok.ensures in
    subst (λ (s : StoreTerm). IsKept g.D.Disk now s) (sym c.in_ok-of-in-Ok.ensures)
    (subst (λ (b : BankTerm). IsKeptBy g.D.Disk now node_shape (LeadsIn (blobs_of_bank b)) b.log c.into_node-node.result.0) (sym bank)
    (subst (λ (b : Option Blobs). IsKeptBy g.D.Disk now node_shape (LeadsIn b) c.in-Ok.log c.into_node-node.result.0) held
    (subst (λ (n : Node). IsKeptBy g.D.Disk now node_shape (LeadsIn (blobs_as (is_by_digests r.format) r.blobs)) c.in-Ok.log n) (sym c.into_node-node.ensures.node) kept)))

pub returns-in-Ok-clause-found : goal.returns-in-Ok-clause-found
returns-in-Ok-clause-found g c =
    let r = c.replay_log.new.replay in
    let found = opened_found g.D.Disk c.args.disk.now c.replay_log.new.disk r.format r.blobs r.taking.node r.taking.begun (AreKnown r.blobs r.known.items) c.in-Ok.log c.in-Ok.ensures.ok in
    subst (λ (s : StoreTerm). ReadsAs g.D.Disk c.args.disk.now Stands s.node) (sym c.in_ok-of-in-Ok.ensures)
    (subst (λ (n : Node). ReadsAs g.D.Disk c.args.disk.now Stands n) (sym c.into_node-node.ensures.node) found)

pub returns-in-Err-NotAStore-clause-cause : goal.returns-in-Err-NotAStore-clause-cause
returns-in-Err-NotAStore-clause-cause g c =
    let r = c.replay_log.new.replay in
    subst (λ (at : ℕ). IsNoStore g.D.Disk c.args.disk.now c.replay_log.new.disk at) (sym c.in-Err-NotAStore.at-is)
    (subst (λ (e : LogError). UnopenedBy g.D.Disk c.args.disk.now c.replay_log.new.disk node_shape Leads e) c.in-Err-NotAStore.field-0-is
    (unopened g.D.Disk c.args.disk.now c.replay_log.new.disk r.format r.blobs r.taking.node r.taking.begun (AreKnown r.blobs r.known.items) _ c.in-Err-NotAStore.ensures.refused))
