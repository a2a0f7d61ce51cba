use Rattle.std.proofs.Common.{ℕ, List, arith, sym, subst}
use Rattle.partial_merge.specs.declared.part.Part.{Part}
use Rattle.node_state.specs.declared.event.Event.TheVariants as events
use Rattle.node_state.specs.Lists.{IsStaged}
use Rattle.node_state.specs.StagedParts.{parts_of}
use Rattle.node_store.specs.declared.body.Body.TheVariants as kinds
use Rattle.node_store.specs.Parts.{AreParts}
use Rattle.node_store.specs.Resolving.{AreAmong, AreNamedBy}
use Rattle.node_store.proofs.BankWritten.{on_ok}
use Rattle.node_store.proofs.KnownLists.{known_more}
use Rattle.node_store.proofs.Resolved.{no_stage_said, stage_said}
use Rattle.node_store.proofs.TakenSo.{body_refused, body_took}
use Rattle.node_store.proofs.replaying.Replaying.take_new_stage.Goals as goal

pub returns-in-Ok-keep-clause-took : goal.returns-in-Ok-keep-clause-took
returns-in-Ok-keep-clause-took c =
    let old = c.args.self.now.taking in
    let new = c.take_list.new.self in
    let blobs = c.args.self.now.blobs in
    let body = c.args.body.now in
    let named = subst (λ (l : List ℕ). AreNamedBy blobs l (parts_of c.in-Ok.staged)) c.after_kind.ensures c.in-Ok.ensures.named in
    body_took old.node old.begun blobs body (kinds.Event (events.Stage c.in-Ok.staged)) new.node new.begun c.take_list.result c.requires.apart (stage_said blobs body c.in-Ok.staged c.requires.kind named)
    (c.take_list.ensures c.in-Ok.staged (sym c.into_parts-parts.ensures.parts))

pub returns-in-Ok-keep-clause-known : goal.returns-in-Ok-keep-clause-known
returns-in-Ok-keep-clause-known c =
    let blobs = c.args.self.now.blobs in
    let named = c.in-Ok.ensures.named in
    let all = subst (λ (l : List Part). AreParts l × AreAmong blobs l) (sym c.into_parts-parts.ensures.parts) (named.ranges, named.among) in
    on_ok c.take_list.result (known_more blobs c.args.self.now.known.items c.keep.new.lists.items c.into_parts-parts.result c.requires.known all c.in-Ok-keep.ensures)

pub returns-in-Err-Wrong-clause-took : goal.returns-in-Err-Wrong-clause-took
returns-in-Err-Wrong-clause-took c =
    let old = c.args.self.now.taking in
    let blobs = c.args.self.now.blobs in
    let none = subst (λ (l : List ℕ). (parts : List Part) → IsStaged parts → AreNamedBy blobs l parts → ⊥) c.after_kind.ensures (c.in-Err-Wrong.ensures.wrong c.in-Err-Wrong.field-0-is) in
    body_refused old.node old.begun blobs c.args.body.now (λ blob. omega (arith, blob, c.requires.kind)) (no_stage_said blobs c.args.body.now c.requires.kind none)
