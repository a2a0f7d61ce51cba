use Rattle.std.proofs.Common.{List, refl, sym, subst}
use Rattle.node_state.specs.declared.event.Event.TheVariants as events
use Rattle.node_state.specs.declared.list.Staged.{Staged}
use Rattle.node_store.specs.declared.body.Body.TheVariants as kinds
use Rattle.node_store.specs.declared.known_list.KnownList.{KnownList}
use Rattle.node_store.specs.Known.{AreKnown, IsKnownAs}
use Rattle.node_store.proofs.KnownLists.{known_named, known_staged}
use Rattle.node_store.proofs.Resolved.{stage_said}
use Rattle.node_store.proofs.TakenSo.{body_took}
use Rattle.node_store.proofs.replaying.Replaying.take_stage.Goals as goal

pub returns-in-Ok-Some-clause-took : goal.returns-in-Ok-Some-clause-took
returns-in-Ok-Some-clause-took c =
    let old = c.args.self.now.taking in
    let new = c.take_list.new.self in
    let blobs = c.args.self.now.blobs in
    let body = c.args.body.now in
    let lists = c.deref.result.now in
    let parts = c.in-Ok-Some.parts in
    let known : IsKnownAs lists body parts = rw c.in-Ok-Some.field-0-is at c.in-Ok-Some.ensures in
    let all : AreKnown blobs lists = subst (λ (l : List KnownList). AreKnown blobs l) (sym c.deref.ensures.value) c.requires.known in
    let staged : Staged = record { parts = parts; whole = known_staged blobs lists body parts all known } in
    body_took old.node old.begun blobs body (kinds.Event (events.Stage staged)) new.node new.begun c.take_list.result c.requires.apart (stage_said blobs body staged c.requires.kind (known_named blobs lists body parts all known))
    (c.take_list.ensures staged refl)
