use Rattle.std.proofs.Common.{◌≡◌, ◌∙◌, List, Option, Some, ap, sym, subst}
use Rattle.gate_log.specs.Replay.{Taken}
use Rattle.node_store.specs.declared.format.Format.{Format}
use Rattle.node_store.specs.declared.format.Format.TheVariants.{InFull, ByDigests}
use Rattle.node_store.specs.declared.known_list.KnownList.{KnownList}
use Rattle.node_store.specs.Digests.{Blobs}
use Rattle.node_store.specs.Known.{AreKnown}
use Rattle.node_store.specs.Stands.{EndsAt}
use Rattle.node_store.specs.Taking.{ReachedIn}
use Rattle.node_store.proofs.BankWritten.{on_ok}
use Rattle.node_store.proofs.KnownLists.{taken_both}
use Rattle.node_store.proofs.TakenSo.{first_taken, full_taken, marked_taken, taken_apart, taken_sound}
use Rattle.node_store.proofs.replaying.ReplayingReplay.take.Goals as goal

pub take_first-requires : goal.take_first-requires
take_first-requires c =
    let old = c.args.self.now in
    record { sound = taken_sound old.format old.blobs old.taking.node old.taking.begun c.requires.so_far.0 c.requires.so_far.1.0 }

pub take-requires : goal.take-requires
take-requires c =
    let old = c.args.self.now in
    taken_sound old.format old.blobs old.taking.node old.taking.begun c.requires.so_far.0 c.requires.so_far.1.0

pub take_marked-requires-clause-sound : goal.take_marked-requires-clause-sound
take_marked-requires-clause-sound c =
    let old = c.args.self.now in
    taken_sound old.format old.blobs old.taking.node old.taking.begun c.requires.so_far.0 c.requires.so_far.1.0

pub take_marked-requires-clause-apart : goal.take_marked-requires-clause-apart
take_marked-requires-clause-apart c =
    let old = c.args.self.now in
    let format : old.format ≡ Some ByDigests = sym c.format.ensures ∙ c.in-Some-ByDigests.is ∙ ap (λ (f : Format). Some f) c.in-Some-ByDigests.field-0-is in
    taken_apart old.blobs old.taking.node old.taking.begun c.requires.so_far.0
    (subst (λ (f : Option Format). ReachedIn f old.blobs old.taking.node old.taking.begun c.requires.so_far.0) format c.requires.so_far.1.0)

pub take_marked-requires-clause-known : goal.take_marked-requires-clause-known
take_marked-requires-clause-known c = c.requires.so_far.1.1

pub returns-in-None : goal.returns-in-None
returns-in-None c = λ bodies both.
    let old = c.args.self.now in
    let new = c.take_first.new.self in
    let known = subst (λ (b : Blobs). AreKnown b new.known.items) (sym c.take_first.ensures.blobs) (subst (λ (l : List KnownList). AreKnown old.blobs l) (sym c.take_first.ensures.known) both.1) in
    taken_both (AreKnown new.blobs new.known.items) (λ l. ReachedIn new.format new.blobs new.taking.node new.taking.begun l) (λ l b. EndsAt l b) bodies c.args.body.now c.take_first.result
    (first_taken old.taking.node new.taking.node old.taking.begun new.taking.begun old.blobs new.blobs bodies c.args.body.now new.format
    (subst (λ (f : Option Format). ReachedIn f old.blobs old.taking.node old.taking.begun bodies) (sym c.format.ensures ∙ c.in-None.is) both.0) c.take_first.result c.take_first.ensures.took)
    (on_ok c.take_first.result known)

pub returns-in-Some-InFull : goal.returns-in-Some-InFull
returns-in-Some-InFull c = λ bodies both.
    let old = c.args.self.now in
    let new = c.take.new.self in
    let format : old.format ≡ Some InFull = sym c.format.ensures ∙ c.in-Some-InFull.is ∙ ap (λ (f : Format). Some f) c.in-Some-InFull.field-0-is in
    taken_both (AreKnown old.blobs old.known.items) (λ l. ReachedIn old.format old.blobs new.node new.begun l) (λ l b. EndsAt l b) bodies c.args.body.now c.take.result
    (subst (λ (f : Option Format). Taken (λ l. ReachedIn f old.blobs new.node new.begun l) (λ l b. EndsAt l b) bodies c.args.body.now c.take.result) (sym format)
    (full_taken old.taking.node new.node old.taking.begun new.begun old.blobs old.blobs bodies c.args.body.now
    (subst (λ (f : Option Format). ReachedIn f old.blobs old.taking.node old.taking.begun bodies) format both.0) c.take.result c.take.ensures))
    (on_ok c.take.result both.1)

pub returns-in-Some-ByDigests : goal.returns-in-Some-ByDigests
returns-in-Some-ByDigests c = λ bodies both.
    let old = c.args.self.now in
    let new = c.take_marked.new.self in
    let format : old.format ≡ Some ByDigests = sym c.format.ensures ∙ c.in-Some-ByDigests.is ∙ ap (λ (f : Format). Some f) c.in-Some-ByDigests.field-0-is in
    taken_both (AreKnown new.blobs new.known.items) (λ l. ReachedIn new.format new.blobs new.taking.node new.taking.begun l) (λ l b. EndsAt l b) bodies c.args.body.now c.take_marked.result
    (subst (λ (f : Option Format). Taken (λ l. ReachedIn f new.blobs new.taking.node new.taking.begun l) (λ l b. EndsAt l b) bodies c.args.body.now c.take_marked.result) (sym (c.take_marked.ensures.format ∙ format))
    (marked_taken old.taking.node new.taking.node old.taking.begun new.taking.begun old.blobs new.blobs bodies c.args.body.now
    (subst (λ (f : Option Format). ReachedIn f old.blobs old.taking.node old.taking.begun bodies) format both.0) c.take_marked.result c.take_marked.ensures.took))
    c.take_marked.ensures.known
