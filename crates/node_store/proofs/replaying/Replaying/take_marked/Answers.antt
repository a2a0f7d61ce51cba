use Rattle.std.proofs.Common.{inr, refl, sym, ap, ◌∙◌}
use Rattle.node_store.specs.Digests.{is_plain}
use Rattle.node_store.proofs.KnownLists.{known_after_blob}
use Rattle.node_store.proofs.TakenSo.{blob_took, said_took}
use Rattle.node_store.proofs.replaying.Replaying.take_marked.Goals as goal

pub returns-then-kind-eq16-clause-took : goal.returns-then-kind-eq16-clause-took
returns-then-kind-eq16-clause-took c =
    blob_took c.args.self.now.taking.node c.args.self.now.taking.begun c.args.self.now.blobs c.args.body.now c.take.new.self c.take.result (sym c.kind_of-kind.ensures ∙ c.if-kind-eq16.true) c.take.ensures

pub returns-then-is_plain-clause-took : goal.returns-then-is_plain-clause-took
returns-then-is_plain-clause-took c =
    let old = c.args.self.now.taking in
    let new = c.take-then-is_plain.new.self in
    said_took old.node old.begun c.args.self.now.blobs c.args.body.now c.args.body.now new.node new.begun c.take-then-is_plain.result c.requires.apart
    (inr (inr (record { plain = ap is_plain (sym c.kind_of-kind.ensures) ∙ sym c.is_plain.ensures ∙ c.if-is_plain.true; says = refl }))) c.take-then-is_plain.ensures

pub returns-then-kind-eq16-clause-known : goal.returns-then-kind-eq16-clause-known
returns-then-kind-eq16-clause-known c = known_after_blob c.args.self.now.blobs c.take.new.self c.args.body.now c.args.self.now.known.items c.requires.known c.take.result c.take.ensures
