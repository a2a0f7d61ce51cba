use Rattle.std.proofs.Common.{◌∙◌, List, Option, ap, sym, subst}
use Rattle.std.specs.Prelude.{IfSome}
use Rattle.std.specs.List.{AllByRecursion}
use Rattle.store_fields.specs.Fields.{IsBlob}
use Rattle.partial_merge.specs.declared.part.Part.{Part}
use Rattle.node_state.specs.Lists.{IsStaged}
use Rattle.node_store.specs.Digests.{texts_in, texts_of}
use Rattle.node_store.specs.Growing.{AllAmong}
use Rattle.node_store.proofs.Lacking.{adds_all, adds_more}
use Rattle.node_store.proofs.Lengths.{staged_blobs}
use Rattle.node_store.proofs.opening.hold_slot.Goals as goal

pub hold-requires : goal.hold-requires
hold-requires c =
    let staged : IsStaged c.in-Some.parts = subst (λ (o : Option (List Part)). IfSome o IsStaged) c.in-Some.is c.requires.staged in
    record { small = subst (λ (l : List Part). AllByRecursion (λ (part : Part). IsBlob part.bytes) l) (sym c.as_slice.ensures) (staged_blobs c.in-Some.parts staged) }

pub returns-in_ok-hold-in-Some : goal.returns-in_ok-hold-in-Some
returns-in_ok-hold-in-Some c =
    let adds = c.in_ok-hold-in-Some.ensures in
    let texts = texts_of c.as_slice.result.now in (
      subst (λ l. AllAmong c.hold.new.self l) (ap texts_of c.as_slice.ensures ∙ ap texts_in (sym c.in-Some.is)) (adds_all c.args.texts.now c.hold.new.self texts c.in_ok-hold-in-Some.field-0 adds),
      adds_more c.args.texts.now c.hold.new.self texts c.in_ok-hold-in-Some.field-0 adds,
    )
