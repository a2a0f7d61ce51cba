use Rattle.std.proofs.Common.{◌∷◌, [], refl, sym, subst}
use Rattle.dsc_document.specs.declared.document.Document.{Document}
use Rattle.partial_merge.specs.Parts.{AreJoined, text_part}
use Rattle.partial_merge.proofs.OnePart.{are_joined}
use Rattle.partial_merge.proofs.joined.document_of.Goals as goal

pub returns-clause-joined : goal.returns-clause-joined
returns-clause-joined c =
    let part = text_part c.args.name.now c.args.bytes.now in
    subst (λ (document : Document). AreJoined (part ∷ []) document) (sym c.in_ok-named.ensures)
    (are_joined part c.in_ok-document.document (c.args.name.now ∷ []) refl c.in_ok-document.ensures.whole)
