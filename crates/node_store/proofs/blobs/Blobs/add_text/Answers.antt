use Rattle.std.proofs.Common.{◌≡◌, ◌∙◌, List, ap, inl, refl, subst, sym}
use Rattle.node_store.specs.declared.blob.Blob.{Blob}
use Rattle.node_store.specs.Digests.{Blobs, IsAmong}
use Rattle.node_store.specs.Growing.{bytes_in}
use Rattle.node_store.proofs.Chosen.{adds_by, found_there, not_there, text_pushed}
use Rattle.node_store.proofs.blobs.Blobs.add_text.Goals as goal

pub returns-then-is_some : goal.returns-then-is_some
returns-then-is_some c =
    let list : List Blob = c.deref.result.now in
    let text = c.args.part.now.bytes in
    let view : bytes_in list ≡ c.args.self.now = ap (λ (l : List Blob). bytes_in l) c.deref.ensures.value ∙ c.self.view_is in
    inl (subst (λ (l : Blobs). IsAmong l text) view (found_there list text c.place_in.result (sym c.is_some.ensures ∙ c.if-is_some.true) c.place_in.ensures), refl)

pub returns : goal.returns
returns c =
    let list : List Blob = c.deref.result.now in
    let old = c.args.self.now in
    let text = c.args.part.now.bytes in
    let view : bytes_in list ≡ old = ap (λ (l : List Blob). bytes_in l) c.deref.ensures.value ∙ c.self.view_is in
    adds_by old (bytes_in c.push.new.self.items) text c.args.part.now.digest c.find.result c.is_none-apart.result c.args.part.now.whole c.is_none-apart.ensures c.find.ensures
    (λ among. not_there list text c.place_in.result (sym c.is_some.ensures ∙ c.if-is_some.false) c.place_in.ensures (subst (λ (l : Blobs). IsAmong l text) (sym view) among))
    (text_pushed c.self.inside.list.items c.push.new.self.items _ old text c.in_ok-push.ensures.items c.self.view_is c.in_ok-share.ensures)
