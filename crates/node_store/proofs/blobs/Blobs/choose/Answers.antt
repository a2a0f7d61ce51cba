use Rattle.std.proofs.Common.{◌≡◌, ◌≤◌, ◌+◌, List, true, length, subst, sym}
use Rattle.node_store.specs.declared.blob.Blob.{Blob}
use Rattle.node_store.specs.Digests.{Blobs}
use Rattle.node_store.specs.Growing.{ChoosesText, StandsFirst, bytes_in}
use Rattle.node_store.proofs.Chosen.{chosen_before, chosen_now}
use Rattle.node_store.proofs.blobs.Blobs.choose.Goals as goal

pub returns-then-place-front : goal.returns-then-place-front
returns-then-place-front c =
    let list : List Blob = c.self.inside.list.items in
    let text = c.args.part.now.bytes in
    let view : bytes_in list ≡ c.args.self.now = c.self.view_is in
    let stands : StandsFirst list text c.in-Some.place = subst (λ (l : List Blob). StandsFirst l text c.in-Some.place) c.deref.ensures.value c.in-Some.ensures in
    subst (λ (o : Blobs). ChoosesText o c.args.front text o (c.args.front, true)) view
    (chosen_before list list text c.args.front c.in-Some.place stands c.if-place-front.true (subst (λ (o : Blobs). c.args.front ≤ length o) (sym view) c.requires.front))

pub returns : goal.returns
returns c =
    let list : List Blob = c.self.inside.list.items in
    let text = c.args.part.now.bytes in
    let stands : StandsFirst list text c.in-Some.place = subst (λ (l : List Blob). StandsFirst l text c.in-Some.place) c.deref.ensures.value c.in-Some.ensures in
    subst (λ (o : Blobs). ChoosesText o c.args.front text (bytes_in c.swap.new.self.items) (c.args.front + 1, c.is_none-apart.result)) c.self.view_is
    (chosen_now list c.swap.new.self.items text c.args.front c.in-Some.place stands c.args.part.now.digest c.find_in.result c.is_none-apart.result c.if-place-front.false c.args.part.now.whole
    c.is_none-apart.ensures (rw c.deref-2.ensures.value at c.find_in.ensures) c.swap.ensures.items)
