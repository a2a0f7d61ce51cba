use Rattle.std.proofs.Common.{◌≡◌, ◌∙◌, ◌++◌, ◌&&◌, Bool, [], List, ap, subst, sym, take}
use Rattle.std.proofs.lemmas.List.{take-map}
use Rattle.node_store.specs.declared.blob.Blob.{Blob}
use Rattle.node_store.specs.Digests.{Blobs, texts_in}
use Rattle.node_store.specs.Growing.{AddsTexts, bytes_in}
use Rattle.node_store.specs.Whole.{parts_in}
use Rattle.node_store.proofs.Chosen.{all_kept}
use Rattle.node_store.proofs.Lacking.{adds_both, all_first, all_second}
use Rattle.node_store.proofs.blobs.Blobs.keep.Goals as goal

pub choose_slot-front-requires-2-clause-there : goal.choose_slot-front-requires-2-clause-there
choose_slot-front-requires-2-clause-there c =
    let old = c.args.self.now in
    let first = texts_in (parts_in c.args.pending) in
    let second = texts_in (parts_in c.args.current) in
    let third = texts_in (parts_in c.args.previous) in
    all_kept old c.choose_slot-front.new.self second c.choose_slot-front.ensures.keeps (all_first old second third (all_second old first (second ++ third) c.requires.there))

pub choose_slot-front-requires-3-clause-there : goal.choose_slot-front-requires-3-clause-there
choose_slot-front-requires-3-clause-there c =
    let old = c.args.self.now in
    let first = texts_in (parts_in c.args.pending) in
    let second = texts_in (parts_in c.args.current) in
    let third = texts_in (parts_in c.args.previous) in
    all_kept old c.choose_slot-front-2.new.self third (λ text among. c.choose_slot-front-2.ensures.keeps text (c.choose_slot-front.ensures.keeps text among))
    (all_second old second third (all_second old first (second ++ third) c.requires.there))

pub returns : goal.returns
returns c =
    let first = texts_in (parts_in c.args.pending) in
    let second = texts_in (parts_in c.args.current) in
    let third = texts_in (parts_in c.args.previous) in
    let one = c.choose_slot-front in
    let two = c.choose_slot-front-2 in
    let three = c.choose_slot-front-3 in
    let cut : bytes_in c.truncate.new.self.items ≡ take three.result.0 three.new.self =
    ap (λ (l : List Blob). bytes_in l) c.truncate.ensures.items ∙ sym (take-map (λ (b : Blob). b.bytes) three.result.0 c.self.inside.list.items) ∙ ap (λ (l : Blobs). take three.result.0 l) c.self.view_is in
    let apart : c.both-2.result ≡ (one.result.1 && (two.result.1 && three.result.1)) = c.both-2.ensures ∙ ap (λ (b : Bool). one.result.1 && b) c.both.ensures in
    subst (λ (l : Blobs). AddsTexts [] (first ++ (second ++ third)) c.both-2.result l) (sym cut)
    (subst (λ (b : Bool). AddsTexts [] (first ++ (second ++ third)) b (take three.result.0 three.new.self)) (sym apart)
    (adds_both [] (take one.result.0 one.new.self) (take three.result.0 three.new.self) first (second ++ third) one.result.1 (two.result.1 && three.result.1) one.ensures.adds
    (adds_both (take one.result.0 one.new.self) (take two.result.0 two.new.self) (take three.result.0 three.new.self) second third two.result.1 three.result.1 two.ensures.adds three.ensures.adds)))
