use Rattle.std.proofs.Common.{◌≡◌, ◌∙◌, ℕ, List, Option, Vec, Global, is_some, false, ap, sym, subst, refl, rules}
use Rattle.std.specs.Prelude.{option_map}
use Rattle.meta_config.specs.Writing.{text_of_meta}
use Rattle.node_state.specs.declared.node.Node.{Node}
use Rattle.node_state.specs.Table.{after}
use Rattle.node_store.specs.Bank.{blobs_of_bank}
use Rattle.node_store.specs.Digests.{texts_of_node}
use Rattle.node_store.specs.Growing.{AllAmong}
use Rattle.node_store.specs.Store.{StoreTerm, is_spent}
use Rattle.node_store.proofs.AtRest.{before}
use Rattle.node_store.proofs.Committing.{adds_done, format_done, grown_there, rewrites_done, text_is}
use Rattle.node_store.proofs.Fronts.{text_none, text_some}
use Rattle.node_store.proofs.store.NodeStore.commit.Goals as goal

abbrev items : Option (Vec ℕ Global) → Option (List ℕ)
items text = option_map (λ (v : Vec ℕ Global). v.items) text

pub returns-in-Some-clause-any_moment : goal.returns-in-Some-clause-any_moment
returns-in-Some-clause-any_moment g c = λ kept. before g.D.Disk g.met.D.Disk.only_now c.args.disk.now c.args.self.now kept c.args.event

pub returns-in-Err-clause-answer : goal.returns-in-Err-clause-answer
returns-in-Err-clause-answer g c = (record { unspent = search rules; allowed = search rules }, c.in-Err.ensures.memory c.args.self.now.reserved, record { store = refl; disk = refl })

pub returns-in-Err-clause-any_moment : goal.returns-in-Err-clause-any_moment
returns-in-Err-clause-any_moment g c = λ kept. before g.D.Disk g.met.D.Disk.only_now c.args.disk.now c.args.self.now kept c.args.event

pub returns-in-Err-supply-clause-any_moment : goal.returns-in-Err-supply-clause-any_moment
returns-in-Err-supply-clause-any_moment g c = λ kept. before g.D.Disk g.met.D.Disk.only_now c.args.disk.now c.args.self.now kept c.args.event

pub returns-in-Err-grow-clause-any_moment : goal.returns-in-Err-grow-clause-any_moment
returns-in-Err-grow-clause-any_moment g c = λ kept. before g.D.Disk g.met.D.Disk.only_now c.args.disk.now c.args.self.now kept c.args.event

pub write-requires-clause-there : goal.write-requires-clause-there
write-requires-clause-there g c =
    let unspent : is_spent c.args.self.now ≡ false = ap (λ (s : StoreTerm). s.log.spent) (sym c.self.view_is) ∙ sym c.is_spent.ensures ∙ c.if-is_spent.false in
    let same : c.self-2.inside.bank.log.spent ≡ false = ap (λ (s : StoreTerm). s.log.spent) (c.self-2.view_is ∙ c.in-Ok-supply.ensures.same) ∙ unspent in
    grown_there c.self-2.inside.bank c.grow.new.self c.self-2.inside.node c.args.event c.in-Ok-grow.grown c.in-Ok-grow.ensures.grew (c.self-2.invariant.1 same)

pub write-requires-clause-text : goal.write-requires-clause-text
write-requires-clause-text g c =
    c.text_after-after.ensures ∙ text_is c.self-2.inside.node c.args.event (items c.in-Ok.text) c.self-2.inside.text.items c.in-Ok.ensures.text c.self-2.invariant.0

pub invariant_of-self-in-Some-text : goal.invariant_of-self-in-Some-text
invariant_of-self-in-Some-text g c =
    let node : c.apply.result ≡ after c.self-2.inside.node c.args.event = c.apply.ensures ∙ ap (λ (n : Node). after n c.args.event) c.replace-node.ensures.value in (
      text_some c.self-2.inside.node c.args.event (items c.in-Ok.text) c.in-Some-text.text.items c.in-Ok.ensures.text (ap items c.in-Some-text.is) ∙ ap (λ (n : Node). text_of_meta n.meta) (sym node),
      λ unspent. subst (λ (n : Node). AllAmong c.write.new.self.texts (texts_of_node n)) (sym node) c.in_default-write.ensures.there,
    )

pub invariant_of-self-in_default-text : goal.invariant_of-self-in_default-text
invariant_of-self-in_default-text g c =
    let node : c.apply.result ≡ after c.self-2.inside.node c.args.event = c.apply.ensures ∙ ap (λ (n : Node). after n c.args.event) c.replace-node.ensures.value in (
      text_none c.self-2.inside.node c.args.event (items c.in-Ok.text) c.self-2.inside.text.items c.in-Ok.ensures.text (ap items c.in_default-text.is) c.self-2.invariant.0 ∙ ap (λ (n : Node). text_of_meta n.meta) (sym node),
      λ unspent. subst (λ (n : Node). AllAmong c.write.new.self.texts (texts_of_node n)) (sym node) c.in_default-write.ensures.there,
    )

pub returns-in-Some-text-clause-adds : goal.returns-in-Some-text-clause-adds
returns-in-Some-text-clause-adds g c = λ kept.
    let view = c.self-2.view_is ∙ c.in-Ok-supply.ensures.same in
    let new : StoreTerm = record { log = c.write.new.self.log; node = c.apply.result; reserved = is_some c.self-2.inside.room; blobs = blobs_of_bank c.write.new.self } in
    let node : c.apply.result ≡ after c.self-2.inside.node c.args.event = c.apply.ensures ∙ ap (λ (n : Node). after n c.args.event) c.replace-node.ensures.value in
    adds_done g.D.Disk c.args.disk.now c.write.new.disk c.args.self.now new c.args.event c.self-2.inside.bank c.grow.new.self c.write.new.self c.in-Ok-grow.grown c.self-2.inside.node c.in-Ok-grow.ensures.grew (ap (λ (s : StoreTerm). s.log) view)
    (ap (λ (s : StoreTerm). s.blobs) view) (ap (λ (s : StoreTerm). s.node) view) refl refl node c.in_default-write.ensures.adds

pub returns-in-Some-text-clause-format : goal.returns-in-Some-text-clause-format
returns-in-Some-text-clause-format g c = λ kept.
    let view = c.self-2.view_is ∙ c.in-Ok-supply.ensures.same in
    let new : StoreTerm = record { log = c.write.new.self.log; node = c.apply.result; reserved = is_some c.self-2.inside.room; blobs = blobs_of_bank c.write.new.self } in
    let node : c.apply.result ≡ after c.self-2.inside.node c.args.event = c.apply.ensures ∙ ap (λ (n : Node). after n c.args.event) c.replace-node.ensures.value in
    format_done g.D.Disk c.args.disk.now c.write.new.disk c.args.self.now new c.args.event c.self-2.inside.bank c.grow.new.self c.write.new.self c.in-Ok-grow.grown c.self-2.inside.node c.in-Ok-grow.ensures.grew (ap (λ (s : StoreTerm). s.log) view)
    (ap (λ (s : StoreTerm). s.blobs) view) (ap (λ (s : StoreTerm). s.node) view) refl refl node c.in_default-write.ensures.format c.in_default-write.ensures.answer

pub returns-in-Some-text-clause-rewrites : goal.returns-in-Some-text-clause-rewrites
returns-in-Some-text-clause-rewrites g c = λ kept.
    let view = c.self-2.view_is ∙ c.in-Ok-supply.ensures.same in
    let new : StoreTerm = record { log = c.write.new.self.log; node = c.apply.result; reserved = is_some c.self-2.inside.room; blobs = blobs_of_bank c.write.new.self } in
    let node : c.apply.result ≡ after c.self-2.inside.node c.args.event = c.apply.ensures ∙ ap (λ (n : Node). after n c.args.event) c.replace-node.ensures.value in
    rewrites_done g.D.Disk c.args.disk.now c.write.new.disk c.args.self.now new c.args.event c.self-2.inside.bank c.grow.new.self c.write.new.self c.in-Ok-grow.grown c.self-2.inside.node c.in-Ok-grow.ensures.grew (ap (λ (s : StoreTerm). s.log) view)
    (ap (λ (s : StoreTerm). s.blobs) view) (ap (λ (s : StoreTerm). s.node) view) refl refl node c.in_default-write.ensures.rewrites

pub returns-in_default-text-clause-adds : goal.returns-in_default-text-clause-adds
returns-in_default-text-clause-adds g c = λ kept.
    let view = c.self-2.view_is ∙ c.in-Ok-supply.ensures.same in
    let new : StoreTerm = record { log = c.write.new.self.log; node = c.apply.result; reserved = is_some c.self-2.inside.room; blobs = blobs_of_bank c.write.new.self } in
    let node : c.apply.result ≡ after c.self-2.inside.node c.args.event = c.apply.ensures ∙ ap (λ (n : Node). after n c.args.event) c.replace-node.ensures.value in
    adds_done g.D.Disk c.args.disk.now c.write.new.disk c.args.self.now new c.args.event c.self-2.inside.bank c.grow.new.self c.write.new.self c.in-Ok-grow.grown c.self-2.inside.node c.in-Ok-grow.ensures.grew (ap (λ (s : StoreTerm). s.log) view)
    (ap (λ (s : StoreTerm). s.blobs) view) (ap (λ (s : StoreTerm). s.node) view) refl refl node c.in_default-write.ensures.adds

pub returns-in_default-text-clause-format : goal.returns-in_default-text-clause-format
returns-in_default-text-clause-format g c = λ kept.
    let view = c.self-2.view_is ∙ c.in-Ok-supply.ensures.same in
    let new : StoreTerm = record { log = c.write.new.self.log; node = c.apply.result; reserved = is_some c.self-2.inside.room; blobs = blobs_of_bank c.write.new.self } in
    let node : c.apply.result ≡ after c.self-2.inside.node c.args.event = c.apply.ensures ∙ ap (λ (n : Node). after n c.args.event) c.replace-node.ensures.value in
    format_done g.D.Disk c.args.disk.now c.write.new.disk c.args.self.now new c.args.event c.self-2.inside.bank c.grow.new.self c.write.new.self c.in-Ok-grow.grown c.self-2.inside.node c.in-Ok-grow.ensures.grew (ap (λ (s : StoreTerm). s.log) view)
    (ap (λ (s : StoreTerm). s.blobs) view) (ap (λ (s : StoreTerm). s.node) view) refl refl node c.in_default-write.ensures.format c.in_default-write.ensures.answer

pub returns-in_default-text-clause-rewrites : goal.returns-in_default-text-clause-rewrites
returns-in_default-text-clause-rewrites g c = λ kept.
    let view = c.self-2.view_is ∙ c.in-Ok-supply.ensures.same in
    let new : StoreTerm = record { log = c.write.new.self.log; node = c.apply.result; reserved = is_some c.self-2.inside.room; blobs = blobs_of_bank c.write.new.self } in
    let node : c.apply.result ≡ after c.self-2.inside.node c.args.event = c.apply.ensures ∙ ap (λ (n : Node). after n c.args.event) c.replace-node.ensures.value in
    rewrites_done g.D.Disk c.args.disk.now c.write.new.disk c.args.self.now new c.args.event c.self-2.inside.bank c.grow.new.self c.write.new.self c.in-Ok-grow.grown c.self-2.inside.node c.in-Ok-grow.ensures.grew (ap (λ (s : StoreTerm). s.log) view)
    (ap (λ (s : StoreTerm). s.blobs) view) (ap (λ (s : StoreTerm). s.node) view) refl refl node c.in_default-write.ensures.rewrites
