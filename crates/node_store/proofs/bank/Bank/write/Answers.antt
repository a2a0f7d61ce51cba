use Rattle.std.proofs.Common.{◌≡◌, ◌-◌, ◌∙◌, ◌||◌, ◌++◌, ◌≤◌, ℕ, Bool, true, List, inl, sym, ap, subst, length, drop, arith}
use Rattle.std.specs.Prelude.{◌↔◌, IsTrue, OnOk}
use Rattle.gate_log.specs.declared.shape.Shape.{Shape}
use Rattle.gate_log.specs.Kept.{Added, WroteBy}
use Rattle.gate_log.specs.Log.{AtAnyMoment, IsLogOf, LogTerm, capacity_in}
use Rattle.gate_log.specs.Several.{LeavesFront}
use Rattle.gate_log.specs.Text.{AllFit, IsLive}
use Rattle.node_state.specs.Table.{after}
use Rattle.node_store.specs.Bank.{BankTerm, blobs_as, blobs_of_bank}
use Rattle.node_store.specs.Digests.{Blobs, texts_of_node}
use Rattle.node_store.specs.Growing.{AllAmong, added_bodies, bytes_in, cleared, event_body, need_to_add}
use Rattle.node_store.specs.Stands.{LeadsIn, node_shape}
use Rattle.node_store.specs.Store.{IsEmptyBank}
use Rattle.node_store.specs.declared.limits.TheConstants.{MAX_BODY}
use Rattle.node_store.proofs.BankAdds.{adds_few, adds_fit, bank_moment, bank_wrote, need_is}
use Rattle.node_store.proofs.BankWritten.{added_here, are_added, empty_is, format_after, may, need_here, not_both, on_ok, there_after}
use Rattle.node_store.proofs.Fronts.{brings}
use Rattle.node_store.proofs.bank.Bank.write.Goals as goal

pub spell-requires-clause-text : goal.spell-requires-clause-text
spell-requires-clause-text g c = brings c.args.node.now c.args.event.now c.args.text.now c.requires.text

pub has_room-requires : goal.has_room-requires
has_room-requires g c =
    let event = c.args.event.now in
    let node = c.args.node.now in
    let new = c.args.self.now in
    let empty = c.is_empty-empty.result in
    let from = c.in-Some.from in
    let texts = bytes_in c.since-lacking.result.now in
    let same : texts ≡ drop from new.texts = c.since-lacking.ensures ∙ ap (λ (b : BankTerm). drop from b.texts) c.self.view_is in
    let is : IsTrue empty ↔ IsEmptyBank (blobs_of_bank new) node = subst (λ (b : BankTerm). IsTrue empty ↔ IsEmptyBank (blobs_of_bank b) node) c.self.view_is c.is_empty-empty.ensures in
    let last : length c.as_slice.result.now - 4 ≡ length (event_body event) = omega (arith, ap (λ (l : List ℕ). length l) (c.as_slice.ensures.value ∙ c.spell.ensures.body)) in
    let old = c.requires.kept.0 in
    let grew = c.requires.kept.1 in
    let kept = c.requires.kept.2 in
    let here = may old node event c.args.grown from new texts empty grew c.in-Some.is same is in
    let none = empty_is old node event c.args.grown from new texts empty grew c.in-Some.is same is in
    omega (arith, adds_few old event from new here empty texts same c.spell.ensures.small, ap (λ (n : ℕ). need_to_add empty texts n) last)

pub returns-then-not-has_room-clause-same_bank : goal.returns-then-not-has_room-clause-same_bank
returns-then-not-has_room-clause-same_bank g c = λ old grew added are fits.
    let event = c.args.event.now in
    let node = c.args.node.now in
    let new = c.args.self.now in
    let empty = c.is_empty-empty.result in
    let from = c.in-Some.from in
    let texts = bytes_in c.since-lacking.result.now in
    let same : texts ≡ drop from new.texts = c.since-lacking.ensures ∙ ap (λ (b : BankTerm). drop from b.texts) c.self.view_is in
    let is : IsTrue empty ↔ IsEmptyBank (blobs_of_bank new) node = subst (λ (b : BankTerm). IsTrue empty ↔ IsEmptyBank (blobs_of_bank b) node) c.self.view_is c.is_empty-empty.ensures in
    let last : length c.as_slice.result.now - 4 ≡ length (event_body event) = omega (arith, ap (λ (l : List ℕ). length l) (c.as_slice.ensures.value ∙ c.spell.ensures.body)) in
    let need = need_here old node event c.args.grown from new texts empty grew c.in-Some.is same is added are in
    let capacity = ap (λ (b : BankTerm). capacity_in b.log) c.self.view_is in
    let yes : c.has_room.result ≡ true = c.has_room.ensures.1 (omega (arith, fits, need, capacity, ap (λ (n : ℕ). need_to_add empty texts n) last)) in
    absurd (not_both c.has_room.result c.if-not-has_room.true yes)

pub returns-then-not-has_room-clause-adds : goal.returns-then-not-has_room-clause-adds
returns-then-not-has_room-clause-adds g c = λ old grew added bodies are fits of.
    let event = c.args.event.now in
    let node = c.args.node.now in
    let new = c.args.self.now in
    let empty = c.is_empty-empty.result in
    let from = c.in-Some.from in
    let texts = bytes_in c.since-lacking.result.now in
    let same : texts ≡ drop from new.texts = c.since-lacking.ensures ∙ ap (λ (b : BankTerm). drop from b.texts) c.self.view_is in
    let is : IsTrue empty ↔ IsEmptyBank (blobs_of_bank new) node = subst (λ (b : BankTerm). IsTrue empty ↔ IsEmptyBank (blobs_of_bank b) node) c.self.view_is c.is_empty-empty.ensures in
    let last : length c.as_slice.result.now - 4 ≡ length (event_body event) = omega (arith, ap (λ (l : List ℕ). length l) (c.as_slice.ensures.value ∙ c.spell.ensures.body)) in
    let need = need_here old node event c.args.grown from new texts empty grew c.in-Some.is same is added are in
    let capacity = ap (λ (b : BankTerm). capacity_in b.log) c.self.view_is in
    let yes : c.has_room.result ≡ true = c.has_room.ensures.1 (omega (arith, fits, need, capacity, ap (λ (n : ℕ). need_to_add empty texts n) last)) in
    absurd (not_both c.has_room.result c.if-not-has_room.true yes)

pub add-result-requires-clause-text : goal.add-result-requires-clause-text
add-result-requires-clause-text g c = brings c.args.node.now c.args.event.now c.args.text.now c.requires.text

pub add-result-requires-clause-size : goal.add-result-requires-clause-size
add-result-requires-clause-size g c =
    let event = c.args.event.now in
    let node = c.args.node.now in
    let new = c.args.self.now in
    let empty = c.is_empty-empty.result in
    let from = c.in-Some.from in
    let texts = bytes_in c.since-lacking.result.now in
    let same : texts ≡ drop from new.texts = c.since-lacking.ensures ∙ ap (λ (b : BankTerm). drop from b.texts) c.self.view_is in
    let is : IsTrue empty ↔ IsEmptyBank (blobs_of_bank new) node = subst (λ (b : BankTerm). IsTrue empty ↔ IsEmptyBank (blobs_of_bank b) node) c.self.view_is c.is_empty-empty.ensures in
    let last : length c.as_slice.result.now - 4 ≡ length (event_body event) = omega (arith, ap (λ (l : List ℕ). length l) (c.as_slice.ensures.value ∙ c.spell.ensures.body)) in
    let old = c.requires.kept.0 in
    let grew = c.requires.kept.1 in
    let kept = c.requires.kept.2 in
    let here = may old node event c.args.grown from new texts empty grew c.in-Some.is same is in
    let none = empty_is old node event c.args.grown from new texts empty grew c.in-Some.is same is in
    let shape : c.self.inside.log.shape.largest ≡ MAX_BODY = ap (λ (b : BankTerm). b.log.shape.largest) c.self.view_is ∙ ap (λ (l : LogTerm). l.shape.largest) grew.log ∙ ap (λ (s : Shape). s.largest) kept.shape in
    subst (λ (n : ℕ). AllFit n (added_bodies empty texts event)) (sym shape) (adds_fit old event from new here empty texts same c.spell.ensures.small)

pub add-result-requires-clause-capacity : goal.add-result-requires-clause-capacity
add-result-requires-clause-capacity g c =
    let event = c.args.event.now in
    let node = c.args.node.now in
    let new = c.args.self.now in
    let empty = c.is_empty-empty.result in
    let from = c.in-Some.from in
    let texts = bytes_in c.since-lacking.result.now in
    let same : texts ≡ drop from new.texts = c.since-lacking.ensures ∙ ap (λ (b : BankTerm). drop from b.texts) c.self.view_is in
    let is : IsTrue empty ↔ IsEmptyBank (blobs_of_bank new) node = subst (λ (b : BankTerm). IsTrue empty ↔ IsEmptyBank (blobs_of_bank b) node) c.self.view_is c.is_empty-empty.ensures in
    let last : length c.as_slice.result.now - 4 ≡ length (event_body event) = omega (arith, ap (λ (l : List ℕ). length l) (c.as_slice.ensures.value ∙ c.spell.ensures.body)) in
    let room : need_to_add empty texts (length (event_body event)) ≤ capacity_in c.self.inside.log = subst (λ (n : ℕ). need_to_add empty texts n ≤ capacity_in c.self.inside.log) last (c.has_room.ensures.0 c.if-not-has_room.false) in
    omega (arith, room, need_is empty texts event)

pub returns-clause-answer : goal.returns-clause-answer
returns-clause-answer g c =
    let event = c.args.event.now in
    let node = c.args.node.now in
    let new = c.args.self.now in
    let empty = c.is_empty-empty.result in
    let from = c.in-Some.from in
    let texts = bytes_in c.since-lacking.result.now in
    let same : texts ≡ drop from new.texts = c.since-lacking.ensures ∙ ap (λ (b : BankTerm). drop from b.texts) c.self.view_is in
    let is : IsTrue empty ↔ IsEmptyBank (blobs_of_bank new) node = subst (λ (b : BankTerm). IsTrue empty ↔ IsEmptyBank (blobs_of_bank b) node) c.self.view_is c.is_empty-empty.ensures in
    let last : length c.as_slice.result.now - 4 ≡ length (event_body event) = omega (arith, ap (λ (l : List ℕ). length l) (c.as_slice.ensures.value ∙ c.spell.ensures.body)) in
    let old = c.requires.kept.0 in
    let grew = c.requires.kept.1 in
    let kept = c.requires.kept.2 in
    let here = may old node event c.args.grown from new texts empty grew c.in-Some.is same is in
    let none = empty_is old node event c.args.grown from new texts empty grew c.in-Some.is same is in
    let log : c.self.inside.log ≡ old.log = ap (λ (b : BankTerm). b.log) c.self.view_is ∙ grew.log in
    let digests : old.by_digests ≡ c.self.inside.by_digests = sym grew.format ∙ ap (λ (b : BankTerm). b.by_digests) (sym c.self.view_is) in
    let left : cleared empty new.texts ≡ c.clear_if.new.self = ap (λ (b : BankTerm). cleared empty b.texts) (sym c.self.view_is) ∙ sym c.clear_if.ensures in
    subst (λ (t : Blobs). WroteBy g.D.Disk c.args.disk.now c.add-result.new.disk node_shape (LeadsIn (blobs_as (c.self.inside.by_digests || empty) t)) (after node event) c.add-result.new.log c.add-result.result) left
    (subst (λ (b : Bool). WroteBy g.D.Disk c.args.disk.now c.add-result.new.disk node_shape (LeadsIn (blobs_as (b || empty) (cleared empty new.texts))) (after node event) c.add-result.new.log c.add-result.result) digests
    (bank_wrote g.D.Disk c.args.disk.now c.add-result.new.disk old node event from new c.add-result.new.log empty here texts same none kept c.spell.ensures.range c.requires.within c.requires.allowed c.add-result.result
    (subst (λ (l : LogTerm). Added l (added_bodies empty texts event) (g.D.Disk.faults c.args.disk.now) (g.D.Disk.faults c.add-result.new.disk) c.add-result.result c.add-result.new.log) log c.add-result.ensures.answer)
    (subst (λ (l : LogTerm). (bodies : List (List ℕ)) → IsLogOf g.D.Disk c.args.disk.now l bodies → OnOk c.add-result.result (IsLogOf g.D.Disk c.add-result.new.disk c.add-result.new.log (bodies ++ added_bodies empty texts event))) log c.add-result.ensures.ok)))

pub returns-clause-there : goal.returns-clause-there
returns-clause-there g c =
    let event = c.args.event.now in
    let node = c.args.node.now in
    let new = c.args.self.now in
    let empty = c.is_empty-empty.result in
    let from = c.in-Some.from in
    let texts = bytes_in c.since-lacking.result.now in
    let same : texts ≡ drop from new.texts = c.since-lacking.ensures ∙ ap (λ (b : BankTerm). drop from b.texts) c.self.view_is in
    let is : IsTrue empty ↔ IsEmptyBank (blobs_of_bank new) node = subst (λ (b : BankTerm). IsTrue empty ↔ IsEmptyBank (blobs_of_bank b) node) c.self.view_is c.is_empty-empty.ensures in
    let last : length c.as_slice.result.now - 4 ≡ length (event_body event) = omega (arith, ap (λ (l : List ℕ). length l) (c.as_slice.ensures.value ∙ c.spell.ensures.body)) in
    let old = c.requires.kept.0 in
    let grew = c.requires.kept.1 in
    let kept = c.requires.kept.2 in
    let here = may old node event c.args.grown from new texts empty grew c.in-Some.is same is in
    let none = empty_is old node event c.args.grown from new texts empty grew c.in-Some.is same is in
    let left : cleared empty new.texts ≡ c.clear_if.new.self = ap (λ (b : BankTerm). cleared empty b.texts) (sym c.self.view_is) ∙ sym c.clear_if.ensures in
    on_ok c.add-result.result
    (subst (λ (t : Blobs). AllAmong t (texts_of_node (after node event))) left
    (there_after old node event c.args.grown from new texts empty grew c.in-Some.is same is g.D.Disk c.args.disk.now kept c.requires.there))

pub returns-clause-any_moment : goal.returns-clause-any_moment
returns-clause-any_moment g c =
    let event = c.args.event.now in
    let node = c.args.node.now in
    let new = c.args.self.now in
    let empty = c.is_empty-empty.result in
    let from = c.in-Some.from in
    let texts = bytes_in c.since-lacking.result.now in
    let same : texts ≡ drop from new.texts = c.since-lacking.ensures ∙ ap (λ (b : BankTerm). drop from b.texts) c.self.view_is in
    let is : IsTrue empty ↔ IsEmptyBank (blobs_of_bank new) node = subst (λ (b : BankTerm). IsTrue empty ↔ IsEmptyBank (blobs_of_bank b) node) c.self.view_is c.is_empty-empty.ensures in
    let last : length c.as_slice.result.now - 4 ≡ length (event_body event) = omega (arith, ap (λ (l : List ℕ). length l) (c.as_slice.ensures.value ∙ c.spell.ensures.body)) in
    let old = c.requires.kept.0 in
    let grew = c.requires.kept.1 in
    let kept = c.requires.kept.2 in
    let here = may old node event c.args.grown from new texts empty grew c.in-Some.is same is in
    let none = empty_is old node event c.args.grown from new texts empty grew c.in-Some.is same is in
    let log : c.self.inside.log ≡ old.log = ap (λ (b : BankTerm). b.log) c.self.view_is ∙ grew.log in
    bank_moment g.D.Disk c.args.disk.now c.add-result.new.disk old node event from new c.add-result.new.log empty here texts same none kept c.spell.ensures.range c.requires.within c.requires.allowed
    (subst (λ (l : LogTerm). LeavesFront g.D.Disk c.args.disk.now c.add-result.new.disk l (added_bodies empty texts event)) log c.add-result.ensures.any_moment)

pub returns-clause-same_bank : goal.returns-clause-same_bank
returns-clause-same_bank g c = λ old grew added are fits.
    let kept = c.requires.kept.2 in
    let log : c.self.inside.log ≡ c.args.self.now.log = ap (λ (b : BankTerm). b.log) c.self.view_is in
    let of = subst (λ (l : LogTerm). IsLogOf g.D.Disk c.args.disk.now l kept.bodies) (sym (log ∙ c.requires.kept.1.log)) kept.of in
    subst (λ (l : LogTerm). AtAnyMoment g.D.Disk c.args.disk.now c.add-result.new.disk (IsLive l.second)) log (c.add-result.ensures.same_bank kept.bodies of)

pub returns-clause-adds : goal.returns-clause-adds
returns-clause-adds g c = λ old grew added bodies are fits of.
    let event = c.args.event.now in
    let node = c.args.node.now in
    let new = c.args.self.now in
    let empty = c.is_empty-empty.result in
    let from = c.in-Some.from in
    let texts = bytes_in c.since-lacking.result.now in
    let same : texts ≡ drop from new.texts = c.since-lacking.ensures ∙ ap (λ (b : BankTerm). drop from b.texts) c.self.view_is in
    let is : IsTrue empty ↔ IsEmptyBank (blobs_of_bank new) node = subst (λ (b : BankTerm). IsTrue empty ↔ IsEmptyBank (blobs_of_bank b) node) c.self.view_is c.is_empty-empty.ensures in
    let last : length c.as_slice.result.now - 4 ≡ length (event_body event) = omega (arith, ap (λ (l : List ℕ). length l) (c.as_slice.ensures.value ∙ c.spell.ensures.body)) in
    let log : c.self.inside.log ≡ new.log = ap (λ (b : BankTerm). b.log) c.self.view_is in
    let all = added_here old node event c.args.grown from new texts empty grew c.in-Some.is same is added are in
    subst (λ (l : List (List ℕ)). OnOk c.add-result.result (IsLogOf g.D.Disk c.add-result.new.disk c.add-result.new.log (bodies ++ l))) (sym all)
    (c.add-result.ensures.ok bodies (subst (λ (l : LogTerm). IsLogOf g.D.Disk c.args.disk.now l bodies) (sym log) of))

pub returns-clause-rewrites : goal.returns-clause-rewrites
returns-clause-rewrites g c = λ old grew must.
    let event = c.args.event.now in
    let node = c.args.node.now in
    let new = c.args.self.now in
    let empty = c.is_empty-empty.result in
    let from = c.in-Some.from in
    let texts = bytes_in c.since-lacking.result.now in
    let same : texts ≡ drop from new.texts = c.since-lacking.ensures ∙ ap (λ (b : BankTerm). drop from b.texts) c.self.view_is in
    let is : IsTrue empty ↔ IsEmptyBank (blobs_of_bank new) node = subst (λ (b : BankTerm). IsTrue empty ↔ IsEmptyBank (blobs_of_bank b) node) c.self.view_is c.is_empty-empty.ensures in
    let last : length c.as_slice.result.now - 4 ≡ length (event_body event) = omega (arith, ap (λ (l : List ℕ). length l) (c.as_slice.ensures.value ∙ c.spell.ensures.body)) in
    let room : need_to_add empty texts (length (event_body event)) ≤ capacity_in c.self.inside.log = subst (λ (n : ℕ). need_to_add empty texts n ≤ capacity_in c.self.inside.log) last (c.has_room.ensures.0 c.if-not-has_room.false) in
    let are = are_added old node event c.args.grown from new texts empty grew c.in-Some.is same is in
    absurd (must (added_bodies empty texts event) are (omega (arith, room, need_is empty texts event, ap (λ (b : BankTerm). capacity_in b.log) c.self.view_is)))

pub returns-clause-format : goal.returns-clause-format
returns-clause-format g c = λ old grew needs.
    let event = c.args.event.now in
    let node = c.args.node.now in
    let new = c.args.self.now in
    let empty = c.is_empty-empty.result in
    let from = c.in-Some.from in
    let texts = bytes_in c.since-lacking.result.now in
    let same : texts ≡ drop from new.texts = c.since-lacking.ensures ∙ ap (λ (b : BankTerm). drop from b.texts) c.self.view_is in
    let is : IsTrue empty ↔ IsEmptyBank (blobs_of_bank new) node = subst (λ (b : BankTerm). IsTrue empty ↔ IsEmptyBank (blobs_of_bank b) node) c.self.view_is c.is_empty-empty.ensures in
    let last : length c.as_slice.result.now - 4 ≡ length (event_body event) = omega (arith, ap (λ (l : List ℕ). length l) (c.as_slice.ensures.value ∙ c.spell.ensures.body)) in
    let room : need_to_add empty texts (length (event_body event)) ≤ capacity_in c.self.inside.log = subst (λ (n : ℕ). need_to_add empty texts n ≤ capacity_in c.self.inside.log) last (c.has_room.ensures.0 c.if-not-has_room.false) in
    let fits : need_to_add empty texts (length (event_body event)) ≤ capacity_in new.log = omega (arith, room, ap (λ (b : BankTerm). capacity_in b.log) c.self.view_is) in
    let yes = format_after old node event c.args.grown from new texts empty grew c.in-Some.is same is new.log fits needs in
    on_ok c.add-result.result (inl (subst (λ (b : BankTerm). (b.by_digests || empty) ≡ true) (sym c.self.view_is) yes))
