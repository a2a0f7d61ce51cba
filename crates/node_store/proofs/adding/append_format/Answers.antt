use Rattle.std.proofs.Common.{◌≡◌, ◌≤◌, Bool, ℕ, List, [], ◌∷◌, length, Ok, sym, refl, arith, subst, append-nil}
use Rattle.gate_log.specs.Log.{IsLogOf, capacity_in}
use Rattle.gate_log.specs.Several.{AddsBodies, AppendedAll, LeavesFront, grown_by}
use Rattle.gate_log.specs.Text.{AllFit, cells}
use Rattle.gate_log.proofs.OneByOne.{added_none, append_capacity, append_moment}
use Rattle.node_store.specs.Digests.{format_body}
use Rattle.node_store.specs.Growing.{bodies_of_format}
use Rattle.node_store.proofs.AfterFormat.{answered}
use Rattle.node_store.proofs.adding.append_format.Goals as goal

pub append-requires-clause-size : goal.append-requires-clause-size
append-requires-clause-size g c = (subst (λ (e : Bool). AllFit c.args.log.now.shape.largest (bodies_of_format e)) c.if-empty.true c.requires.size).0

pub append-requires-clause-capacity : goal.append-requires-clause-capacity
append-requires-clause-capacity g c =
    let fits = subst (λ (e : Bool). length (cells (bodies_of_format e)) ≤ capacity_in c.args.log.now) c.if-empty.true c.requires.capacity in
    let none = added_none g.D.Disk c.args.disk.now c.args.log.now (format_body ∷ []) (g.met.D.Disk.only_now c.args.disk.now) c.requires.unspent fits in
    append_capacity g.D.Disk c.args.disk.now c.args.disk.now c.args.log.now c.args.log.now (format_body ∷ []) format_body [] none

pub returns-then-empty-clause-answer : goal.returns-then-empty-clause-answer
returns-then-empty-clause-answer g c =
    let log = c.args.log.now in
    let faults = g.D.Disk.faults c.args.disk.now in
    subst (λ (e : Bool). AppendedAll log (bodies_of_format e) faults (g.D.Disk.faults c.append.new.disk) c.append.result c.append.new.self) (sym c.if-empty.true)
    (answered log log c.append.new.self (format_body ∷ []) format_body faults faults (g.D.Disk.faults c.append.new.disk) (omega arith) refl c.append.result c.append.ensures.answer)

pub returns-then-empty-clause-ok : goal.returns-then-empty-clause-ok
returns-then-empty-clause-ok g c =
    subst (λ (e : Bool). AddsBodies g.D.Disk c.args.disk.now c.append.new.disk c.args.log.now c.append.new.self (bodies_of_format e) c.append.result) (sym c.if-empty.true) c.append.ensures.ok

pub returns-then-empty-clause-any_moment : goal.returns-then-empty-clause-any_moment
returns-then-empty-clause-any_moment g c =
    let fits = subst (λ (e : Bool). length (cells (bodies_of_format e)) ≤ capacity_in c.args.log.now) c.if-empty.true c.requires.capacity in
    let none = added_none g.D.Disk c.args.disk.now c.args.log.now (format_body ∷ []) (g.met.D.Disk.only_now c.args.disk.now) c.requires.unspent fits in
    subst (λ (e : Bool). LeavesFront g.D.Disk c.args.disk.now c.append.new.disk c.args.log.now (bodies_of_format e)) (sym c.if-empty.true)
    (append_moment g.D.Disk c.args.disk.now c.args.disk.now c.append.new.disk c.args.log.now c.args.log.now (format_body ∷ []) format_body [] none c.append.ensures.any_moment)

pub returns-else-empty-clause-answer : goal.returns-else-empty-clause-answer
returns-else-empty-clause-answer g c = subst (λ (e : Bool). c.args.log.now ≡ grown_by c.args.log.now (bodies_of_format e)) (sym c.if-empty.false) refl

pub returns-else-empty-clause-ok : goal.returns-else-empty-clause-ok
returns-else-empty-clause-ok g c =
    subst (λ (e : Bool). AddsBodies {T = Unit {0}} g.D.Disk c.args.disk.now c.args.disk.now c.args.log.now c.args.log.now (bodies_of_format e) (Ok tt)) (sym c.if-empty.false)
    (λ bodies of. subst (λ (l : List (List ℕ)). IsLogOf g.D.Disk c.args.disk.now c.args.log.now l) (sym (append-nil bodies)) of)

pub returns-else-empty-clause-any_moment : goal.returns-else-empty-clause-any_moment
returns-else-empty-clause-any_moment g c =
    subst (λ (e : Bool). LeavesFront g.D.Disk c.args.disk.now c.args.disk.now c.args.log.now (bodies_of_format e)) (sym c.if-empty.false)
    (added_none g.D.Disk c.args.disk.now c.args.log.now [] (g.met.D.Disk.only_now c.args.disk.now) c.requires.unspent (omega arith)).any_moment

pub returns-else-empty-clause-same_bank : goal.returns-else-empty-clause-same_bank
returns-else-empty-clause-same_bank g c =
    (added_none g.D.Disk c.args.disk.now c.args.log.now [] (g.met.D.Disk.only_now c.args.disk.now) c.requires.unspent (omega arith)).same_bank
