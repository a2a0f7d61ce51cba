use Rattle.std.proofs.Common.{◌≡◌, ◌⊎◌, inr, ◌≤◌, ◌∙◌, [], List, None, Ok, Err, false, sym, ap, subst, arith}
use Rattle.gate_log.specs.Log.{LogTerm, capacity_in}
use Rattle.gate_log.specs.Text.{need_of}
use Rattle.pull_store.specs.declared.row.Row.{Row}
use Rattle.pull_store.specs.Bodies.{body_of}
use Rattle.pull_store.specs.Rows.{after, refusal}
use Rattle.pull_store.specs.Sound.{AreApart, AreRows}
use Rattle.pull_store.specs.Steps.{with_row}
use Rattle.pull_store.specs.Store.{AddsCell, StoreTerm, IsKept, HasCapacity, whole_need, bank_capacity, is_spent}
use Rattle.pull_store.specs.declared.error.PullError.TheVariants.{Agents, NoAgent, Memory, Spent}
use Rattle.pull_store.proofs.Committed.{is_kept, still_cell, still_moment}
use Rattle.pull_store.proofs.SoundSteps.{apart_placed, no_rows, placed_after, sound_replayed}
use Rattle.pull_store.proofs.store.PullStore.commit.Goals as goal

pub returns-in-Some-TooMany-clause-any_moment : goal.returns-in-Some-TooMany-clause-any_moment
returns-in-Some-TooMany-clause-any_moment g c = λ kept. still_moment g.D.Disk c.args.disk.now c.args.self.now (after c.args.change.now c.args.self.now.rows) (g.met.D.Disk.only_now c.args.disk.now) kept

pub returns-in-Some-Unknown-clause-any_moment : goal.returns-in-Some-Unknown-clause-any_moment
returns-in-Some-Unknown-clause-any_moment g c = λ kept. still_moment g.D.Disk c.args.disk.now c.args.self.now (after c.args.change.now c.args.self.now.rows) (g.met.D.Disk.only_now c.args.disk.now) kept

pub returns-in-Err-clause-any_moment : goal.returns-in-Err-clause-any_moment
returns-in-Err-clause-any_moment g c = λ kept. still_moment g.D.Disk c.args.disk.now c.args.self.now (after c.args.change.now c.args.self.now.rows) (g.met.D.Disk.only_now c.args.disk.now) kept

pub write-requires-clause-sound : goal.write-requires-clause-sound
write-requires-clause-sound g c =
    let unspent : is_spent c.args.self.now ≡ false = ap (λ (s : StoreTerm). s.log.spent) (sym c.self.view_is) ∙ sym c.is_spent.ensures ∙ c.if-is_spent.false in
    let kept = is_kept g.D.Disk c.args.disk.now c.args.self.now c.requires.ready unspent in
    let same : c.deref-2.result.now ≡ c.args.self.now.rows = c.deref-2.ensures.value ∙ c.in-Ok.ensures.rows ∙ ap (λ (s : StoreTerm). s.rows) c.self.view_is in
    subst AreRows (sym same) (sound_replayed kept.bodies [] c.args.self.now.rows no_rows kept.leads)

pub invariant_of-self-2 : goal.invariant_of-self-2
invariant_of-self-2 g c =
    let rows = c.self.inside.rows.items in
    let placed = c.place.ensures ∙ ap (λ (l : List Row). with_row c.in-Ok.row l) c.in-Ok.ensures.rows in (
      omega (arith, c.self.invariant.0, c.spell.ensures.capacity, c.in_default.ensures.capacity),
      subst AreApart (sym placed) (apart_placed c.in-Ok.row rows c.self.invariant.1),
    )

pub returns-clause-answer : goal.returns-clause-answer
returns-clause-answer g c =
    let change = c.args.change.now in
    let rows = c.self.inside.rows.items in
    let unspent : is_spent c.args.self.now ≡ false = ap (λ (s : StoreTerm). s.log.spent) (sym c.self.view_is) ∙ sym c.is_spent.ensures ∙ c.if-is_spent.false in
    let accepted : refusal change c.args.self.now.rows ≡ None =
    sym (c.in-None.ensures ∙ ap (λ (l : List Row). refusal change l) (c.deref.ensures.value ∙ ap (λ (s : StoreTerm). s.rows) c.self.view_is)) in
    let store : StoreTerm = record { log = c.self.inside.log; rows = c.deref-2.result.now } in
    let same : store ≡ c.args.self.now = ap (λ (l : List Row). record { log = c.self.inside.log; rows = l }) (c.deref-2.ensures.value ∙ c.in-Ok.ensures.rows) ∙ c.self.view_is in (
      record {
        unspent = unspent;
        accepted = accepted;
        capacity = subst (λ (s : StoreTerm). HasCapacity s change ⊎ (whole_need (after change s.rows) ≤ bank_capacity)) same c.in_default.ensures.answer;
      },
      c.place.ensures ∙ ap (λ (l : List Row). with_row c.in-Ok.row l) c.in-Ok.ensures.rows ∙ placed_after change rows c.in-Ok.row c.in-Ok.ensures.row ∙ ap (λ (s : StoreTerm). after change s.rows) c.self.view_is,
      c.in_default.ensures.kept.unspent,
    )

pub returns-clause-ready : goal.returns-clause-ready
returns-clause-ready g c =
    let change = c.args.change.now in
    let rows = c.self.inside.rows.items in
    let placed = c.place.ensures ∙ ap (λ (l : List Row). with_row c.in-Ok.row l) c.in-Ok.ensures.rows ∙ placed_after change rows c.in-Ok.row c.in-Ok.ensures.row in
    let same : after change c.deref-2.result.now ≡ c.place.new.rows.items = ap (λ (l : List Row). after change l) (c.deref-2.ensures.value ∙ c.in-Ok.ensures.rows) ∙ sym placed in
    inr (subst (λ (l : List Row). IsKept g.D.Disk c.write.new.disk (record { log = c.write.new.log; rows = l })) same c.in_default.ensures.kept)

-- where nothing is written, the live bank stays
pub returns-then-is_spent-clause-cell : goal.returns-then-is_spent-clause-cell
returns-then-is_spent-clause-cell g c = λ capacity. still_cell g.D.Disk c.args.disk.now c.args.self.now.log _ c.args.change.now Spent (g.met.D.Disk.only_now c.args.disk.now)

pub returns-in-Some-TooMany-clause-cell : goal.returns-in-Some-TooMany-clause-cell
returns-in-Some-TooMany-clause-cell g c = λ capacity. still_cell g.D.Disk c.args.disk.now c.args.self.now.log _ c.args.change.now Agents (g.met.D.Disk.only_now c.args.disk.now)

pub returns-in-Some-Unknown-clause-cell : goal.returns-in-Some-Unknown-clause-cell
returns-in-Some-Unknown-clause-cell g c = λ capacity. still_cell g.D.Disk c.args.disk.now c.args.self.now.log _ c.args.change.now NoAgent (g.met.D.Disk.only_now c.args.disk.now)

pub returns-in-Err-clause-cell : goal.returns-in-Err-clause-cell
returns-in-Err-clause-cell g c = λ capacity. still_cell g.D.Disk c.args.disk.now c.args.self.now.log _ c.args.change.now Memory (g.met.D.Disk.only_now c.args.disk.now)

pub returns-clause-cell : goal.returns-clause-cell
returns-clause-cell g c = λ capacity.
    let change = c.args.change.now in
    let same : c.self.inside.log ≡ c.args.self.now.log = ap (λ (s : StoreTerm). s.log) c.self.view_is in
    subst (λ (l : LogTerm). AddsCell {T = Unit {0}} g.D.Disk c.args.disk.now c.write.new.disk l change (Ok tt) c.write.new.log) same
    (c.in_default.ensures.cell (subst (λ (l : LogTerm). need_of (body_of change) ≤ capacity_in l) (sym same) capacity))

pub returns-in-Err-write-clause-cell : goal.returns-in-Err-write-clause-cell
returns-in-Err-write-clause-cell g c = λ capacity.
    let change = c.args.change.now in
    let same : c.self.inside.log ≡ c.args.self.now.log = ap (λ (s : StoreTerm). s.log) c.self.view_is in
    subst (λ (l : LogTerm). AddsCell {T = Unit {0}} g.D.Disk c.args.disk.now c.write.new.disk l change (Err c.in-Err-write.error) c.write.new.log) same
    (c.in-Err-write.ensures.cell (subst (λ (l : LogTerm). need_of (body_of change) ≤ capacity_in l) (sym same) capacity))
