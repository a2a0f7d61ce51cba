use Rattle.std.proofs.Common.{◌≡◌, ◌∙◌, [], List, true, false, length, sym, ap, subst, arith}
use Rattle.std.specs.List.{list_any}
use Rattle.pull_store.specs.declared.row.Row.{Row}
use Rattle.pull_store.specs.Rows.{is_of, rows_without}
use Rattle.pull_store.specs.Sound.{AreApart, AreRows}
use Rattle.pull_store.specs.Store.{StoreTerm, is_spent}
use Rattle.pull_store.proofs.Committed.{is_kept, still_moment}
use Rattle.pull_store.proofs.Leaving.{apart_left, left_all, left_fewer}
use Rattle.pull_store.proofs.SoundSteps.{no_rows, sound_replayed}
use Rattle.pull_store.proofs.store.PullStore.forget.Goals as goal

pub returns-then-not-has_any_of-clause-answer : goal.returns-then-not-has_any_of-clause-answer
returns-then-not-has_any_of-clause-answer g c =
    let unspent : is_spent c.args.self.now ≡ false = sym c.is_spent.ensures ∙ c.if-is_spent.false in
    let same : c.deref.result.now ≡ c.args.self.now.rows = c.deref.ensures.value ∙ ap (λ (s : StoreTerm). s.rows) c.self.view_is in
    let none : list_any (is_of c.args.agents.now) c.args.self.now.rows ≡ false = ap (λ (l : List Row). list_any (is_of c.args.agents.now) l) (sym same) ∙ sym c.has_any_of.ensures ∙ c.if-not-has_any_of.true in
    (unspent, sym (left_all c.args.agents.now c.args.self.now.rows none), unspent)

pub returns-then-not-has_any_of-clause-any_moment : goal.returns-then-not-has_any_of-clause-any_moment
returns-then-not-has_any_of-clause-any_moment g c = λ kept.
    still_moment g.D.Disk c.args.disk.now c.args.self.now (rows_without c.args.agents.now c.args.self.now.rows) (g.met.D.Disk.only_now c.args.disk.now) kept

pub write_without-requires-clause-sound : goal.write_without-requires-clause-sound
write_without-requires-clause-sound g c =
    let unspent : is_spent c.args.self.now ≡ false = sym c.is_spent.ensures ∙ c.if-is_spent.false in
    let kept = is_kept g.D.Disk c.args.disk.now c.args.self.now c.requires unspent in
    let same : c.deref-2.result.now ≡ c.args.self.now.rows = c.deref-2.ensures.value ∙ ap (λ (s : StoreTerm). s.rows) c.self.view_is in
    subst AreRows (sym same) (sound_replayed kept.bodies [] c.args.self.now.rows no_rows kept.leads)

-- a row is of one of the agents
pub returns-in-Err-clause-untouched : goal.returns-in-Err-clause-untouched
returns-in-Err-clause-untouched g c = λ all.
    let same : c.deref.result.now ≡ c.args.self.now.rows = c.deref.ensures.value ∙ ap (λ (s : StoreTerm). s.rows) c.self.view_is in
    let some : list_any (is_of c.args.agents.now) c.args.self.now.rows ≡ true = ap (λ (l : List Row). list_any (is_of c.args.agents.now) l) (sym same) ∙ sym c.has_any_of.ensures ∙ c.if-not-has_any_of.false in
    absurd (omega (arith, ap length all, left_fewer c.args.agents.now c.args.self.now.rows some))

pub invariant_of-self-2 : goal.invariant_of-self-2
invariant_of-self-2 g c =
    let rows = c.self.inside.rows.items in (
      omega (arith, c.self.invariant.0, c.in_default.ensures.capacity),
      subst AreApart (sym c.leave_out.ensures) (apart_left c.args.agents.now rows c.self.invariant.1),
    )

pub returns-clause-untouched : goal.returns-clause-untouched
returns-clause-untouched g c = λ all.
    let same : c.deref.result.now ≡ c.args.self.now.rows = c.deref.ensures.value ∙ ap (λ (s : StoreTerm). s.rows) c.self.view_is in
    let some : list_any (is_of c.args.agents.now) c.args.self.now.rows ≡ true = ap (λ (l : List Row). list_any (is_of c.args.agents.now) l) (sym same) ∙ sym c.has_any_of.ensures ∙ c.if-not-has_any_of.false in
    absurd (omega (arith, ap length all, left_fewer c.args.agents.now c.args.self.now.rows some))
