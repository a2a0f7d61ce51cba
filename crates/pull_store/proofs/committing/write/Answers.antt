use Rattle.std.proofs.Common.{◌≡◌, ◌⊎◌, inl, inr, rules, ◌+◌, ◌<◌, ◌≤◌, ◌∙◌, ◌++◌, [], ◌∷◌, ℕ, Bool, true, false, List, length, refl, sym, ap, subst, arith}
use Rattle.std.proofs.lemmas.Bool.{cases_lt}
use Rattle.gate_log.specs.Log.{capacity_in}
use Rattle.gate_log.specs.Text.{AllFit, cells}
use Rattle.pull_store.specs.Rows.{after, rows_without}
use Rattle.pull_store.specs.Bodies.{bodies_of_rows}
use Rattle.pull_store.specs.Stands.{Leads}
use Rattle.pull_store.specs.Store.{HasCapacity, bank_capacity, whole_need}
use Rattle.pull_store.specs.declared.limits.TheConstants.{MAX_BODY}
use Rattle.pull_store.proofs.Sizes.{rows_fit}
use Rattle.pull_store.proofs.SoundSteps.{is_row}
use Rattle.pull_store.proofs.Committed.{appended, are_parts, each_part, needs, rewritten, still_moment}
use Rattle.pull_store.proofs.committing.write.Goals as goal

-- a test that is true wherever one number is at most another, and is false
lt_of : (b : Bool) (m n : ℕ) → (m ≤ n → b ≡ true) → b ≡ false → n < m
lt_of b m n yes_ no_ = elim (cases_lt n m) [
  | inl less ↦ less
  | inr le ↦ absurd (cc (yes_ le, no_))
]

-- ---- the change is added

pub returns-in_err-add-clause-any_moment : goal.returns-in_err-add-clause-any_moment
returns-in_err-add-clause-any_moment g c =
    let rows = c.args.rows.now in
    let change = c.args.change.now in
    c.add.ensures.any_moment rows (after change rows) c.requires.kept (appended rows change c.requires.in_size c.requires.accepted c.deref.result.now (c.deref.ensures.value ∙ c.requires.spelled))

pub returns-then-has_room-clause-any_moment : goal.returns-then-has_room-clause-any_moment
returns-then-has_room-clause-any_moment g c =
    let rows = c.args.rows.now in
    let change = c.args.change.now in
    c.add.ensures.any_moment rows (after change rows) c.requires.kept (appended rows change c.requires.in_size c.requires.accepted c.deref.result.now (c.deref.ensures.value ∙ c.requires.spelled))

pub returns-then-has_room-clause-kept : goal.returns-then-has_room-clause-kept
returns-then-has_room-clause-kept g c =
    let rows = c.args.rows.now in
    let change = c.args.change.now in
    c.in_ok-add.ensures.kept rows (after change rows) c.requires.kept (appended rows change c.requires.in_size c.requires.accepted c.deref.result.now (c.deref.ensures.value ∙ c.requires.spelled))

-- ---- the rows are written anew

pub need_of_row-requires-clause-row : goal.need_of_row-requires-clause-row
need_of_row-requires-clause-row g c = is_row c.args.change.now c.args.rows.now c.args.row.now c.requires.sound c.requires.in_size c.requires.row

pub returns-then-need-gt-BANK-clause-answer : goal.returns-then-need-gt-BANK-clause-answer
returns-then-need-gt-BANK-clause-answer g c =
    let sum = needs c.args.rows.now c.args.change.now c.requires.in_size c.requires.accepted c.args.row.now c.requires.sound c.requires.row c.around.result.0.now c.around.result.1.now (c.around.ensures.parts c.args.row.now refl) in (
      record {
        cell = omega (arith, lt_of c.has_room.result (5 + c.len.result) (capacity_in c.args.log.now) c.has_room.ensures.1 c.if-has_room.false, c.len.ensures, ap length c.requires.spelled);
        needs = omega (arith, sum, c.need_of_rows.ensures.need, c.need_of_row.ensures.need, c.need_of_rows-2.ensures.need);
        bank = refl;
        rows = omega (arith, c.if-need-gt-BANK.true);
      },
      refl,
      refl,
    )

pub returns-then-need-gt-BANK-clause-any_moment : goal.returns-then-need-gt-BANK-clause-any_moment
returns-then-need-gt-BANK-clause-any_moment g c =
    still_moment g.D.Disk c.args.disk.now (record { log = c.args.log.now; rows = c.args.rows.now }) (after c.args.change.now c.args.rows.now) (g.met.D.Disk.only_now c.args.disk.now) c.requires.kept

pub of-whole-requires : goal.of-whole-requires
of-whole-requires g c = record {
  each = each_part c.args.rows.now c.args.change.now c.requires.in_size c.requires.accepted c.args.row.now c.requires.sound c.requires.row c.around.result.0.now c.around.result.1.now (c.around.ensures.parts c.args.row.now refl);
}

pub rewrite-requires-clause-size : goal.rewrite-requires-clause-size
rewrite-requires-clause-size g c =
    let each = each_part c.args.rows.now c.args.change.now c.requires.in_size c.requires.accepted c.args.row.now c.requires.sound c.requires.row c.around.result.0.now c.around.result.1.now (c.around.ensures.parts c.args.row.now refl) in
    subst (λ (bodies : List (List ℕ)). AllFit MAX_BODY bodies) (sym c.of-whole.ensures.rest) (rows_fit (rows_without [] (c.around.result.0.now ++ c.args.row.now ∷ c.around.result.1.now)) each)

pub rewrite-requires-clause-capacity : goal.rewrite-requires-clause-capacity
rewrite-requires-clause-capacity g c =
    let front = c.around.result.0.now in
    let rest = c.around.result.1.now in
    let row = c.args.row.now in
    let sum = needs c.args.rows.now c.args.change.now c.requires.in_size c.requires.accepted row c.requires.sound c.requires.row front rest (c.around.ensures.parts row refl) in
    let parts = are_parts c.args.rows.now c.args.change.now c.requires.in_size c.requires.accepted row c.requires.sound c.requires.row front rest (c.around.ensures.parts row refl) in
    omega (
      arith,
      sum,
      ap (λ (l : List (List ℕ)). length (cells l)) c.of-whole.ensures.rest,
      ap (λ rows. length (cells (bodies_of_rows rows))) parts,
      c.need_of_rows.ensures.need,
      c.need_of_row.ensures.need,
      c.need_of_rows-2.ensures.need,
      c.if-need-gt-BANK.false,
    )

pub returns-in_err-rewrite-clause-answer : goal.returns-in_err-rewrite-clause-answer
returns-in_err-rewrite-clause-answer g c =
    let sum = needs c.args.rows.now c.args.change.now c.requires.in_size c.requires.accepted c.args.row.now c.requires.sound c.requires.row c.around.result.0.now c.around.result.1.now (c.around.ensures.parts c.args.row.now refl) in
    let fits : HasCapacity (record { log = c.args.log.now; rows = c.args.rows.now }) c.args.change.now ⊎ (whole_need (after c.args.change.now c.args.rows.now) ≤ bank_capacity) =
    inr (omega (arith, sum, c.need_of_rows.ensures.need, c.need_of_row.ensures.need, c.need_of_rows-2.ensures.need, c.if-need-gt-BANK.false)) in
    search rules

pub returns-clause-answer : goal.returns-clause-answer
returns-clause-answer g c =
    let sum = needs c.args.rows.now c.args.change.now c.requires.in_size c.requires.accepted c.args.row.now c.requires.sound c.requires.row c.around.result.0.now c.around.result.1.now (c.around.ensures.parts c.args.row.now refl) in
    inr (omega (arith, sum, c.need_of_rows.ensures.need, c.need_of_row.ensures.need, c.need_of_rows-2.ensures.need, c.if-need-gt-BANK.false))

pub returns-in_err-rewrite-clause-any_moment : goal.returns-in_err-rewrite-clause-any_moment
returns-in_err-rewrite-clause-any_moment g c =
    let rows = c.args.rows.now in
    let change = c.args.change.now in
    let anew = rewritten rows change c.requires.in_size c.requires.accepted c.args.row.now c.requires.sound c.requires.row c.around.result.0.now c.around.result.1.now (c.around.ensures.parts c.args.row.now refl) in
    c.rewrite.ensures.any_moment rows (after change rows) c.requires.kept (subst (λ (bodies : List (List ℕ)). Leads bodies (after change rows)) (sym c.of-whole.ensures.rest) anew)

pub returns-clause-any_moment : goal.returns-clause-any_moment
returns-clause-any_moment g c =
    let rows = c.args.rows.now in
    let change = c.args.change.now in
    let anew = rewritten rows change c.requires.in_size c.requires.accepted c.args.row.now c.requires.sound c.requires.row c.around.result.0.now c.around.result.1.now (c.around.ensures.parts c.args.row.now refl) in
    c.rewrite.ensures.any_moment rows (after change rows) c.requires.kept (subst (λ (bodies : List (List ℕ)). Leads bodies (after change rows)) (sym c.of-whole.ensures.rest) anew)

pub returns-clause-kept : goal.returns-clause-kept
returns-clause-kept g c =
    let rows = c.args.rows.now in
    let change = c.args.change.now in
    let anew = rewritten rows change c.requires.in_size c.requires.accepted c.args.row.now c.requires.sound c.requires.row c.around.result.0.now c.around.result.1.now (c.around.ensures.parts c.args.row.now refl) in
    c.in_ok-rewrite.ensures.kept rows (after change rows) c.requires.kept (subst (λ (bodies : List (List ℕ)). Leads bodies (after change rows)) (sym c.of-whole.ensures.rest) anew)
