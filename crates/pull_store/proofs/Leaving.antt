-- The rows that are left when agents leave, and the bytes that rows take in a bank.
use Rattle.std.proofs.Common.{◌≡◌, ◌∙◌, inl, inr, ◌==◌, ℕ, zero, suc, ◌+◌, ◌-◌, ◌<◌, ◌≤◌, Bool, true, false, if◌then◌else◌, List, [], ◌∷◌, ◌++◌, length, take, drop, get_or, Option, Some, None, refl, sym, ap, ap₂, subst, arith}
use Rattle.std.specs.Prelude.{Contains, slice_index_or}
use Rattle.std.specs.List.{AllByRecursion, list_any}
use Rattle.std.proofs.lemmas.Bool.{eq-eqb, eqb-true}
use Rattle.std.proofs.lemmas.List.{append-nil, take_all}
use Rattle.std.proofs.lemmas.Map.Views.{Contains-from_any}
use Rattle.dsc_outside.specs.declared.disk.Disk.{Ghosts}
use Rattle.gate_log.specs.Text.{Gives, fresh, text, cells, need_of}
use Rattle.gate_log.proofs.Leading.{kept_stands}
use Rattle.gate_log.proofs.OneByOne.{cells_both}
use Rattle.pull_messages.specs.declared.registration.Registration.{Registration}
use Rattle.pull_store.specs.declared.row.Row.{Row}
use Rattle.pull_store.specs.declared.row.StoredReport.{StoredReport}
use Rattle.pull_store.specs.declared.change.Change.{Change}
use Rattle.pull_store.specs.declared.change.Change.TheVariants.{Register, Report}
use Rattle.pull_store.specs.Bodies.{body_of, bodies_of_reports, bodies_of_row, bodies_of_rows}
use Rattle.pull_store.specs.Rows.{row_of, after, after_registration, after_report, has_job, replaced, with_report, is_of, rows_without}
use Rattle.pull_store.specs.Sound.{IsRow, AreApart, AreRows, rows_of}
use Rattle.pull_store.specs.Stands.{Leads, Replays, Stands, pull_shape}
use Rattle.pull_store.specs.Store.{StoreTerm, IsKept, whole_need, bank_capacity}
use Rattle.pull_store.specs.Whole.{rows_left}
use Rattle.pull_store.specs.declared.limits.TheConstants.{MAX_REPORTS}
use Rattle.pull_store.proofs.Building.{rows_read, tells}
use Rattle.pull_store.proofs.Placing.{newest_push}
use Rattle.pull_store.proofs.Sizes.{length-cell, length-register, length-report, report_cell}
use Rattle.pull_store.proofs.SoundSteps.{times_more}

-- ---- the rows that are left

pub left_none : (rows : List Row) → rows_without [] rows ≡ rows
left_none [] = refl
left_none (row ∷ rows) = ap (λ (l : List Row). row ∷ l) (left_none rows)

-- the rows alone, with none after them
pub left_alone : (agents : List ℕ) (rows : List Row) → rows_left agents rows None [] ≡ rows_without agents rows
left_alone agents rows = ap (λ (l : List Row). rows_without agents l) (append-nil rows)

-- where no row is of the agents
pub left_all : (agents : List ℕ) (rows : List Row) → list_any (is_of agents) rows ≡ false → rows_without agents rows ≡ rows
left_all agents [] none = refl
left_all agents (row ∷ rows) none = elim (tells (is_of agents row)) [
  | inl same ↦ absurd (let none' : true ≡ false = rw same at none in cc none')
  | inr other ↦ rw other (ap (λ (l : List Row). row ∷ l) (left_all agents rows (rw other at none)))
]

pub left_few : (agents : List ℕ) (rows : List Row) → length (rows_without agents rows) ≤ length rows
left_few agents [] = omega arith
left_few agents (row ∷ rows) = elim (tells (is_of agents row)) [
  | inl same ↦ rw same (omega (arith, left_few agents rows))
  | inr other ↦ rw other (omega (arith, left_few agents rows))
]

-- where a row is
pub left_fewer : (agents : List ℕ) (rows : List Row) → list_any (is_of agents) rows ≡ true → length (rows_without agents rows) < length rows
left_fewer agents [] some = absurd (cc some)
left_fewer agents (row ∷ rows) some = elim (tells (is_of agents row)) [
  | inl same ↦ rw same (omega (arith, left_few agents rows))
  | inr other ↦ rw other (omega (arith, left_fewer agents rows (rw other at some)))
]

both_if : (b : Bool) (m n : ℕ) → m ≤ n → (if b then suc m else m) ≤ (if b then suc n else n)
both_if true m n le = omega (arith, le)
both_if false m n le = le

rows_fewer : (agents : List ℕ) (agent : ℕ) (rows : List Row) → rows_of agent (rows_without agents rows) ≤ rows_of agent rows
rows_fewer agents agent [] = omega arith
rows_fewer agents agent (row ∷ rows) = elim (tells (is_of agents row)) [
  | inl same ↦ rw same (omega (arith, rows_fewer agents agent rows, times_more (row.agent == agent) (rows_of agent rows)))
  | inr other ↦ rw other (both_if (row.agent == agent) (rows_of agent (rows_without agents rows)) (rows_of agent rows) (rows_fewer agents agent rows))
]

pub apart_left : (agents : List ℕ) (rows : List Row) → AreApart rows → AreApart (rows_without agents rows)
apart_left agents rows apart = λ agent. omega (arith, apart agent, rows_fewer agents agent rows)

pub each_left : (agents : List ℕ) (rows : List Row) → AllByRecursion IsRow rows → AllByRecursion IsRow (rows_without agents rows)
each_left agents [] each = tt
each_left agents (row ∷ rows) each = elim (tells (is_of agents row)) [
  | inl same ↦ rw same (each_left agents rows each.1)
  | inr other ↦ rw other (each.0, each_left agents rows each.1)
]

pub sound_left : (agents : List ℕ) (rows : List Row) → AreRows rows → AreRows (rows_without agents rows)
sound_left agents rows are = record {
  few = omega (arith, are.few, left_few agents rows);
  apart = apart_left agents rows are.apart;
  each = each_left agents rows are.each;
}

-- the rows that are left, written into an empty bank
pub left_anew : (agents : List ℕ) (rows : List Row) (bodies : List (List ℕ)) → bodies ≡ bodies_of_rows (rows_left agents rows None []) → AreRows rows → Leads bodies (rows_without agents rows)
left_anew agents rows bodies is are =
    subst (λ (all : List (List ℕ)). Leads all (rows_without agents rows)) (sym (is ∙ ap bodies_of_rows (left_alone agents rows))) (rows_read (rows_without agents rows) (sound_left agents rows are))

-- ---- the rows of the agents

named_at : (agents : List ℕ) (agent k : ℕ) → k < length agents → slice_index_or agents k agent ≡ agent → list_any (λ (a : ℕ). a == agent) agents ≡ true
named_at [] agent k less is = absurd (omega (arith, less))
named_at (a ∷ agents) agent zero less is = rw (eq-eqb a agent is) refl
named_at (a ∷ agents) agent (suc k) less is = elim (tells (a == agent)) [
  | inl same ↦ rw same refl
  | inr other ↦ rw (other, named_at agents agent k (omega (arith, less)) is) refl
]

pub named_leave : (agents : List ℕ) (rows : List Row) (agent : ℕ) → Contains agents agent → row_of agent (rows_without agents rows) ≡ None
named_leave agents [] agent named = refl
named_leave agents (row ∷ rows) agent named = elim (tells (is_of agents row)) [
  | inl same ↦ rw same (named_leave agents rows agent named)
  | inr other ↦ elim (tells (row.agent == agent)) [
    | inl here ↦
        let isnt : list_any (λ (a : ℕ). a == agent) agents ≡ false = subst (λ (n : ℕ). list_any (λ (a : ℕ). a == n) agents ≡ false) (eqb-true row.agent agent here) other in
        absurd (cc (isnt, named_at agents agent named.0 named.1 named.2))
    | inr away ↦ rw (other, away) (named_leave agents rows agent named)
  ]
]

found_name : (agents : List ℕ) (agent : ℕ) → list_any (λ (a : ℕ). a == agent) agents ≡ true → Contains agents agent
found_name agents agent any = Contains-from_any {eq = λ x y. y == x} (λ x y is. sym (eqb-true y x is)) agent agents any

pub unnamed_stay : (agents : List ℕ) (rows : List Row) (agent : ℕ) → (Contains agents agent → ⊥) → row_of agent (rows_without agents rows) ≡ row_of agent rows
unnamed_stay agents [] agent isnt = refl
unnamed_stay agents (row ∷ rows) agent isnt = elim (tells (row.agent == agent)) [
  | inl here ↦ elim (tells (is_of agents row)) [
    | inl same ↦ absurd (isnt (found_name agents agent (subst (λ (n : ℕ). list_any (λ (a : ℕ). a == n) agents ≡ true) (eqb-true row.agent agent here) same)))
    | inr other ↦ rw (other, here) refl
  ]
  | inr away ↦ elim (tells (is_of agents row)) [
    | inl same ↦ rw (same, away) (unnamed_stay agents rows agent isnt)
    | inr other ↦ rw (other, away) (unnamed_stay agents rows agent isnt)
  ]
]

-- the first of some rows stays, or is left out
pub left_kept : (agents : List ℕ) (rows : List Row) (first : Row) → 1 ≤ length rows → first ≡ get_or rows 0 first → is_of agents first ≡ false
    → bodies_of_rows (rows_without agents rows) ≡ bodies_of_row first ++ bodies_of_rows (rows_without agents (take (length rows - 1) (drop 1 rows)))
left_kept agents [] first some is isnt = absurd (omega (arith, some))
left_kept agents (row ∷ rows) first some is isnt =
    let stays : is_of agents row ≡ false = subst (λ (r : Row). is_of agents r ≡ false) is isnt in
    rw stays (ap₂ (λ (r : Row) (l : List Row). bodies_of_row r ++ bodies_of_rows (rows_without agents l)) (sym is) (sym (take_all (length (row ∷ rows) - 1) rows (omega arith))))

-- the first of some rows, which is left out
pub first_out : (agents : List ℕ) (rows : List Row) (row : Row) (rest : List Row) → rows ≡ row ∷ rest → is_of agents row ≡ true → rows_without agents rows ≡ rows_without agents rest
first_out agents rows row rest is same = rw (is, same) refl

-- ---- the bytes that rows take: what is kept of a body takes no more than it

pub left_cells : (agents : List ℕ) (rows : List Row) → length (cells (bodies_of_rows (rows_without agents rows))) ≤ length (cells (bodies_of_rows rows))
left_cells agents [] = omega arith
left_cells agents (row ∷ rows) = elim (tells (is_of agents row)) [
  | inl same ↦ rw same (omega (arith, left_cells agents rows, cells_both (bodies_of_row row) (bodies_of_rows rows)))
  | inr other ↦ rw other (omega (arith, left_cells agents rows, cells_both (bodies_of_row row) (bodies_of_rows rows), cells_both (bodies_of_row row) (bodies_of_rows (rows_without agents rows))))
]

registration_cells : (agent : ℕ) (registration : Registration) (rows : List Row)
    → length (cells (bodies_of_rows (after_registration agent registration rows))) ≤ length (cells (bodies_of_rows rows)) + need_of (body_of (Register agent registration))
registration_cells agent registration [] = omega (arith, length-cell (body_of (Register agent registration)) [])
registration_cells agent registration (row ∷ rows) = elim (tells (row.agent == agent)) [
  | inl same ↦
      let new : Row = record row { registration = registration } in
      rw same (omega (
        arith,
        cells_both (bodies_of_row row) (bodies_of_rows rows),
        cells_both (bodies_of_row new) (bodies_of_rows rows),
        length-cell (body_of (Register row.agent row.registration)) (bodies_of_reports row.agent row.reports),
        length-cell (body_of (Register row.agent registration)) (bodies_of_reports row.agent row.reports),
        length-register row.agent registration,
        length-register agent registration,
      ))
  | inr other ↦ rw other (omega (
    arith,
    registration_cells agent registration rows,
    cells_both (bodies_of_row row) (bodies_of_rows rows),
    cells_both (bodies_of_row row) (bodies_of_rows (after_registration agent registration rows)),
  ))
]

drop_cells : (agent n : ℕ) (reports : List StoredReport) → length (cells (bodies_of_reports agent (drop n reports))) ≤ length (cells (bodies_of_reports agent reports))
drop_cells agent zero reports = omega arith
drop_cells agent (suc n) [] = omega arith
drop_cells agent (suc n) (r ∷ reports) = omega (arith, drop_cells agent n reports, report_cell agent r.job r.body (bodies_of_reports agent reports))

push_cells : (agent job : ℕ) (body : List ℕ) (reports : List StoredReport)
    → length (cells (bodies_of_reports agent (reports ++ record { job = job; body = body } ∷ []))) ≡ length (cells (bodies_of_reports agent reports)) + (38 + length body)
push_cells agent job body [] = omega (arith, report_cell agent job body [])
push_cells agent job body (r ∷ reports) =
    omega (
      arith,
      push_cells agent job body reports,
      report_cell agent r.job r.body (bodies_of_reports agent reports),
      report_cell agent r.job r.body (bodies_of_reports agent (reports ++ record { job = job; body = body } ∷ [])),
    )

replaced_cells : (agent job : ℕ) (body : List ℕ) (reports : List StoredReport)
    → length (cells (bodies_of_reports agent (replaced job body reports))) ≤ length (cells (bodies_of_reports agent reports)) + (38 + length body)
replaced_cells agent job body [] = omega arith
replaced_cells agent job body (r ∷ reports) = elim (tells (r.job == job)) [
  | inl same ↦ rw same (omega (arith, report_cell agent job body (bodies_of_reports agent reports), report_cell agent r.job r.body (bodies_of_reports agent reports)))
  | inr other ↦ rw other (omega (
    arith,
    replaced_cells agent job body reports,
    report_cell agent r.job r.body (bodies_of_reports agent reports),
    report_cell agent r.job r.body (bodies_of_reports agent (replaced job body reports)),
  ))
]

with_cells : (agent job : ℕ) (body : List ℕ) (reports : List StoredReport)
    → length (cells (bodies_of_reports agent (with_report job body reports))) ≤ length (cells (bodies_of_reports agent reports)) + (38 + length body)
with_cells agent job body reports = elim (tells (has_job job reports)) [
  | inl is ↦ rw is (replaced_cells agent job body reports)
  | inr isnt ↦ rw (isnt, newest_push reports (record { job = job; body = body }))
      (omega (arith, push_cells agent job body (drop (length reports - (MAX_REPORTS - 1)) reports), drop_cells agent (length reports - (MAX_REPORTS - 1)) reports))
]

report_cells : (agent job : ℕ) (body : List ℕ) (rows : List Row)
    → length (cells (bodies_of_rows (after_report agent job body rows))) ≤ length (cells (bodies_of_rows rows)) + need_of (body_of (Report agent job body))
report_cells agent job body [] = omega arith
report_cells agent job body (row ∷ rows) = elim (tells (row.agent == agent)) [
  | inl same ↦
      let new : Row = record row { reports = with_report job body row.reports } in
      rw same (omega (
        arith,
        cells_both (bodies_of_row row) (bodies_of_rows rows),
        cells_both (bodies_of_row new) (bodies_of_rows rows),
        length-cell (body_of (Register row.agent row.registration)) (bodies_of_reports row.agent row.reports),
        length-cell (body_of (Register row.agent row.registration)) (bodies_of_reports row.agent new.reports),
        with_cells row.agent job body row.reports,
        length-report agent job body,
      ))
  | inr other ↦ rw other (omega (
    arith,
    report_cells agent job body rows,
    cells_both (bodies_of_row row) (bodies_of_rows rows),
    cells_both (bodies_of_row row) (bodies_of_rows (after_report agent job body rows)),
  ))
]

change_cells : (change : Change) (rows : List Row) → length (cells (bodies_of_rows (after change rows))) ≤ length (cells (bodies_of_rows rows)) + need_of (body_of change)
change_cells (Register agent registration) rows = registration_cells agent registration rows
change_cells (Report agent job body) rows = report_cells agent job body rows

replayed_cells : (bodies : List (List ℕ)) (old new : List Row) → Replays old bodies new → length (cells (bodies_of_rows new)) ≤ length (cells (bodies_of_rows old)) + length (cells bodies)
replayed_cells [] old new replays = omega (arith, ap (λ (l : List Row). length (cells (bodies_of_rows l))) replays)
replayed_cells (body ∷ bodies) old new replays =
    let takes = replays.1 in
    omega (
      arith,
      replayed_cells bodies replays.0 new replays.2,
      change_cells takes.change old,
      ap (λ (l : List Row). length (cells (bodies_of_rows l))) takes.changes.is,
      length-cell body bodies,
      ap length takes.spells,
    )

-- ---- rows that an image stands for fit a bank

given_fit : (image : List ℕ) (bodies : List (List ℕ)) → Gives pull_shape image bodies → length (cells bodies) + 1 ≤ bank_capacity
given_fit image [] (fresh short) = omega arith
given_fit image bodies (text second closed bodies' long is) = is.bank.cells.within

pub left_fit : (image : List ℕ) (rows : List Row) (agents : List ℕ) → Stands image rows → whole_need (rows_without agents rows) ≤ bank_capacity
left_fit image rows agents stands =
    omega (arith, left_cells agents rows, replayed_cells stands.bodies [] rows stands.leads, given_fit image stands.bodies stands.gives)

-- so a disk on which the rows that are left do not fit one shows nothing
module _ {D : Type 0} (d : Ghosts D) (disk : D) (store : StoreTerm) (agents : List ℕ) (honest : (held : List ℕ) → d.shown disk ≡ Some held → d.images disk held) where
  shown_fits : (held : List ℕ) → IsKept d disk store → d.images disk held → whole_need (rows_without agents store.rows) ≤ bank_capacity
  shown_fits held kept there =
      let s = kept_stands pull_shape Leads d disk store.log store.rows kept held there in
      subst (λ (rows : List Row). whole_need (rows_without agents rows) ≤ bank_capacity) s.has (left_fit held s.value agents s.stands)

  hidden_of : (shown : Option (List ℕ)) → d.shown disk ≡ shown → IsKept d disk store → bank_capacity < whole_need (rows_without agents store.rows) → d.shown disk ≡ None
  hidden_of None is kept more = is
  hidden_of (Some held) is kept more = absurd (omega (arith, more, shown_fits held kept (honest held is)))

  pub is_hidden : IsKept d disk store → bank_capacity < whole_need (rows_without agents store.rows) → d.shown disk ≡ None
  is_hidden kept more = hidden_of (d.shown disk) refl kept more
