-- A change that is accepted keeps the rows sound.
use Rattle.std.proofs.Common.{◌≡◌, ◌⊎◌, inl, inr, ◌==◌, ℕ, zero, suc, ◌-◌, ◌≤◌, Bool, true, false, if◌then◌else◌, List, [], ◌∷◌, ◌++◌, length, drop, Option, Some, None, refl, sym, ◌∙◌, ap, subst, arith, length-append, length-drop}
use Rattle.std.specs.Prelude.{nat_le, is_none, ◌&&◌}
use Rattle.std.specs.List.{AllByRecursion}
use Rattle.std.proofs.lemmas.Bool.{eq-eqb, eqb-true}
use Rattle.std.proofs.lemmas.Option.{same_Some}
use Rattle.pull_messages.specs.declared.registration.Registration.{Registration}
use Rattle.pull_store.specs.declared.row.Row.{Row}
use Rattle.pull_store.specs.declared.row.StoredReport.{StoredReport}
use Rattle.pull_store.specs.declared.change.Change.{Change}
use Rattle.pull_store.specs.declared.change.Change.TheVariants.{Register, Report}
use Rattle.pull_store.specs.declared.change.Refusal.TheVariants.{TooMany, Unknown}
use Rattle.pull_store.specs.Rows.{row_of, after_registration, after_report, has_job, replaced, newest, with_report, after, refusal}
use Rattle.pull_store.specs.Sound.{IsReport, IsRow, AreApart, AreOnce, AreRows, IsInSize, times, rows_of}
use Rattle.pull_store.specs.Stands.{Changes, Replays}
use Rattle.pull_store.specs.Steps.{agent_of, with_row, reports_in, Makes}
use Rattle.pull_store.specs.declared.limits.TheConstants.{MAX_REPORTS, MAX_ROWS}
use Rattle.pull_store.proofs.Placing.{newest_push}
use Rattle.pull_store.proofs.Building.{tells, times_append}

-- ---- reports

there : (b : Bool) (n : Bool) → (if b then true else n) ≡ false → (b ≡ false) × (n ≡ false)
there true n isnt = absurd (cc isnt)
there false n isnt = (refl, isnt)

pub none_there : (job : ℕ) (xs : List StoredReport) → has_job job xs ≡ false → times job xs ≡ 0
none_there job [] isnt = refl
none_there job (r ∷ xs) isnt =
    let no = there (r.job == job) (has_job job xs) isnt in
    rw (no.0) (none_there job xs no.1)

times_replaced : (j job : ℕ) (body : List ℕ) (reports : List StoredReport) → times j (replaced job body reports) ≡ times j reports
times_replaced j job body [] = refl
times_replaced j job body (r ∷ reports) = elim (tells (r.job == job)) [
  | inl same ↦ rw (same, eqb-true r.job job same) refl
  | inr other ↦ rw (other, times_replaced j job body reports) refl
]

length_replaced : (job : ℕ) (body : List ℕ) (reports : List StoredReport) → length (replaced job body reports) ≡ length reports
length_replaced job body [] = refl
length_replaced job body (r ∷ reports) = elim (tells (r.job == job)) [
  | inl same ↦ rw same refl
  | inr other ↦ rw other (omega (arith, length_replaced job body reports))
]

pub times_more : (b : Bool) (n : ℕ) → n ≤ (if b then suc n else n)
times_more true n = omega arith
times_more false n = omega arith

pub times_drop : (j n : ℕ) (xs : List StoredReport) → times j (drop n xs) ≤ times j xs
times_drop j zero xs = omega arith
times_drop j (suc n) [] = omega arith
times_drop j (suc n) (r ∷ xs) = omega (arith, times_drop j n xs, times_more (r.job == j) (times j xs))

times_one : (j : ℕ) (r : StoredReport) → times j (r ∷ []) ≤ 1
times_one j r = elim (tells (r.job == j)) [ inl same ↦ rw same (omega arith) | inr other ↦ rw other (omega arith) ]

times_others : (j : ℕ) (r : StoredReport) → (r.job == j) ≡ false → times j (r ∷ []) ≡ 0
times_others j r isnt = rw isnt refl

once_push : (job : ℕ) (body : List ℕ) (reports : List StoredReport) → AreOnce reports → has_job job reports ≡ false → AreOnce (newest (reports ++ record { job = job; body = body } ∷ []))
once_push job body reports are isnt =
    let r : StoredReport = record { job = job; body = body } in
    let kept = drop (length reports - (MAX_REPORTS - 1)) reports in
    subst (λ (l : List StoredReport). AreOnce l) (sym (newest_push reports r)) (record {
      few = omega (arith, length-append kept (r ∷ []), length-drop (length reports - (MAX_REPORTS - 1)) reports, are.few);
      once = λ j. elim (tells (job == j)) [
        | inl same ↦ omega (
          arith,
          times_append j kept (r ∷ []),
          times_one j r,
          times_drop j (length reports - (MAX_REPORTS - 1)) reports,
          subst (λ (n : ℕ). times n reports ≡ 0) (eqb-true job j same) (none_there job reports isnt),
        )
        | inr other ↦ omega (arith, times_append j kept (r ∷ []), times_others j r other, times_drop j (length reports - (MAX_REPORTS - 1)) reports, are.once j)
      ];
    })

pub once_with : (job : ℕ) (body : List ℕ) (reports : List StoredReport) → AreOnce reports → AreOnce (with_report job body reports)
once_with job body reports are = elim (tells (has_job job reports)) [
  | inl is ↦ rw is (record { few = omega (arith, length_replaced job body reports, are.few); once = λ j. omega (arith, times_replaced j job body reports, are.once j) })
  | inr isnt ↦ rw isnt (once_push job body reports are isnt)
]

all_drop : (n : ℕ) (xs : List StoredReport) → AllByRecursion IsReport xs → AllByRecursion IsReport (drop n xs)
all_drop zero xs all = all
all_drop (suc n) [] all = all
all_drop (suc n) (r ∷ xs) all = all_drop n xs all.1

all_push : (xs : List StoredReport) (r : StoredReport) → AllByRecursion IsReport xs → IsReport r → AllByRecursion IsReport (xs ++ r ∷ [])
all_push [] r all one = (one, tt)
all_push (x ∷ xs) r all one = (all.0, all_push xs r all.1 one)

all_replaced : (job : ℕ) (body : List ℕ) (reports : List StoredReport) → IsReport (record { job = job; body = body }) → AllByRecursion IsReport reports → AllByRecursion IsReport (replaced job body reports)
all_replaced job body [] one all = tt
all_replaced job body (r ∷ reports) one all = elim (tells (r.job == job)) [
  | inl same ↦ rw same (one, all.1)
  | inr other ↦ rw other (all.0, all_replaced job body reports one all.1)
]

pub short_with : (job : ℕ) (body : List ℕ) (reports : List StoredReport) → IsReport (record { job = job; body = body }) → AllByRecursion IsReport reports → AllByRecursion IsReport (with_report job body reports)
short_with job body reports one all = elim (tells (has_job job reports)) [
  | inl is ↦ rw is (all_replaced job body reports one all)
  | inr isnt ↦ rw isnt (all_drop _ (reports ++ record { job = job; body = body } ∷ []) (all_push reports (record { job = job; body = body }) all one))
]

-- ---- rows

same_row : (a b : Row) → Some a ≡ Some b → a ≡ b
same_row a b is = same_Some a b is

cases_row : (agent : ℕ) (row : Row) (rows : List Row) (o : Option Row) → row_of agent (row ∷ rows) ≡ o → ((row.agent == agent) ≡ true) × (Some row ≡ o) ⊎ (((row.agent == agent) ≡ false) × (row_of agent rows ≡ o))
cases_row agent row rows o is = elim (tells (row.agent == agent)) [
  | inl same ↦ inl (same, subst (λ (b : Bool). (if b then Some row else row_of agent rows) ≡ o) same is)
  | inr other ↦ inr (other, subst (λ (b : Bool). (if b then Some row else row_of agent rows) ≡ o) other is)
]

-- the row of an agent is one of the rows
pub found_row : (agent : ℕ) (rows : List Row) (row : Row) → AllByRecursion IsRow rows → row_of agent rows ≡ Some row → IsRow row × (row.agent ≡ agent)
found_row agent [] row each is = absurd (cc is)
found_row agent (first ∷ rows) row each is = elim (cases_row agent first rows (Some row) is) [
  | inl here ↦ (subst IsRow (same_row first row here.1) each.0, subst (λ (r : Row). r.agent ≡ agent) (same_row first row here.1) (eqb-true first.agent agent here.0))
  | inr later ↦ found_row agent rows row each.1 later.1
]

placed_registration : (agent : ℕ) (registration : Registration) (rows : List Row) (o : Option Row) → row_of agent rows ≡ o
    → with_row (record { agent = agent; registration = registration; reports = reports_in o }) rows ≡ after_registration agent registration rows
placed_registration agent registration [] o is = ap (λ (p : Option Row). record { agent = agent; registration = registration; reports = reports_in p } ∷ []) (sym is)
placed_registration agent registration (row ∷ rows) o is = elim (cases_row agent row rows o is) [
  | inl here ↦ rw (here.0) (ap (λ (p : Option Row). record { agent = agent; registration = registration; reports = reports_in p } ∷ rows) (sym here.1)
      ∙ ap (λ (a : ℕ). record { agent = a; registration = registration; reports = row.reports } ∷ rows) (sym (eqb-true row.agent agent here.0)))
  | inr later ↦ rw (later.0) (ap (λ (l : List Row). row ∷ l) (placed_registration agent registration rows o later.1))
]

placed_report : (agent job : ℕ) (body : List ℕ) (rows : List Row) (before : Row) → row_of agent rows ≡ Some before
    → with_row (record { agent = agent; registration = before.registration; reports = with_report job body before.reports }) rows ≡ after_report agent job body rows
placed_report agent job body [] before is = absurd (cc is)
placed_report agent job body (row ∷ rows) before is = elim (cases_row agent row rows (Some before) is) [
  | inl here ↦ rw (here.0) (ap (λ (r : Row). record { agent = agent; registration = r.registration; reports = with_report job body r.reports } ∷ rows) (sym (same_row row before here.1))
      ∙ ap (λ (a : ℕ). record { agent = a; registration = row.registration; reports = with_report job body row.reports } ∷ rows) (sym (eqb-true row.agent agent here.0)))
  | inr later ↦ rw (later.0) (ap (λ (l : List Row). row ∷ l) (placed_report agent job body rows before later.1))
]

report_made : (agent job : ℕ) (body : List ℕ) (rows : List Row) (row : Row) (o : Option Row) → row_of agent rows ≡ o → Makes (Report agent job body) o row → with_row row rows ≡ after_report agent job body rows
report_made agent job body rows row None is makes = absurd makes
report_made agent job body rows row (Some before) is makes = ap (λ (r : Row). with_row r rows) makes ∙ placed_report agent job body rows before is

-- the agent's row after the change, in its place, makes the rows after the change
pub placed_after : (change : Change) (rows : List Row) (row : Row) → Makes change (row_of (agent_of change) rows) row → with_row row rows ≡ after change rows
placed_after (Register agent registration) rows row makes = ap (λ (r : Row). with_row r rows) makes ∙ placed_registration agent registration rows (row_of agent rows) refl
placed_after (Report agent job body) rows row makes = report_made agent job body rows row (row_of agent rows) refl makes

-- ---- a sound row in its place

rows_one : (agent : ℕ) (row : Row) → rows_of agent (row ∷ []) ≤ 1
rows_one agent row = elim (tells (row.agent == agent)) [ inl same ↦ rw same (omega arith) | inr other ↦ rw other (omega arith) ]

rows_other : (agent : ℕ) (new : Row) (rows : List Row) → (new.agent == agent) ≡ false → rows_of agent (with_row new rows) ≡ rows_of agent rows
rows_other agent new [] isnt = rw isnt refl
rows_other agent new (row ∷ rows) isnt = elim (tells (row.agent == new.agent)) [
  | inl same ↦ rw (same, eqb-true row.agent new.agent same, isnt) refl
  | inr other ↦ rw (other, rows_other agent new rows isnt) refl
]

differ : (a b : ℕ) → (a == b) ≡ false → (b == a) ≡ false
differ a b isnt = elim (tells (b == a)) [
  | inl same ↦ absurd (let is : (a == b) ≡ true = eq-eqb a b (sym (eqb-true b a same)) in cc (is, isnt))
  | inr other ↦ other
]

apart_with : (agent : ℕ) (new : Row) (rows : List Row) → rows_of agent rows ≤ 1 → rows_of agent (with_row new rows) ≤ 1
apart_with agent new [] le = rows_one agent new
apart_with agent new (row ∷ rows) le = elim (tells (row.agent == new.agent)) [
  | inl same ↦ rw (same, sym (eqb-true row.agent new.agent same)) le
  | inr other ↦ elim (tells (row.agent == agent)) [
    | inl here ↦
        let gone : suc (rows_of agent rows) ≤ 1 = subst (λ (b : Bool). (if b then suc (rows_of agent rows) else rows_of agent rows) ≤ 1) here le in
        let is : row.agent ≡ agent = eqb-true row.agent agent here in
        let isnt : (new.agent == agent) ≡ false = subst (λ (a : ℕ). (new.agent == a) ≡ false) is (differ row.agent new.agent other) in
        rw (other, here) (omega (arith, gone, rows_other agent new rows isnt))
    | inr away ↦ rw (other, away) (apart_with agent new rows (subst (λ (b : Bool). (if b then suc (rows_of agent rows) else rows_of agent rows) ≤ 1) away le))
  ]
]

pub apart_placed : (new : Row) (rows : List Row) → AreApart rows → AreApart (with_row new rows)
apart_placed new rows apart = λ agent. apart_with agent new rows (apart agent)

pub length_with : (new : Row) (rows : List Row) → length (with_row new rows) ≡ (if is_none (row_of new.agent rows) then suc (length rows) else length rows)
length_with new [] = refl
length_with new (row ∷ rows) = elim (tells (row.agent == new.agent)) [
  | inl same ↦ rw same refl
  | inr other ↦ rw (other, length_with new rows) (suc_if (is_none (row_of new.agent rows)) (length rows))
]
  where
    suc_if : (b : Bool) (n : ℕ) → suc (if b then suc n else n) ≡ (if b then suc (suc n) else suc n)
    suc_if true n = refl
    suc_if false n = refl

each_with : (new : Row) (rows : List Row) → IsRow new → AllByRecursion IsRow rows → AllByRecursion IsRow (with_row new rows)
each_with new [] one each = (one, tt)
each_with new (row ∷ rows) one each = elim (tells (row.agent == new.agent)) [
  | inl same ↦ rw same (one, each.1)
  | inr other ↦ rw other (each.0, each_with new rows one each.1)
]

few_new : (none : Bool) (n : ℕ) → n ≤ MAX_ROWS → (if none && nat_le MAX_ROWS n then Some TooMany else None) ≡ None → (if none then suc n else n) ≤ MAX_ROWS
few_new false n few accepted = few
few_new true n few accepted = elim (tells (nat_le MAX_ROWS n)) [
  | inl full ↦ absurd (let is : Some TooMany ≡ None = subst (λ (b : Bool). (if b then Some TooMany else None) ≡ None) full accepted in cc is)
  | inr capacity ↦ grind (arith, few, capacity)
]

few_known : (none : Bool) (n : ℕ) → n ≤ MAX_ROWS → (if none then Some Unknown else None) ≡ None → (if none then suc n else n) ≤ MAX_ROWS
few_known false n few accepted = few
few_known true n few accepted = absurd (cc accepted)

pub made_agent : (change : Change) (o : Option Row) (row : Row) → Makes change o row → row.agent ≡ agent_of change
made_agent (Register agent registration) o row makes = ap (λ (r : Row). r.agent) makes
made_agent (Report agent job body) None row makes = absurd makes
made_agent (Report agent job body) (Some before) row makes = ap (λ (r : Row). r.agent) makes

few_after : (change : Change) (rows : List Row) → length rows ≤ MAX_ROWS → refusal change rows ≡ None → (if is_none (row_of (agent_of change) rows) then suc (length rows) else length rows) ≤ MAX_ROWS
few_after (Register agent registration) rows few accepted = few_new (is_none (row_of agent rows)) (length rows) few accepted
few_after (Report agent job body) rows few accepted = few_known (is_none (row_of agent rows)) (length rows) few accepted

once_none : AreOnce []
once_none = record { few = omega arith; once = λ job. omega arith }

made_row : (change : Change) (rows : List Row) (o : Option Row) (row : Row) → AllByRecursion IsRow rows → IsInSize change → row_of (agent_of change) rows ≡ o → Makes change o row → IsRow row
made_row (Register agent registration) rows None row each size is makes =
    subst IsRow (sym makes) (record { agent = size.0; registration = size.1; reports = once_none; short = tt })
made_row (Register agent registration) rows (Some before) row each size is makes =
    let found = found_row agent rows before each is in
    subst IsRow (sym makes) (record { agent = size.0; registration = size.1; reports = found.0.reports; short = found.0.short })
made_row (Report agent job body) rows None row each size is makes = absurd makes
made_row (Report agent job body) rows (Some before) row each size is makes =
    let found = found_row agent rows before each is in
    subst IsRow (sym makes) (record {
      agent = size.0;
      registration = found.0.registration;
      reports = once_with job body before.reports found.0.reports;
      short = short_with job body before.reports (record { job = size.1; short = size.2 }) found.0.short;
    })

pub is_row : (change : Change) (rows : List Row) (row : Row) → AreRows rows → IsInSize change → Makes change (row_of (agent_of change) rows) row → IsRow row
is_row change rows row are size makes = made_row change rows (row_of (agent_of change) rows) row are.each size refl makes

pub sound_with : (change : Change) (rows : List Row) (row : Row) → AreRows rows → IsInSize change → refusal change rows ≡ None → Makes change (row_of (agent_of change) rows) row → AreRows (with_row row rows)
sound_with change rows row are size accepted makes = record {
  few = subst (λ (n : ℕ). n ≤ MAX_ROWS) (sym (length_with row rows))
      (subst (λ (a : ℕ). (if is_none (row_of a rows) then suc (length rows) else length rows) ≤ MAX_ROWS) (sym (made_agent change (row_of (agent_of change) rows) row makes)) (few_after change rows are.few accepted));
  apart = apart_placed row rows are.apart;
  each = each_with row rows (is_row change rows row are size makes) are.each;
}

-- every accepted change makes some row
pub makes_some : (change : Change) (rows : List Row) (o : Option Row) → row_of (agent_of change) rows ≡ o → refusal change rows ≡ None → (row : Row) × Makes change o row
makes_some (Register agent registration) rows o is accepted = (record { agent = agent; registration = registration; reports = reports_in o }, refl)
makes_some (Report agent job body) rows None is accepted =
    absurd (let no : Some Unknown ≡ None = subst (λ (o : Option Row). (if is_none o then Some Unknown else None) ≡ None) is accepted in cc no)
makes_some (Report agent job body) rows (Some before) is accepted = (record { agent = agent; registration = before.registration; reports = with_report job body before.reports }, refl)

pub sound_after : (old new : List Row) (change : Change) → AreRows old → Changes old change new → AreRows new
sound_after old new change are changes =
    let made = makes_some change old (row_of (agent_of change) old) refl changes.accepted in
    subst AreRows (placed_after change old made.0 made.1 ∙ sym changes.is) (sound_with change old made.0 are changes.size changes.accepted made.1)

pub sound_replayed : (bodies : List (List ℕ)) (old new : List Row) → AreRows old → Replays old bodies new → AreRows new
sound_replayed [] old new are replays = subst AreRows (sym replays) are
sound_replayed (body ∷ bodies) old new are replays = sound_replayed bodies replays.0 new (sound_after old replays.0 replays.1.change are replays.1.changes) replays.2

pub no_rows : AreRows []
no_rows = record { few = omega arith; apart = λ agent. omega arith; each = tt }
