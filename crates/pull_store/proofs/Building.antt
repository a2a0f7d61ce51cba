-- The rows that are written into an empty bank are read back from it.
use Rattle.std.proofs.Common.{◌≡◌, ◌⊎◌, inl, inr, ◌==◌, ℕ, suc, ◌+◌, ◌-◌, ◌<◌, ◌≤◌, Bool, true, false, if◌then◌else◌, List, [], ◌∷◌, ◌++◌, length, drop, Some, None, refl, sym, ◌∙◌, ap, subst, arith, length-append, append_assoc}
use Rattle.std.specs.Prelude.{nat_le}
use Rattle.std.specs.List.{AllByRecursion}
use Rattle.std.proofs.lemmas.List.{append-nil}
use Rattle.std.proofs.lemmas.Bool.{eq-eqb}
use Rattle.pull_messages.specs.declared.registration.Registration.{Registration}
use Rattle.pull_store.specs.declared.row.Row.{Row}
use Rattle.pull_store.specs.declared.row.StoredReport.{StoredReport}
use Rattle.pull_store.specs.declared.change.Change.TheVariants.{Register, Report}
use Rattle.pull_store.specs.Rows.{row_of, after_registration, after_report, has_job, with_report, refusal}
use Rattle.pull_store.specs.Bodies.{bodies_of_reports, bodies_of_row, bodies_of_rows}
use Rattle.pull_store.specs.Sound.{IsId, IsReport, IsRow, AreRows, times, rows_of}
use Rattle.pull_store.specs.Stands.{Takes, Replays}
use Rattle.pull_store.specs.declared.limits.TheConstants.{MAX_REPORTS, MAX_ROWS}
use Rattle.pull_store.proofs.Placing.{newest_push}

pub tells : (b : Bool) → (b ≡ true) ⊎ (b ≡ false)
tells true = inl refl
tells false = inr refl

-- ---- counts

more_if : (b : Bool) (n : ℕ) → (b ≡ true) → (if b then suc n else n) ≡ suc n
more_if true n is = refl
more_if false n is = absurd (cc is)

pub no_more : (b : Bool) (n : ℕ) → (if b then suc n else n) ≡ 0 → (b ≡ false) × (n ≡ 0)
no_more true n none = absurd (omega (arith, none))
no_more false n none = (refl, none)

pub rows_append : (agent : ℕ) (xs ys : List Row) → rows_of agent (xs ++ ys) ≡ rows_of agent xs + rows_of agent ys
rows_append agent [] ys = omega arith
rows_append agent (row ∷ xs) ys = elim (tells (row.agent == agent)) [
  | inl same ↦ rw (same, rows_append agent xs ys) (omega arith)
  | inr other ↦ rw (other, rows_append agent xs ys) refl
]

pub rows_head : (row : Row) (rest : List Row) → rows_of row.agent (row ∷ rest) ≡ suc (rows_of row.agent rest)
rows_head row rest = more_if (row.agent == row.agent) (rows_of row.agent rest) (eq-eqb row.agent row.agent refl)

pub times_append : (job : ℕ) (xs ys : List StoredReport) → times job (xs ++ ys) ≡ times job xs + times job ys
times_append job [] ys = omega arith
times_append job (r ∷ xs) ys = elim (tells (r.job == job)) [
  | inl same ↦ rw (same, times_append job xs ys) (omega arith)
  | inr other ↦ rw (other, times_append job xs ys) refl
]

pub times_head : (r : StoredReport) (rest : List StoredReport) → times r.job (r ∷ rest) ≡ suc (times r.job rest)
times_head r rest = more_if (r.job == r.job) (times r.job rest) (eq-eqb r.job r.job refl)

-- ---- a row at the end

pub none_row : (agent : ℕ) (front : List Row) → rows_of agent front ≡ 0 → row_of agent front ≡ None
none_row agent [] none = refl
none_row agent (row ∷ front) none =
    let no = no_more (row.agent == agent) (rows_of agent front) none in
    rw (no.0) (none_row agent front no.1)

pub new_row : (agent : ℕ) (registration : Registration) (front : List Row) → rows_of agent front ≡ 0
    → after_registration agent registration front ≡ front ++ record { agent = agent; registration = registration; reports = [] } ∷ []
new_row agent registration [] none = refl
new_row agent registration (row ∷ front) none =
    let no = no_more (row.agent == agent) (rows_of agent front) none in
    rw (no.0) (ap (λ (l : List Row). row ∷ l) (new_row agent registration front no.1))

pub last_row : (row : Row) (front : List Row) → rows_of row.agent front ≡ 0 → row_of row.agent (front ++ row ∷ []) ≡ Some row
last_row row [] none = rw (eq-eqb row.agent row.agent refl) refl
last_row row (first ∷ front) none =
    let no = no_more (first.agent == row.agent) (rows_of row.agent front) none in
    rw (no.0) (last_row row front no.1)

pub last_report : (row : Row) (job : ℕ) (body : List ℕ) (front : List Row) → rows_of row.agent front ≡ 0
    → after_report row.agent job body (front ++ row ∷ []) ≡ front ++ record row { reports = with_report job body row.reports } ∷ []
last_report row job body [] none = rw (eq-eqb row.agent row.agent refl) refl
last_report row job body (first ∷ front) none =
    let no = no_more (first.agent == row.agent) (rows_of row.agent front) none in
    rw (no.0) (ap (λ (l : List Row). first ∷ l) (last_report row job body front no.1))

-- ---- a report at the end

pub none_job : (job : ℕ) (reports : List StoredReport) → times job reports ≡ 0 → has_job job reports ≡ false
none_job job [] none = refl
none_job job (r ∷ reports) none =
    let no = no_more (r.job == job) (times job reports) none in
    rw (no.0) (none_job job reports no.1)

pub push_report : (job : ℕ) (body : List ℕ) (reports : List StoredReport) → times job reports ≡ 0 → length reports < MAX_REPORTS
    → with_report job body reports ≡ reports ++ record { job = job; body = body } ∷ []
push_report job body reports none few =
    let r : StoredReport = record { job = job; body = body } in
    let zero_drop : length reports - (MAX_REPORTS - 1) ≡ 0 = omega (arith, few) in
    rw (none_job job reports none) (newest_push reports r ∙ ap (λ (n : ℕ). drop n reports ++ r ∷ []) zero_drop)

-- ---- bodies

pub replays_both : (one two three : List Row) (xs ys : List (List ℕ)) → Replays one xs two → Replays two ys three → Replays one (xs ++ ys) three
replays_both one two three [] ys first second = subst (λ (rows : List Row). Replays rows ys three) first second
replays_both one two three (body ∷ xs) ys first second = (first.0, first.1, replays_both first.0 two three xs ys first.2 second)

pub replays_push : (one two three : List Row) (xs : List (List ℕ)) (body : List ℕ) → Replays one xs two → Takes two body three → Replays one (xs ++ body ∷ []) three
replays_push one two three xs body first takes = replays_both one two three xs (body ∷ []) first (three, takes, refl)

accepted_new : (agent : ℕ) (registration : Registration) (front : List Row) → rows_of agent front ≡ 0 → length front < MAX_ROWS → refusal (Register agent registration) front ≡ None
accepted_new agent registration front none few =
    let no : nat_le MAX_ROWS (length front) ≡ false = grind (arith, few) in
    rw (none_row agent front none, no) refl

put_reports : (agent : ℕ) (registration : Registration) (front : List Row) (done more : List StoredReport) → IsId agent → rows_of agent front ≡ 0 → AllByRecursion IsReport more
    → length done + length more ≤ MAX_REPORTS → ((job : ℕ) → times job (done ++ more) ≤ 1)
    → Replays (front ++ record { agent = agent; registration = registration; reports = done } ∷ []) (bodies_of_reports agent more) (front ++ record { agent = agent; registration = registration; reports = done ++ more } ∷ [])
put_reports agent registration front done [] id none each few once =
    ap (λ (l : List StoredReport). front ++ record { agent = agent; registration = registration; reports = l } ∷ []) (append-nil done)
put_reports agent registration front done (r ∷ more) id none each few once =
    let row : Row = record { agent = agent; registration = registration; reports = done } in
    let next = done ++ r ∷ [] in
    let gone : times r.job done ≡ 0 = omega (arith, once r.job, times_append r.job done (r ∷ more), times_head r more) in
    let is : after_report agent r.job r.body (front ++ row ∷ []) ≡ front ++ record { agent = agent; registration = registration; reports = next } ∷ [] =
    last_report row r.job r.body front none
    ∙ ap (λ (l : List StoredReport). front ++ record { agent = agent; registration = registration; reports = l } ∷ []) (push_report r.job r.body done gone (omega (arith, few))) in
    let known : refusal (Report agent r.job r.body) (front ++ row ∷ []) ≡ None = rw (last_row row front none) refl in
    let joined : next ++ more ≡ done ++ r ∷ more = append_assoc done (r ∷ []) more in
    let rest = put_reports agent registration front next more id none each.1 (omega (arith, few, length-append done (r ∷ []))) (λ job. subst (λ (l : List StoredReport). times job l ≤ 1) (sym joined) (once job)) in (
      front ++ record { agent = agent; registration = registration; reports = next } ∷ [],
      record { change = Report agent r.job r.body; spells = refl; changes = record { size = (id, each.0.job, each.0.short); accepted = known; is = sym is } },
      subst (λ (l : List StoredReport). Replays (front ++ record { agent = agent; registration = registration; reports = next } ∷ []) (bodies_of_reports agent more) (front ++ record { agent = agent; registration = registration; reports = l } ∷ [])) joined rest,
    )

pub put_row : (front : List Row) (row : Row) → IsRow row → rows_of row.agent front ≡ 0 → length front < MAX_ROWS → Replays front (bodies_of_row row) (front ++ row ∷ [])
put_row front row is none few =
    let new : List Row = front ++ record { agent = row.agent; registration = row.registration; reports = [] } ∷ [] in (
      new,
      record {
        change = Register row.agent row.registration;
        spells = refl;
        changes = record { size = (is.agent, is.registration); accepted = accepted_new row.agent row.registration front none few; is = sym (new_row row.agent row.registration front none) };
      },
      put_reports row.agent row.registration front [] row.reports is.agent none is.short (omega (arith, is.reports.few)) is.reports.once,
    )

put_rows : (front rows : List Row) → AllByRecursion IsRow rows → ((agent : ℕ) → rows_of agent (front ++ rows) ≤ 1) → length front + length rows ≤ MAX_ROWS → Replays front (bodies_of_rows rows) (front ++ rows)
put_rows front [] each apart few = append-nil front
put_rows front (row ∷ rows) each apart few =
    let none : rows_of row.agent front ≡ 0 = omega (arith, apart row.agent, rows_append row.agent front (row ∷ rows), rows_head row rows) in
    let joined : (front ++ row ∷ []) ++ rows ≡ front ++ row ∷ rows = append_assoc front (row ∷ []) rows in
    let rest = put_rows (front ++ row ∷ []) rows each.1 (λ agent. subst (λ (l : List Row). rows_of agent l ≤ 1) (sym joined) (apart agent)) (omega (arith, few, length-append front (row ∷ []))) in
    replays_both front (front ++ row ∷ []) (front ++ row ∷ rows) (bodies_of_row row) (bodies_of_rows rows) (put_row front row each.0 none (omega (arith, few)))
    (subst (λ (l : List Row). Replays (front ++ row ∷ []) (bodies_of_rows rows) l) joined rest)

-- rows as a store may hold them are read back
pub rows_read : (rows : List Row) → AreRows rows → Replays [] (bodies_of_rows rows) rows
rows_read rows are = put_rows [] rows are.each are.apart (omega (arith, are.few))

pub bodies_append : (xs ys : List Row) → bodies_of_rows (xs ++ ys) ≡ bodies_of_rows xs ++ bodies_of_rows ys
bodies_append [] ys = refl
bodies_append (row ∷ xs) ys = ap (λ (l : List (List ℕ)). bodies_of_row row ++ l) (bodies_append xs ys) ∙ sym (append_assoc (bodies_of_row row) (bodies_of_rows xs) (bodies_of_rows ys))
