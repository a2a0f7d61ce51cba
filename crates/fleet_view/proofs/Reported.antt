-- The last report of an agent, and its class, after a registration or a report.
use Rattle.std.proofs.Common.{◌≡◌, ◌⊎◌, inl, inr, ◌==◌, ℕ, zero, suc, ◌-◌, Bool, true, false, if◌then◌else◌, List, [], ◌∷◌, ◌++◌, length, drop, Option, Some, None, is_some, refl, sym, ◌∙◌, ap, subst, arith, length-append}
use Rattle.std.specs.Prelude.{slice_get}
use Rattle.std.proofs.lemmas.Bool.{eqb-true}
use Rattle.pull_messages.specs.declared.registration.Registration.{Registration}
use Rattle.pull_store.specs.declared.limits.TheConstants.{MAX_REPORTS}
use Rattle.pull_store.specs.declared.row.Row.{Row}
use Rattle.pull_store.specs.declared.row.StoredReport.{StoredReport}
use Rattle.pull_store.specs.Rows.{after_registration, after_report, has_job, newest, replaced, row_of, with_report}
use Rattle.pull_store.proofs.Building.{tells}
use Rattle.pull_store.proofs.Placing.{newest_push}
use Rattle.agent_class.specs.declared.class.Class.{Class}
use Rattle.agent_class.specs.declared.class.Class.TheVariants.{Silent}
use Rattle.fleet_view.specs.declared.member.Member.{Member}
use Rattle.agent_class.specs.Classes.{class_of_report, class_of_row, last_report}
use Rattle.fleet_view.specs.Members.{member_of, members_of, with_class}

-- ---- the last report

get_last : (xs : List StoredReport) (x : StoredReport) → slice_get (xs ++ x ∷ []) (length xs) ≡ Some x
get_last [] x = refl
get_last (y ∷ xs) x = get_last xs x

pub last_added : (xs : List StoredReport) (x : StoredReport) → last_report (xs ++ x ∷ []) ≡ Some x
last_added xs x =
    let place : length (xs ++ x ∷ []) - 1 ≡ length xs = omega (arith, length-append xs (x ∷ [])) in
    ap (slice_get (xs ++ x ∷ [])) place ∙ get_last xs x

length_replaced : (job : ℕ) (body : List ℕ) (reports : List StoredReport) → length (replaced job body reports) ≡ length reports
length_replaced job body [] = refl
length_replaced job body (r ∷ reports) = elim (tells (r.job == job)) [
  | inl same ↦ rw same refl
  | inr other ↦ rw other (ap suc (length_replaced job body reports))
]

-- a report is as it was, or the one that came
abbrev IsOldOr : Option StoredReport → StoredReport → Option StoredReport → Type 0
IsOldOr old new o = (o ≡ old) ⊎ (o ≡ Some new)

get_replaced : (job : ℕ) (body : List ℕ) (reports : List StoredReport) (k : ℕ)
    → IsOldOr (slice_get reports k) (record { job = job; body = body }) (slice_get (replaced job body reports) k)
get_replaced job body [] k = inl refl
get_replaced job body (r ∷ reports) zero = elim (tells (r.job == job)) [
  | inl same ↦ rw same (inr refl)
  | inr other ↦ rw other (inl refl)
]
get_replaced job body (r ∷ reports) (suc k) = elim (tells (r.job == job)) [
  | inl same ↦ rw same (inl refl)
  | inr other ↦ rw other (get_replaced job body reports k)
]

pub last_with : (job : ℕ) (body : List ℕ) (reports : List StoredReport)
    → IsOldOr (last_report reports) (record { job = job; body = body }) (last_report (with_report job body reports))
last_with job body reports = elim (tells (has_job job reports)) [
  | inl there ↦ rw there (subst (λ (n : ℕ). IsOldOr (last_report reports) (record { job = job; body = body }) (slice_get (replaced job body reports) (n - 1)))
      (sym (length_replaced job body reports)) (get_replaced job body reports (length reports - 1)))
  | inr new ↦
      let r : StoredReport = record { job = job; body = body } in
      rw new (inr (ap last_report (newest_push reports r) ∙ last_added (drop (length reports - (MAX_REPORTS - 1)) reports) r))
]

-- ---- rows

some_row : (one other : Row) → Some one ≡ Some other → one ≡ other
some_row one other is = cc is

no_row : (row : Row) → None ≡ Some row → ⊥
no_row row is = cc is

pub same_class : (agent : ℕ) (rows : List Row) (row : Row) → row_of agent rows ≡ Some row
    → with_class agent (class_of_row row) (members_of rows) ≡ members_of rows
same_class agent [] row is = absurd (no_row row is)
same_class agent (x ∷ rows) row is = elim (tells (x.agent == agent)) [
  | inl same ↦
      let here : x ≡ row = some_row x row (rw same at is) in
      let agents : agent ≡ x.agent = sym (eqb-true x.agent agent same) in
      rw same (λ i. record { agent = agents i; class = class_of_row (sym here i) } ∷ members_of rows)
  | inr other ↦ rw other (ap (λ (l : List Member). member_of x ∷ l) (same_class agent rows row (rw other at is)))
]

pub joined : (agent : ℕ) (registration : Registration) (rows : List Row) → row_of agent rows ≡ None
    → with_class agent Silent (members_of rows) ≡ members_of (after_registration agent registration rows)
joined agent registration [] none = refl
joined agent registration (x ∷ rows) none = elim (tells (x.agent == agent)) [
  | inl same ↦ absurd (no_row x (sym (rw same at none)))
  | inr other ↦ rw other (ap (λ (l : List Member). member_of x ∷ l) (joined agent registration rows (rw other at none)))
]

pub joined_row : (agent : ℕ) (registration : Registration) (rows : List Row) → is_some (row_of agent (after_registration agent registration rows)) ≡ true
joined_row agent registration [] = rw (eqb_self agent) refl
  where
    eqb_self : (n : ℕ) → (n == n) ≡ true
    eqb_self n = grind arith
joined_row agent registration (x ∷ rows) = elim (tells (x.agent == agent)) [
  | inl same ↦ rw (same, same) refl
  | inr other ↦ rw (other, other) (joined_row agent registration rows)
]

pub kept_classes : (agent : ℕ) (registration : Registration) (rows : List Row) (row : Row) → row_of agent rows ≡ Some row
    → members_of (after_registration agent registration rows) ≡ members_of rows
kept_classes agent registration [] row is = absurd (no_row row is)
kept_classes agent registration (x ∷ rows) row is = elim (tells (x.agent == agent)) [
  | inl same ↦ rw same refl
  | inr other ↦ rw other (ap (λ (l : List Member). member_of x ∷ l) (kept_classes agent registration rows row (rw other at is)))
]

pub not_sent : (agent job : ℕ) (body : List ℕ) (rows : List Row) → row_of agent rows ≡ None → after_report agent job body rows ≡ rows
not_sent agent job body [] none = refl
not_sent agent job body (x ∷ rows) none = elim (tells (x.agent == agent)) [
  | inl same ↦ absurd (no_row x (sym (rw same at none)))
  | inr other ↦ rw other (ap (λ (l : List Row). x ∷ l) (not_sent agent job body rows (rw other at none)))
]

pub sent_row : (agent job : ℕ) (body : List ℕ) (rows : List Row) (row : Row) → row_of agent rows ≡ Some row
    → row_of agent (after_report agent job body rows) ≡ Some (record row { reports = with_report job body row.reports })
sent_row agent job body [] row is = absurd (no_row row is)
sent_row agent job body (x ∷ rows) row is = elim (tells (x.agent == agent)) [
  | inl same ↦
      let here : x ≡ row = some_row x row (rw same at is) in
      rw (same, same) (ap (λ (y : Row). Some (record y { reports = with_report job body y.reports })) here)
  | inr other ↦ rw (other, other) (sent_row agent job body rows row (rw other at is))
]

pub sent_class : (agent job : ℕ) (body : List ℕ) (rows : List Row) (row : Row) → row_of agent rows ≡ Some row
    → members_of (after_report agent job body rows) ≡ with_class agent (class_of_report (last_report (with_report job body row.reports))) (members_of rows)
sent_class agent job body [] row is = absurd (no_row row is)
sent_class agent job body (x ∷ rows) row is = elim (tells (x.agent == agent)) [
  | inl same ↦
      let here : x ≡ row = some_row x row (rw same at is) in
      let agents : x.agent ≡ agent = eqb-true x.agent agent same in
      rw same (λ i. record { agent = agents i; class = class_of_report (last_report (with_report job body (here i).reports)) } ∷ members_of rows)
  | inr other ↦ rw other (ap (λ (l : List Member). member_of x ∷ l) (sent_class agent job body rows row (rw other at is)))
]
