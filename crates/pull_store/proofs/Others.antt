-- What a change leaves as it was.
use Rattle.std.proofs.Common.{◌≡◌, ◌≢◌, inl, inr, ◌==◌, ℕ, ◌-◌, Bool, true, false, if◌then◌else◌, List, [], ◌∷◌, ◌++◌, length, drop, Some, refl, sym, ◌∙◌, ap, subst, arith}
use Rattle.std.proofs.lemmas.Bool.{eq-eqb, eqb-true}
use Rattle.pull_store.specs.declared.row.Row.{Row}
use Rattle.pull_store.specs.declared.row.StoredReport.{StoredReport}
use Rattle.pull_store.specs.declared.change.Change.{Change}
use Rattle.pull_store.specs.Rows.{row_of, has_job, replaced, with_report}
use Rattle.pull_store.specs.Sound.{times, AreRows}
use Rattle.pull_store.specs.Stands.{Changes, Stands}
use Rattle.pull_store.specs.Steps.{agent_of, with_row}
use Rattle.pull_store.specs.Laws.{body_under}
use Rattle.pull_store.specs.declared.limits.TheConstants.{MAX_REPORTS}
use Rattle.pull_store.proofs.Placing.{newest_push}
use Rattle.pull_store.proofs.Building.{tells, no_more}
use Rattle.pull_store.proofs.SoundSteps.{placed_after, made_agent, makes_some, none_there, times_drop, sound_replayed, no_rows}

row_other : (agent : ℕ) (new : Row) (rows : List Row) → (new.agent == agent) ≡ false → row_of agent (with_row new rows) ≡ row_of agent rows
row_other agent new [] isnt = rw isnt refl
row_other agent new (row ∷ rows) isnt = elim (tells (row.agent == new.agent)) [
  | inl same ↦ rw (same, eqb-true row.agent new.agent same, isnt) refl
  | inr other ↦ elim (tells (row.agent == agent)) [
    | inl here ↦ rw (other, here) refl
    | inr away ↦ rw (other, away) (row_other agent new rows isnt)
  ]
]

unlike : (a b : ℕ) → a ≢ b → (b == a) ≡ false
unlike a b isnt = elim (tells (b == a)) [
  | inl same ↦ absurd (isnt (sym (eqb-true b a same)))
  | inr other ↦ other
]

pub others_stay : (old new : List Row) (change : Change) (agent : ℕ) → agent ≢ agent_of change → Changes old change new → row_of agent new ≡ row_of agent old
others_stay old new change agent isnt changes =
    let made = makes_some change old (row_of (agent_of change) old) refl changes.accepted in
    let is : new ≡ with_row made.0 old = changes.is ∙ sym (placed_after change old made.0 made.1) in
    let away : (made.0.agent == agent) ≡ false = subst (λ (a : ℕ). (a == agent) ≡ false) (sym (made_agent change (row_of (agent_of change) old) made.0 made.1)) (unlike agent (agent_of change) isnt) in
    ap (row_of agent) is ∙ row_other agent made.0 old away

pub stands_sound : (image : List ℕ) (rows : List Row) → Stands image rows → AreRows rows
stands_sound image rows stands = sound_replayed stands.bodies [] rows no_rows stands.leads

body_put : (job : ℕ) (body : List ℕ) (reports : List StoredReport) → has_job job reports ≡ true → body_under job (replaced job body reports) ≡ Some body
body_put job body [] is = absurd (cc is)
body_put job body (r ∷ reports) is = elim (tells (r.job == job)) [
  | inl same ↦ rw (same, eq-eqb job job refl) refl
  | inr other ↦ rw (other, other) (body_put job body reports (subst (λ (b : Bool). (if b then true else has_job job reports) ≡ true) other is))
]

body_last : (job : ℕ) (body : List ℕ) (xs : List StoredReport) → times job xs ≡ 0 → body_under job (xs ++ record { job = job; body = body } ∷ []) ≡ Some body
body_last job body [] none = rw (eq-eqb job job refl) refl
body_last job body (r ∷ xs) none =
    let no = no_more (r.job == job) (times job xs) none in
    rw (no.0) (body_last job body xs no.1)

-- the body last accepted
pub body_with : (job : ℕ) (body : List ℕ) (reports : List StoredReport) → body_under job (with_report job body reports) ≡ Some body
body_with job body reports = elim (tells (has_job job reports)) [
  | inl is ↦ rw is (body_put job body reports is)
  | inr isnt ↦ rw (isnt, newest_push reports (record { job = job; body = body }))
      (body_last job body (drop (length reports - (MAX_REPORTS - 1)) reports) (omega (arith, times_drop job (length reports - (MAX_REPORTS - 1)) reports, none_there job reports isnt)))
]
