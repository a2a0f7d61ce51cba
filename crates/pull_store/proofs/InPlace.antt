-- A change that is made to the rows in place.
use Rattle.std.proofs.Common.{◌≡◌, ◌==◌, ℕ, zero, suc, ◌-◌, ◌<◌, ◌≤◌, Bool, true, false, ◌&&◌, if◌then◌else◌, List, [], ◌∷◌, ◌++◌, length, map, take, drop, slice_set, refl, sym, ◌∙◌, ap, arith}
use Rattle.std.specs.Prelude.{None, Some, nat_le, slice_index_or, is_none}
use Rattle.std.proofs.lemmas.List.{drop_all, take_all, take-append-le, length-drop}
use Rattle.pull_messages.specs.declared.registration.Registration.{Registration}
use Rattle.pull_store.specs.declared.row.Row.{Row}
use Rattle.pull_store.specs.declared.row.StoredReport.{StoredReport}
use Rattle.pull_store.specs.declared.change.Change.TheVariants.{Register, Report}
use Rattle.pull_store.specs.declared.change.Refusal.TheVariants.{TooMany, Unknown}
use Rattle.pull_store.specs.declared.limits.TheConstants.{MAX_ROWS}
use Rattle.pull_store.specs.Rows.{row_of, after_registration, after_report, refusal, with_report}
use Rattle.pull_store.specs.Steps.{agent_in, place_in, place_of}

-- ---- the agents beside the rows

same_place : (b : Bool) (m n : ℕ) → m ≡ n → (if b then 0 else suc m) ≡ (if b then 0 else suc n)
same_place true m n is = refl
same_place false m n is = ap suc is

pub place_beside : (agent : ℕ) (rows : List Row) → place_in agent (map agent_in rows) ≡ place_of agent rows
place_beside agent [] = refl
place_beside agent (row ∷ rows) = same_place (row.agent == agent) (place_in agent (map agent_in rows)) (place_of agent rows) (place_beside agent rows)

pub agents_set : (rows : List Row) (at : ℕ) (new d : Row) → at < length rows → (slice_index_or rows at d).agent ≡ new.agent → map agent_in (slice_set rows at new) ≡ map agent_in rows
agents_set [] at new d le same = absurd (omega (arith, le))
agents_set (row ∷ rows) zero new d le same = ap (λ (a : ℕ). a ∷ map agent_in rows) (sym same)
agents_set (row ∷ rows) (suc at) new d le same = ap (λ (l : List ℕ). row.agent ∷ l) (agents_set rows at new d (omega (arith, le)) same)

pub agents_push : (rows : List Row) (new : Row) → map agent_in rows ++ new.agent ∷ [] ≡ map agent_in (rows ++ new ∷ [])
agents_push [] new = refl
agents_push (row ∷ rows) new = ap (λ (l : List ℕ). row.agent ∷ l) (agents_push rows new)

-- ---- whether an agent has a row

there_on : (b : Bool) (n m : ℕ) (none : Bool) (row : Row) → (if b then 0 else suc n) < suc m → (n < m → none ≡ false) → (if b then false else none) ≡ false
there_on true n m none row le so = refl
there_on false n m none row le so = so (omega (arith, le))

none_if : (b : Bool) (agent : ℕ) (row : Row) (rows : List Row) → is_none (if b then Some row else row_of agent rows) ≡ (if b then false else is_none (row_of agent rows))
none_if true agent row rows = refl
none_if false agent row rows = refl

pub has_row : (agent : ℕ) (rows : List Row) → place_of agent rows < length rows → is_none (row_of agent rows) ≡ false
has_row agent [] le = absurd (omega (arith, le))
has_row agent (row ∷ rows) le = none_if (row.agent == agent) agent row rows ∙ there_on (row.agent == agent) (place_of agent rows) (length rows) (is_none (row_of agent rows)) row le (has_row agent rows)

gone_on : (b : Bool) (n m : ℕ) (none : Bool) → suc m ≤ (if b then 0 else suc n) → (m ≤ n → none ≡ true) → (if b then false else none) ≡ true
gone_on true n m none le so = absurd (omega (arith, le))
gone_on false n m none le so = so (omega (arith, le))

pub has_no_row : (agent : ℕ) (rows : List Row) → length rows ≤ place_of agent rows → is_none (row_of agent rows) ≡ true
has_no_row agent [] le = refl
has_no_row agent (row ∷ rows) le = none_if (row.agent == agent) agent row rows ∙ gone_on (row.agent == agent) (place_of agent rows) (length rows) (is_none (row_of agent rows)) le (has_no_row agent rows)

-- ---- why a change is not accepted

pub length_agents : (rows : List Row) → length (map agent_in rows) ≡ length rows
length_agents [] = refl
length_agents (row ∷ rows) = ap suc (length_agents rows)

at_most : (m n : ℕ) → m ≤ n → nat_le m n ≡ true
at_most m n le = grind (arith, le)

more_than : (m n : ℕ) → n < m → nat_le m n ≡ false
more_than m n le = grind (arith, le)

none_and_false : (b : Bool) → (b && false) ≡ false
none_and_false true = refl
none_and_false false = refl

pub too_many : (agent : ℕ) (r : Registration) (rows : List Row) → length rows ≤ place_of agent rows → MAX_ROWS ≤ length rows → refusal (Register agent r) rows ≡ Some TooMany
too_many agent r rows le many = rw (has_no_row agent rows le, at_most MAX_ROWS (length rows) many) refl

pub accepted_new : (agent : ℕ) (r : Registration) (rows : List Row) → length rows < MAX_ROWS → refusal (Register agent r) rows ≡ None
accepted_new agent r rows few = rw (more_than MAX_ROWS (length rows) few, none_and_false (is_none (row_of agent rows))) refl

pub accepted_old : (agent : ℕ) (r : Registration) (rows : List Row) → place_of agent rows < length rows → refusal (Register agent r) rows ≡ None
accepted_old agent r rows le = rw (has_row agent rows le) refl

pub unknown : (agent job : ℕ) (body : List ℕ) (rows : List Row) → length rows ≤ place_of agent rows → refusal (Report agent job body) rows ≡ Some Unknown
unknown agent job body rows le = rw (has_no_row agent rows le) refl

pub reported : (agent job : ℕ) (body : List ℕ) (rows : List Row) → place_of agent rows < length rows → refusal (Report agent job body) rows ≡ None
reported agent job body rows le = rw (has_row agent rows le) refl

-- ---- the rows after a change

registered_on : (b : Bool) (n : ℕ) (agent : ℕ) (r : Registration) (d row : Row) (rows : List Row) → (if b then 0 else suc n) < suc (length rows)
    → (n < length rows → slice_set rows n (record (slice_index_or rows n d) { registration = r }) ≡ after_registration agent r rows)
    → slice_set (row ∷ rows) (if b then 0 else suc n) (record (slice_index_or (row ∷ rows) (if b then 0 else suc n) d) { registration = r })
    ≡ (if b then record row { registration = r } ∷ rows else row ∷ after_registration agent r rows)
registered_on true n agent r d row rows le so = refl
registered_on false n agent r d row rows le so = ap (λ (l : List Row). row ∷ l) (so (omega (arith, le)))

pub registered_at : (agent : ℕ) (r : Registration) (d : Row) (rows : List Row) → place_of agent rows < length rows
    → slice_set rows (place_of agent rows) (record (slice_index_or rows (place_of agent rows) d) { registration = r }) ≡ after_registration agent r rows
registered_at agent r d [] le = absurd (omega (arith, le))
registered_at agent r d (row ∷ rows) le = registered_on (row.agent == agent) (place_of agent rows) agent r d row rows le (registered_at agent r d rows)

new_on : (b : Bool) (n agent : ℕ) (r : Registration) (row : Row) (rows : List Row) → suc (length rows) ≤ (if b then 0 else suc n)
    → (length rows ≤ n → rows ++ record { agent = agent; registration = r; reports = [] } ∷ [] ≡ after_registration agent r rows)
    → row ∷ rows ++ record { agent = agent; registration = r; reports = [] } ∷ [] ≡ (if b then record row { registration = r } ∷ rows else row ∷ after_registration agent r rows)
new_on true n agent r row rows le so = absurd (omega (arith, le))
new_on false n agent r row rows le so = ap (λ (l : List Row). row ∷ l) (so (omega (arith, le)))

pub registered_new : (agent : ℕ) (r : Registration) (rows : List Row) → length rows ≤ place_of agent rows
    → rows ++ record { agent = agent; registration = r; reports = [] } ∷ [] ≡ after_registration agent r rows
registered_new agent r [] le = refl
registered_new agent r (row ∷ rows) le = new_on (row.agent == agent) (place_of agent rows) agent r row rows le (registered_new agent r rows)

reported_on : (b : Bool) (n : ℕ) (agent job : ℕ) (body : List ℕ) (d row : Row) (rows : List Row) → (if b then 0 else suc n) < suc (length rows)
    → (n < length rows → slice_set rows n (record (slice_index_or rows n d) { reports = with_report job body (slice_index_or rows n d).reports }) ≡ after_report agent job body rows)
    → slice_set (row ∷ rows) (if b then 0 else suc n) (record (slice_index_or (row ∷ rows) (if b then 0 else suc n) d) { reports = with_report job body (slice_index_or (row ∷ rows) (if b then 0 else suc n) d).reports })
    ≡ (if b then record row { reports = with_report job body row.reports } ∷ rows else row ∷ after_report agent job body rows)
reported_on true n agent job body d row rows le so = refl
reported_on false n agent job body d row rows le so = ap (λ (l : List Row). row ∷ l) (so (omega (arith, le)))

pub reported_at : (agent job : ℕ) (body : List ℕ) (d : Row) (rows : List Row) → place_of agent rows < length rows
    → slice_set rows (place_of agent rows) (record (slice_index_or rows (place_of agent rows) d) { reports = with_report job body (slice_index_or rows (place_of agent rows) d).reports })
    ≡ after_report agent job body rows
reported_at agent job body d [] le = absurd (omega (arith, le))
reported_at agent job body d (row ∷ rows) le = reported_on (row.agent == agent) (place_of agent rows) agent job body d row rows le (reported_at agent job body d rows)

unknown_on : (b : Bool) (n agent job : ℕ) (body : List ℕ) (row : Row) (rows : List Row) → suc (length rows) ≤ (if b then 0 else suc n)
    → (length rows ≤ n → rows ≡ after_report agent job body rows)
    → row ∷ rows ≡ (if b then record row { reports = with_report job body row.reports } ∷ rows else row ∷ after_report agent job body rows)
unknown_on true n agent job body row rows le so = absurd (omega (arith, le))
unknown_on false n agent job body row rows le so = ap (λ (l : List Row). row ∷ l) (so (omega (arith, le)))

pub reported_unknown : (agent job : ℕ) (body : List ℕ) (rows : List Row) → length rows ≤ place_of agent rows → rows ≡ after_report agent job body rows
reported_unknown agent job body [] le = refl
reported_unknown agent job body (row ∷ rows) le = unknown_on (row.agent == agent) (place_of agent rows) agent job body row rows le (reported_unknown agent job body rows)

-- ---- the newest reports, which come first where the others are turned to the end

pub newer : (mid oldest n : ℕ) (xs ys : List StoredReport) → mid ≡ oldest → n ≡ length xs - mid → ys ≡ drop mid xs ++ take mid xs → take n ys ≡ drop oldest xs
newer mid oldest n xs ys is count turned =
    rw turned (take-append-le n (drop mid xs) (take mid xs) (omega (arith, count, length-drop mid xs))
    ∙ take_all n (drop mid xs) (omega (arith, count, length-drop mid xs))
    ∙ ap (λ (k : ℕ). drop k xs) is)

-- ---- the place of an agent, from one place on

pub place_here : (agent at : ℕ) (agents : List ℕ) (d : ℕ) → at < length agents → (slice_index_or agents at d == agent) ≡ true → place_in agent (drop at agents) ≡ 0
place_here agent at [] d le is = absurd (omega (arith, le))
place_here agent zero (other ∷ agents) d le is = rw is refl
place_here agent (suc at) (other ∷ agents) d le is = place_here agent at agents d (omega (arith, le)) is

pub place_later : (agent at : ℕ) (agents : List ℕ) (d : ℕ) → at < length agents → (slice_index_or agents at d == agent) ≡ false → place_in agent (drop at agents) ≡ suc (place_in agent (drop (suc at) agents))
place_later agent at [] d le isnt = absurd (omega (arith, le))
place_later agent zero (other ∷ agents) d le isnt = rw isnt refl
place_later agent (suc at) (other ∷ agents) d le isnt = place_later agent at agents d (omega (arith, le)) isnt

pub place_end : (agent at : ℕ) (agents : List ℕ) → length agents ≤ at → place_in agent (drop at agents) ≡ 0
place_end agent at [] le = rw (drop_all {X = ℕ} at [] (omega arith)) refl
place_end agent zero (other ∷ agents) le = absurd (omega (arith, le))
place_end agent (suc at) (other ∷ agents) le = place_end agent at agents (omega (arith, le))

within_on : (b : Bool) (m n : ℕ) → m ≤ n → (if b then 0 else suc m) ≤ suc n
within_on true m n le = omega arith
within_on false m n le = omega (arith, le)

pub place_within : (agent : ℕ) (agents : List ℕ) → place_in agent agents ≤ length agents
place_within agent [] = omega arith
place_within agent (other ∷ agents) = within_on (other == agent) (place_in agent agents) (length agents) (place_within agent agents)
