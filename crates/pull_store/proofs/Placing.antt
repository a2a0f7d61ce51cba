-- Where a row and a report are put.
use Rattle.std.proofs.Common.{◌≡◌, ◌==◌, ℕ, zero, take, ◌+◌, ◌-◌, ◌<◌, ◌≤◌, suc, if◌then◌else◌, Bool, true, false, List, [], ◌∷◌, ◌++◌, length, drop, slice_set, refl, sym, ◌∙◌, ap, arith, length-append}
use Rattle.std.proofs.lemmas.List.{drop-append-le}
use Rattle.pull_store.specs.declared.row.Row.{Row}
use Rattle.pull_store.specs.declared.row.StoredReport.{StoredReport}
use Rattle.std.specs.List.{AllByRecursion}
use Rattle.pull_store.specs.Sound.{IsRow}
use Rattle.pull_store.specs.Rows.{newest, has_job, replaced, with_report}
use Rattle.std.proofs.lemmas.List.{take_all}
use Rattle.pull_store.specs.Steps.{place_of, place_of_job, with_row, tail_of}
use Rattle.pull_store.specs.declared.limits.TheConstants.{MAX_REPORTS}

set_on : (b : Bool) (n : ℕ) (new row : Row) (rows : List Row) → (if b then 0 else suc n) < suc (length rows) → (n < length rows → with_row new rows ≡ slice_set rows n new)
    → (if b then new ∷ rows else row ∷ with_row new rows) ≡ slice_set (row ∷ rows) (if b then 0 else suc n) new
set_on true n new row rows le same = refl
set_on false n new row rows le same = ap (λ (l : List Row). row ∷ l) (same (omega (arith, le)))

pub placed : (new : Row) (rows : List Row) → place_of new.agent rows < length rows → with_row new rows ≡ slice_set rows (place_of new.agent rows) new
placed new [] le = absurd (omega (arith, le))
placed new (row ∷ rows) le = set_on (row.agent == new.agent) (place_of new.agent rows) new row rows le (placed new rows)

end_on : (b : Bool) (n : ℕ) (new row : Row) (rows : List Row) → suc (length rows) ≤ (if b then 0 else suc n) → (length rows ≤ n → with_row new rows ≡ rows ++ new ∷ [])
    → (if b then new ∷ rows else row ∷ with_row new rows) ≡ row ∷ rows ++ new ∷ []
end_on true n new row rows le same = absurd (omega (arith, le))
end_on false n new row rows le same = ap (λ (l : List Row). row ∷ l) (same (omega (arith, le)))

pub at_end : (new : Row) (rows : List Row) → length rows ≤ place_of new.agent rows → with_row new rows ≡ rows ++ new ∷ []
at_end new [] le = refl
at_end new (row ∷ rows) le = end_on (row.agent == new.agent) (place_of new.agent rows) new row rows le (at_end new rows)

pub newest_push : (reports : List StoredReport) (r : StoredReport) → newest (reports ++ r ∷ []) ≡ drop (length reports - (MAX_REPORTS - 1)) reports ++ r ∷ []
newest_push reports r =
    let count : length (reports ++ r ∷ []) - MAX_REPORTS ≡ length reports - (MAX_REPORTS - 1) = omega (arith, length-append reports (r ∷ [])) in
    ap (λ (n : ℕ). drop n (reports ++ r ∷ [])) count ∙ drop-append-le (length reports - (MAX_REPORTS - 1)) reports (r ∷ []) (omega arith)

-- ---- a report that is there

job_on : (b : Bool) (n : ℕ) (job : ℕ) (body : List ℕ) (r : StoredReport) (rs : List StoredReport) → (if b then 0 else suc n) < suc (length rs)
    → (n < length rs → replaced job body rs ≡ slice_set rs n (record { job = job; body = body }))
    → (if b then record { job = job; body = body } ∷ rs else r ∷ replaced job body rs) ≡ slice_set (r ∷ rs) (if b then 0 else suc n) (record { job = job; body = body })
job_on true n job body r rs le same = refl
job_on false n job body r rs le same = ap (λ (l : List StoredReport). r ∷ l) (same (omega (arith, le)))

pub job_placed : (job : ℕ) (body : List ℕ) (rs : List StoredReport) → place_of_job job rs < length rs → replaced job body rs ≡ slice_set rs (place_of_job job rs) (record { job = job; body = body })
job_placed job body [] le = absurd (omega (arith, le))
job_placed job body (r ∷ rs) le = job_on (r.job == job) (place_of_job job rs) job body r rs le (job_placed job body rs)

there_on : (b : Bool) (n m : ℕ) (there : Bool) → (if b then 0 else suc n) < suc m → (n < m → there ≡ true) → (if b then true else there) ≡ true
there_on true n m there le so = refl
there_on false n m there le so = so (omega (arith, le))

pub job_there : (job : ℕ) (rs : List StoredReport) → place_of_job job rs < length rs → has_job job rs ≡ true
job_there job [] le = absurd (omega (arith, le))
job_there job (r ∷ rs) le = there_on (r.job == job) (place_of_job job rs) (length rs) (has_job job rs) le (job_there job rs)

gone_on : (b : Bool) (n m : ℕ) (there : Bool) → suc m ≤ (if b then 0 else suc n) → (m ≤ n → there ≡ false) → (if b then true else there) ≡ false
gone_on true n m there le so = absurd (omega (arith, le))
gone_on false n m there le so = so (omega (arith, le))

pub job_gone : (job : ℕ) (rs : List StoredReport) → length rs ≤ place_of_job job rs → has_job job rs ≡ false
job_gone job [] le = refl
job_gone job (r ∷ rs) le = gone_on (r.job == job) (place_of_job job rs) (length rs) (has_job job rs) le (job_gone job rs)

pub reports_set : (job : ℕ) (body : List ℕ) (rs : List StoredReport) (at : ℕ) → at ≡ place_of_job job rs → at < length rs → slice_set rs at (record { job = job; body = body }) ≡ with_report job body rs
reports_set job body rs at is le = rw (is, job_there job rs (omega (arith, is, le))) (sym (job_placed job body rs (omega (arith, is, le))))

pub reports_push : (job : ℕ) (body : List ℕ) (rs : List StoredReport) (at : ℕ) → at ≡ place_of_job job rs → length rs ≤ at
    → drop (length rs - (MAX_REPORTS - 1)) rs ++ record { job = job; body = body } ∷ [] ≡ with_report job body rs
reports_push job body rs at is le = rw (job_gone job rs (omega (arith, is, le))) (sym (newest_push rs (record { job = job; body = body })))

-- ---- the rows around an agent's row

part_on : (b : Bool) (n : ℕ) (new row : Row) (rows : List Row) → with_row new rows ≡ take n rows ++ new ∷ tail_of (drop n rows)
    → (if b then new ∷ rows else row ∷ with_row new rows) ≡ take (if b then 0 else suc n) (row ∷ rows) ++ new ∷ tail_of (drop (if b then 0 else suc n) (row ∷ rows))
part_on true n new row rows is = refl
part_on false n new row rows is = ap (λ (l : List Row). row ∷ l) is

pub parted : (new : Row) (rows : List Row) → with_row new rows ≡ take (place_of new.agent rows) rows ++ new ∷ tail_of (drop (place_of new.agent rows) rows)
parted new [] = refl
parted new (row ∷ rows) = part_on (row.agent == new.agent) (place_of new.agent rows) new row rows (parted new rows)

pub around_row : (agent at : ℕ) (rows front rest : List Row) → at ≡ place_of agent rows → front ≡ take at rows → rest ≡ drop at rows
    → (row : Row) → row.agent ≡ agent → with_row row rows ≡ front ++ row ∷ tail_of rest
around_row agent at rows front rest place is_front is_rest row same =
    let is : at ≡ place_of row.agent rows = place ∙ ap (λ (a : ℕ). place_of a rows) (sym same) in
    rw (is_front, is_rest, is) (parted row rows)

all_taken : (n : ℕ) (rows : List Row) → AllByRecursion IsRow rows → AllByRecursion IsRow (take n rows)
all_taken zero rows all = tt
all_taken (suc n) [] all = tt
all_taken (suc n) (row ∷ rows) all = (all.0, all_taken n rows all.1)

all_left : (n : ℕ) (rows : List Row) → AllByRecursion IsRow rows → AllByRecursion IsRow (drop n rows)
all_left zero rows all = all
all_left (suc n) [] all = all
all_left (suc n) (row ∷ rows) all = all_left n rows all.1

all_tail : (rows : List Row) → AllByRecursion IsRow rows → AllByRecursion IsRow (tail_of rows)
all_tail [] all = tt
all_tail (row ∷ rows) all = all.1

pub around_sound : (at : ℕ) (rows front rest : List Row) → front ≡ take at rows → rest ≡ drop at rows → AllByRecursion IsRow rows → AllByRecursion IsRow front × AllByRecursion IsRow (tail_of rest)
around_sound at rows front rest is_front is_rest all = (rw is_front (all_taken at rows all), rw is_rest (all_tail (drop at rows) (all_left at rows all)))

length_tail : (rows : List Row) → length (tail_of rows) ≤ length rows
length_tail [] = omega arith
length_tail (row ∷ rows) = omega arith

length_parts : (n : ℕ) (rows : List Row) → length (take n rows) + length (drop n rows) ≡ length rows
length_parts zero rows = omega arith
length_parts (suc n) [] = omega arith
length_parts (suc n) (row ∷ rows) = omega (arith, length_parts n rows)

pub around_short : (at : ℕ) (rows front rest : List Row) → front ≡ take at rows → rest ≡ drop at rows → length front + length (tail_of rest) ≤ length rows
around_short at rows front rest is_front is_rest = rw (is_front, is_rest) (omega (arith, length_parts at rows, length_tail (drop at rows)))

pub tail_split : (rows : List Row) → 1 ≤ length rows → take (length rows - 1) (drop 1 rows) ≡ tail_of rows
tail_split [] some = absurd (omega (arith, some))
tail_split (row ∷ rows) some = take_all (length (row ∷ rows) - 1) rows (omega arith)
