-- A change of a host in memory, by how its call went.
use Rattle.std.proofs.Common.{◌≡◌, ◌↔◌, ℕ, ◌≤◌, ◌/◌, List, length, take, Bool, true, false, Some, Result, Ok, Err, IsOk, IsErr, IsErrOf, IsTrue, OnOk, OnErr, inl, inr, refl, sym, ap, subst, ◌∙◌}
use Rattle.std.proofs.lemmas.Bool.{cases_Bool, both_ways}
use Rattle.dsc_terms.specs.Counts.{Rose}
use Rattle.dsc_outside.specs.Causes.{HasCauseOf}
use Rattle.dsc_outside.specs.Changes.{Does, with_file}
use Rattle.dsc_outside.specs.Host.{HostState}
use Rattle.memory_outside.specs.Memory.{CallCount, course_of, done_at, is_to_fail, stopped_course}
use Rattle.memory_outside.specs.MemoryHost.{ChangesBy, HostInMemory, SettlesChange, TakesBy, answer_of, part_put, shown_of}
use Rattle.dsc_outside.specs.declared.host.HostError.{HostError}
use Rattle.dsc_outside.specs.declared.host.HostError.TheVariants as errors
use Rattle.memory_outside.specs.declared.stop.Course.{Course}
use Rattle.memory_outside.specs.declared.stop.Course.TheVariants as courses
use Rattle.memory_outside.specs.declared.stop.Done.{Done}
use Rattle.memory_outside.specs.declared.stop.Done.TheVariants as parts

-- what a call that goes so does
abbrev pub part_of : Course → (whole half : HostState → HostState) → HostState → HostState
part_of courses.Runs whole half = whole
part_of courses.Fails whole half = whole
part_of courses.StopsHalf whole half = half
part_of courses.StopsWhole whole half = whole

change_made : {E : Type 0} (course : Course) (whole half : HostState → HostState) (old new : HostInMemory) (tried : Result (Unit {0}) E) (result : Result (Unit {0}) HostError)
    → (course ≡ courses.Fails → ⊥) → OnOk tried (shown_of new ≡ part_of course whole half (shown_of old)) → OnErr tried (shown_of new ≡ shown_of old)
    → SettlesChange course tried old.short new.short result → ChangesBy course whole half old new result
change_made courses.Runs whole half old new (Ok d) (Ok r) goes ok err settled = (ok, settled.1)
change_made courses.Runs whole half old new (Ok d) (Err e) goes ok err settled = absurd (both_ways _ refl settled.0)
change_made courses.Runs whole half old new (Err x) result goes ok err settled = rw settled.0 (err, settled.1)
change_made courses.Fails whole half old new tried result goes ok err settled = absurd (goes refl)
change_made courses.StopsHalf whole half old new (Ok d) result goes ok err settled = (settled.0, inl (ok, settled.1))
change_made courses.StopsHalf whole half old new (Err x) result goes ok err settled = (settled.0, inr (err, settled.1))
change_made courses.StopsWhole whole half old new (Ok d) result goes ok err settled = (settled.0, inl (ok, settled.1))
change_made courses.StopsWhole whole half old new (Err x) result goes ok err settled = (settled.0, inr (err, settled.1))

part_whole : (course : Course) (whole : HostState → HostState) → part_of course whole whole ≡ whole
part_whole courses.Runs whole = refl
part_whole courses.Fails whole = refl
part_whole courses.StopsHalf whole = refl
part_whole courses.StopsWhole whole = refl

pub on_ok : {T E : Type 0} {P Q : Type 0} (r : Result T E) → (P → Q) → OnOk r P → OnOk r Q
on_ok (Ok x) f p = f p
on_ok (Err e) f p = p

pub on_err : {T E : Type 0} {P Q : Type 0} (r : Result T E) → (P → Q) → OnErr r P → OnErr r Q
on_err (Ok x) f p = p
on_err (Err e) f p = f p

-- the same of a change that has no half
pub changed_whole : {E : Type 0} (course : Course) (whole : HostState → HostState) (old new : HostInMemory) (tried : Result (Unit {0}) E) (result : Result (Unit {0}) HostError)
    → (course ≡ courses.Fails → ⊥) → OnOk tried (shown_of new ≡ whole (shown_of old)) → OnErr tried (shown_of new ≡ shown_of old)
    → SettlesChange course tried old.short new.short result → ChangesBy course whole whole old new result
changed_whole course whole old new tried result goes ok err settled =
    change_made course whole whole old new tried result goes (on_ok tried (λ is. rw (part_whole course whole) is) ok) err settled

put_part : (course : Course) (path bytes : List ℕ) (s : HostState) → with_file path (part_put course bytes) s ≡ part_of course (with_file path bytes) (with_file path (take (length bytes / 2) bytes)) s
put_part courses.Runs path bytes s = refl
put_part courses.Fails path bytes s = refl
put_part courses.StopsHalf path bytes s = refl
put_part courses.StopsWhole path bytes s = refl

pub changed_file : {E : Type 0} (course : Course) (path bytes : List ℕ) (old new : HostInMemory) (tried : Result (Unit {0}) E) (result : Result (Unit {0}) HostError)
    → (course ≡ courses.Fails → ⊥) → OnOk tried (shown_of new ≡ with_file path (part_put course bytes) (shown_of old)) → OnErr tried (shown_of new ≡ shown_of old)
    → SettlesChange course tried old.short new.short result → ChangesBy course (with_file path bytes) (with_file path (take (length bytes / 2) bytes)) old new result
changed_file course path bytes old new tried result goes ok err settled =
    change_made course _ _ old new tried result goes (on_ok tried (λ is. is ∙ put_part course path bytes (shown_of old)) ok) err settled

pub took : (course : Course) (whole : HostState → HostState) (old new : HostInMemory) (result : Result (Unit {0}) HostError)
    → (course ≡ courses.Fails → ⊥) → shown_of new ≡ whole (shown_of old) → new.short ≡ old.short → result ≡ answer_of course → TakesBy course whole old new result
took courses.Runs whole old new result goes shown short is = (rw is refl, (shown, short))
took courses.Fails whole old new result goes shown short is = absurd (goes refl)
took courses.StopsHalf whole old new result goes shown short is = (is, (shown, short))
took courses.StopsWhole whole old new result goes shown short is = (is, (shown, short))

pub taken : (course : Course) (whole : HostState → HostState) (old new : HostInMemory) (result : Result (Unit {0}) HostError)
    → TakesBy course whole old new result → ChangesBy course whole whole old new result
taken courses.Runs whole old new (Ok r) takes = takes.1
taken courses.Runs whole old new (Err e) takes = absurd (both_ways _ refl takes.0)
taken courses.Fails whole old new result takes = takes
taken courses.StopsHalf whole old new result takes = (takes.0, inl takes.1)
taken courses.StopsWhole whole old new result takes = (takes.0, inl takes.1)

abbrev failed_error : HostError → Bool
failed_error errors.Failed = true
failed_error errors.Memory = false

abbrev has_failed : Result (Unit {0}) HostError → Bool
has_failed (Ok done) = false
has_failed (Err error) = failed_error error

-- a call that runs does not fail, and one that does not, fails
pub runs_not_failed : (whole half : HostState → HostState) (old new : HostInMemory) (result : Result (Unit {0}) HostError)
    → ChangesBy courses.Runs whole half old new result → result ≡ Err errors.Failed → ⊥
runs_not_failed whole half old new (Ok r) by is = both_ways _ refl (ap has_failed is)
runs_not_failed whole half old new (Err errors.Failed) by is = by
runs_not_failed whole half old new (Err errors.Memory) by is = both_ways _ refl (ap has_failed is)

pub stopped_failed : (done : Done) (whole half : HostState → HostState) (old new : HostInMemory) (result : Result (Unit {0}) HostError)
    → ChangesBy (stopped_course done) whole half old new result → result ≡ Err errors.Failed
stopped_failed parts.Nothing whole half old new result by = by.0
stopped_failed parts.Half whole half old new result by = by.0
stopped_failed parts.All whole half old new result by = by.0

pub fails_by : (calls : CallCount) (whole half : HostState → HostState) (old new : HostInMemory) (result : Result (Unit {0}) HostError)
    → ChangesBy (course_of calls) whole half old new result → IsErrOf result errors.Failed ↔ IsTrue (is_to_fail calls)
fails_by calls whole half old new result by = elim (cases_Bool (is_to_fail calls)) [
  | inl fails ↦ (λ failed. fails, λ is. stopped_failed (done_at calls.stop calls.begun) whole half old new result (rw fails at by))
  | inr runs ↦ (λ failed. absurd (runs_not_failed whole half old new result (rw runs at by) failed), λ is. absurd (both_ways _ runs is))
]

pub fails_taken : (calls : CallCount) (whole : HostState → HostState) (old new : HostInMemory) (result : Result (Unit {0}) HostError)
    → TakesBy (course_of calls) whole old new result → IsErr result ↔ IsTrue (is_to_fail calls)
fails_taken calls whole old new result takes = elim (cases_Bool (is_to_fail calls)) [
  | inl fails ↦ (λ failed. fails, λ is. rw (stopped_failed (done_at calls.stop calls.begun) whole whole old new result (rw fails at (taken _ whole old new result takes))) refl)
  | inr runs ↦ (λ failed. absurd (ok_not_err result (rw runs at takes).0 failed), λ is. absurd (both_ways _ runs is))
]
  where
    ok_not_err : (r : Result (Unit {0}) HostError) → IsOk r → IsErr r → ⊥
    ok_not_err (Ok r) ok err = both_ways _ refl err
    ok_not_err (Err e) ok err = both_ways _ refl ok

pub cause_by : (calls : CallCount) (whole half : HostState → HostState) (old new : HostInMemory) (result : Result (Unit {0}) HostError) (before now : ℕ)
    → ChangesBy (course_of calls) whole half old new result → before ≤ now → ((course_of calls ≡ courses.Runs → ⊥) → Rose before now) → HasCauseOf errors.Failed before now result
cause_by calls whole half old new result before now by later rose = record {
  later = later;
  failed = λ is. rose (λ runs. runs_not_failed whole half old new result (subst (λ (course : Course). ChangesBy course whole half old new result) runs by) is);
}

-- what is answered of the change
module _ (Part : HostState → HostState → Type 0) (whole half : HostState → HostState) (old new : HostInMemory)
    (same : Part (shown_of old) (shown_of old)) (all : Part (shown_of old) (whole (shown_of old))) (some : Part (shown_of old) (half (shown_of old))) where
  part_is : (s : HostState) → shown_of new ≡ s → Part (shown_of old) s → Part (shown_of old) (shown_of new)
  part_is s is part = subst (λ (t : HostState). Part (shown_of old) t) (sym is) part

  failed_so : (result : Result (Unit {0}) HostError) → result ≡ Err errors.Failed → Part (shown_of old) (shown_of new) → Does (Some (shown_of old)) (Some (shown_of new)) result whole Part
  failed_so result is part = rw is (shown_of new, refl, part)

  pub does_by : (course : Course) (result : Result (Unit {0}) HostError) → ChangesBy course whole half old new result → Does (Some (shown_of old)) (Some (shown_of new)) result whole Part
  does_by courses.Runs (Ok r) by = ap (λ (s : HostState). Some s) by.0
  does_by courses.Runs (Err errors.Failed) by = absurd by
  does_by courses.Runs (Err errors.Memory) by = (shown_of new, refl, part_is _ by.0 same)
  does_by courses.Fails result by = failed_so result by.0 (part_is _ by.1.0 same)
  does_by courses.StopsHalf result by = failed_so result by.0 (elim by.1 [ inl done ↦ part_is _ done.0 some | inr lost ↦ part_is _ lost.0 same ])
  does_by courses.StopsWhole result by = failed_so result by.0 (elim by.1 [ inl done ↦ part_is _ done.0 all | inr lost ↦ part_is _ lost.0 same ])
