-- How a call meets a stop.
use Rattle.std.proofs.Common.{◌≡◌, ℕ, Bool, true, false, ◌==◌, ◌↔◌, Result, Ok, Err, IsErr, IsOk, IsTrue, refl, sym, ◌∙◌, ap, subst, if◌then◌else◌, arith}
use Rattle.std.specs.List.{list_any}
use Rattle.std.proofs.Math.Bool.{or-true}
use Rattle.std.proofs.Math.Dec.{leb-zero}
use Rattle.std.proofs.lemmas.Bool.{both_ways, eq-eqb, le-leb}
use Rattle.memory_outside.specs.Memory.{CallCount, NoneIsToFail, course_of, counted, is_to_fail}
use Rattle.memory_outside.specs.MemoryDisk.{DiskInMemory, Goes, outcome_of}
use Rattle.memory_outside.specs.MemoryHost.{ChangesBy, HostInMemory, TakesBy}
use Rattle.memory_outside.specs.ReliableDisk.{IsReliable}
use Rattle.memory_outside.specs.SharedStop.{Follows, course_at, has_come, met_at}
use Rattle.memory_outside.specs.StoppedDisk.{met}
use Rattle.memory_outside.specs.StoppedHost.{IsUnfailed}
use Rattle.memory_outside.specs.StoppedHost as hosts
use Rattle.memory_outside.proofs.DiskCalls.{Passes}
use Rattle.dsc_outside.specs.Causes.{HasCause}
use Rattle.dsc_outside.specs.Host.{HostState}
use Rattle.dsc_outside.specs.declared.host.HostError.{HostError}
use Rattle.dsc_outside.specs.declared.host.HostError.TheVariants as errors
use Rattle.memory_outside.specs.declared.disk_calls.CallOutcome.TheVariants as outcomes
use Rattle.memory_outside.specs.declared.disk_calls.DiskCall.{DiskCall}
use Rattle.memory_outside.specs.declared.shared_stop.Turn.{Turn}
use Rattle.memory_outside.specs.declared.shared_stop.Turn.TheVariants as turns
use Rattle.memory_outside.specs.declared.stop.Course.{Course}
use Rattle.memory_outside.specs.declared.stop.Course.TheVariants as courses
use Rattle.memory_outside.specs.declared.stop.Done.{Done}
use Rattle.memory_outside.specs.declared.stop.Done.TheVariants as dones

-- before a call before the stop there is no other
pub was_before : (old new : Turn) → Follows old new → new ≡ turns.Before → old ≡ turns.Before
was_before turns.Before new order is = refl
was_before turns.Within new order is = cc
was_before turns.After new order is = cc

pub not_come : (turn : Turn) → has_come turn ≡ false → turn ≡ turns.Before
not_come turns.Before stays = refl
not_come turns.Within stays = cc
not_come turns.After stays = cc

-- where none is to fail, the next does not
pub unfailing_goes : (calls : CallCount) → NoneIsToFail calls → is_to_fail calls ≡ false
unfailing_goes calls none = rw (none.unlisted, none.unstopped) refl

pub unfailing_runs : (calls : CallCount) → NoneIsToFail calls → course_of calls ≡ courses.Runs
unfailing_runs calls none = rw (unfailing_goes calls none) refl

pub unfailing_after : (calls after : CallCount) → NoneIsToFail calls → after ≡ counted calls → NoneIsToFail after
unfailing_after calls after none is = record {
  unlisted = ap (λ (k : CallCount). k.failing) is ∙ none.unlisted;
  unstopped = ap (λ (k : CallCount). k.stop) is ∙ none.unstopped;
}

-- and the count of faults stays
pub unfailing_faults : (calls after : CallCount) → NoneIsToFail calls → after ≡ counted calls → after.faults ≡ calls.faults
unfailing_faults calls after none is = ap (λ (k : CallCount). k.faults) is ∙ (rw (unfailing_goes calls none) refl)

pub unfailing_ok : {T E : Type 0} (calls : CallCount) (result : Result T E) → NoneIsToFail calls → IsErr result ↔ IsTrue (is_to_fail calls) → IsOk result
unfailing_ok calls (Ok x) none fails = refl
unfailing_ok calls (Err e) none fails = absurd (both_ways _ (unfailing_goes calls none) (fails.0 refl))

-- a call that succeeded has no cause to show
pub no_cause : {T E : Type 0} (result : Result T E) → IsOk result → HasCause 0 0 result
no_cause (Ok x) ok = record { later = omega arith; failed = tt }
no_cause (Err e) ok = absurd (both_ways _ refl ok)

-- a call fails exactly where the stop has come
pub met_fails : (turn : Turn) (done : Done) (calls : CallCount) → (turn ≡ turns.Before → NoneIsToFail calls) → is_to_fail (met_at turn done calls) ≡ has_come turn
met_fails turns.Before done calls alone = unfailing_goes calls (alone refl)
met_fails turns.Within done calls alone = rw (le-leb calls.begun calls.begun (omega arith)) (or-true (list_any (λ number. number == calls.begun) calls.failing))
met_fails turns.After done calls alone = rw (leb-zero calls.begun) (or-true (list_any (λ number. number == calls.begun) calls.failing))

own : (n : ℕ) → (n == n) ≡ true
own n = eq-eqb n n refl

either : (b : Bool) (done : Done) → ◌≡◌ {A = Done} (if b then done else done) done
either true done = refl
either false done = refl

-- and the part of a change that it leaves is the stop's
pub met_course : (turn : Turn) (done : Done) (calls : CallCount) → (turn ≡ turns.Before → NoneIsToFail calls) → course_of (met_at turn done calls) ≡ course_at turn done
met_course turns.Before done calls alone = unfailing_runs calls (alone refl)
met_course turns.Within done calls alone = rw (met_fails turns.Within done calls alone, own calls.begun) refl
met_course turns.After done calls alone = rw (met_fails turns.After done calls alone, either (0 == calls.begun) dones.Nothing) refl

-- a call that is done, or for which memory ran out, leaves a disk that fails for memory alone
pub reliable_after : (call : DiskCall) (old : DiskInMemory) (succeeded : Bool) (new : DiskInMemory) → IsReliable old → Goes outcomes.Done call old succeeded new → IsReliable new
reliable_after call old true new reliable is =
    let counts = ap (λ (d : DiskInMemory). d.count) is in
    record {
      none = unfailing_after old.count new.count reliable.none counts;
      lasted = λ long. unfailing_faults old.count new.count reliable.none counts ∙ reliable.lasted (sym (ap (λ (d : DiskInMemory). d.short) is) ∙ long);
    }
reliable_after call old false new reliable is = record {
  none = record {
    unlisted = ap (λ (d : DiskInMemory). d.count.failing) is ∙ reliable.none.unlisted;
    unstopped = ap (λ (d : DiskInMemory). d.count.stop) is ∙ reliable.none.unstopped;
  };
  lasted = λ long. absurd (both_ways new.short long (ap (λ (d : DiskInMemory). d.short) is));
}

-- where none is to fail, a call does so
pub reliable_goes : (call : DiskCall) (old : DiskInMemory) (succeeded : Bool) (new : DiskInMemory) → IsReliable old → Goes (outcome_of (course_of old.count)) call old succeeded new → Goes outcomes.Done call old succeeded new
reliable_goes call old succeeded new reliable goes = subst (λ (course : Course). Goes (outcome_of course) call old succeeded new) (unfailing_runs old.count reliable.none) goes

reliable_before : (turn : Turn) (call : DiskCall) (old : DiskInMemory) (succeeded : Bool) (new : DiskInMemory) → (turn ≡ turns.Before → IsReliable old)
    → Goes (outcome_of (course_at turn dones.All)) call (met turn old) succeeded new → turn ≡ turns.Before → IsReliable new
reliable_before turns.Before call old succeeded new reliable goes is = reliable_after call old succeeded new (reliable refl) goes
reliable_before turns.Within call old succeeded new reliable goes is = cc
reliable_before turns.After call old succeeded new reliable goes is = cc

-- a stop that is set takes no time
pub met_passes : (turn : Turn) (old meeting new : DiskInMemory) → meeting ≡ met turn old → Passes meeting new → Passes old new
met_passes turn old meeting new is passes = subst (λ (d : DiskInMemory). Passes d new) is passes

-- a call of a disk that meets a stop
module _ (before after : Turn) (old meeting : DiskInMemory) (alone : before ≡ turns.Before → IsReliable old) (order : Follows before after) (is : meeting ≡ met after old) where
  reliable : after ≡ turns.Before → IsReliable old
  reliable first = alone (was_before before after order first)

  pub disk_goes : (call : DiskCall) (succeeded : Bool) (new : DiskInMemory) → Goes (outcome_of (course_of meeting.count)) call meeting succeeded new → Goes (outcome_of (course_at after dones.All)) call (met after old) succeeded new
  disk_goes call succeeded new goes =
      subst (λ (course : Course). Goes (outcome_of course) call (met after old) succeeded new) (met_course after dones.All old.count (λ first. (reliable first).none))
      (subst (λ (d : DiskInMemory). Goes (outcome_of (course_of d.count)) call d succeeded new) is goes)

  pub disk_alone : (call : DiskCall) (succeeded : Bool) (new : DiskInMemory) → Goes (outcome_of (course_of meeting.count)) call meeting succeeded new → after ≡ turns.Before → IsReliable new
  disk_alone call succeeded new goes = reliable_before after call old succeeded new reliable (disk_goes call succeeded new goes)

unfailed_before : (turn : Turn) (done : Done) (old new : HostInMemory) → (turn ≡ turns.Before → IsUnfailed old) → new.calls ≡ counted (met_at turn done old.calls)
    → turn ≡ turns.Before → IsUnfailed new
unfailed_before turns.Before done old new unfailed is first = record {
  none = unfailing_after old.calls new.calls (unfailed refl).none is;
  unfailed = unfailing_faults old.calls new.calls (unfailed refl).none is ∙ (unfailed refl).unfailed;
}
unfailed_before turns.Within done old new unfailed is first = cc
unfailed_before turns.After done old new unfailed is first = cc

-- what a change did is the same of a host that meets a stop
change_met : (course : Course) (whole half : HostState → HostState) (turn : Turn) (done : Done) (old new : HostInMemory) (result : Result (Unit {0}) HostError)
    → ChangesBy course whole half (hosts.met turn done old) new result → ChangesBy course whole half old new result
change_met courses.Runs whole half turn done old new (Ok d) by = by
change_met courses.Runs whole half turn done old new (Err errors.Failed) by = by
change_met courses.Runs whole half turn done old new (Err errors.Memory) by = by
change_met courses.Fails whole half turn done old new result by = by
change_met courses.StopsHalf whole half turn done old new result by = by
change_met courses.StopsWhole whole half turn done old new result by = by

take_met : (course : Course) (whole : HostState → HostState) (turn : Turn) (done : Done) (old new : HostInMemory) (result : Result (Unit {0}) HostError)
    → TakesBy course whole (hosts.met turn done old) new result → TakesBy course whole old new result
take_met courses.Runs whole turn done old new result by = by
take_met courses.Fails whole turn done old new result by = by
take_met courses.StopsHalf whole turn done old new result by = by
take_met courses.StopsWhole whole turn done old new result by = by

-- a call of a host that meets a stop
module _ (before after : Turn) (done : Done) (old meeting : HostInMemory) (alone : before ≡ turns.Before → IsUnfailed old) (order : Follows before after) (is : meeting ≡ hosts.met after done old) where
  unfailed : after ≡ turns.Before → IsUnfailed old
  unfailed first = alone (was_before before after order first)

  course_is : course_of (met_at after done old.calls) ≡ course_at after done
  course_is = met_course after done old.calls (λ first. (unfailed first).none)

  pub host_fails : is_to_fail meeting.calls ≡ has_come after
  host_fails = ap (λ (h : HostInMemory). is_to_fail h.calls) is ∙ met_fails after done old.calls (λ first. (unfailed first).none)

  pub host_change : (whole half : HostState → HostState) (new : HostInMemory) (result : Result (Unit {0}) HostError)
      → ChangesBy (course_of meeting.calls) whole half meeting new result → ChangesBy (course_at after done) whole half old new result
  host_change whole half new result by =
      change_met (course_at after done) whole half after done old new result
      (subst (λ (course : Course). ChangesBy course whole half (hosts.met after done old) new result) course_is
      (subst (λ (h : HostInMemory). ChangesBy (course_of h.calls) whole half h new result) is by))

  pub host_take : (whole : HostState → HostState) (new : HostInMemory) (result : Result (Unit {0}) HostError)
      → TakesBy (course_of meeting.calls) whole meeting new result → TakesBy (course_at after done) whole old new result
  host_take whole new result by =
      take_met (course_at after done) whole after done old new result
      (subst (λ (course : Course). TakesBy course whole (hosts.met after done old) new result) course_is
      (subst (λ (h : HostInMemory). TakesBy (course_of h.calls) whole h new result) is by))

  pub host_alone : (new : HostInMemory) → new.calls ≡ counted meeting.calls → after ≡ turns.Before → IsUnfailed new
  host_alone new counts = unfailed_before after done old new unfailed (counts ∙ ap (λ (h : HostInMemory). counted h.calls) is)
