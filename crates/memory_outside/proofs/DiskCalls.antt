-- What the calls of a disk in memory make of it.
use Rattle.std.proofs.Common.{◌≡◌, ◌⊎◌, inl, inr, ⊎_elim, ℕ, ◌+◌, ◌<◌, ◌≤◌, List, [], ◌∷◌, ◌++◌, Bool, true, false, Some, Result, Ok, Err, is_ok, IfOk, IsOk, OnErr, OnOk, length, take, refl, sym, ◌∙◌, ap, subst, arith, length-append}
use Rattle.std.proofs.lemmas.List.{take_all, take-append-le}
use Rattle.std.proofs.lemmas.Bool.{cases_lt}
use Rattle.dsc_terms.specs.Counts.{Rose}
use Rattle.dsc_outside.specs.Disk.{Cut, Elapses, Follows, Only, Torn, Within, written}
use Rattle.dsc_outside.specs.Images.{DiskState, IsHonest, IsImage, after_cut, after_write, settled}
use Rattle.memory_outside.specs.MemoryDisk.{DiskInMemory, Goes, Keeps, Looks, after_begun, after_done, after_outcome, bytes_after, held_by, images_of, left_at, recorded, Settles, state_after, state_of}
use Rattle.memory_outside.specs.declared.disk_calls.CallOutcome.{CallOutcome}
use Rattle.memory_outside.specs.declared.disk_calls.CallOutcome.TheVariants as outcomes
use Rattle.memory_outside.specs.declared.disk_calls.DiskCall.{DiskCall}
use Rattle.memory_outside.specs.declared.disk_calls.DiskCall.TheVariants as calls
use Rattle.memory_outside.specs.declared.disk_calls.RecordedCall.{RecordedCall}
use Rattle.dsc_outside.specs.Causes.{HasCause, one_more}
use Rattle.memory_outside.specs.Memory.{CallCount}
use Rattle.memory_outside.specs.HonestDisk.{state_is_honest}
use Rattle.memory_outside.proofs.Images.{cut_follows, one_image, write_follows}
use Rattle.dsc_outside.proofs.Moments.{cut_same, torn_same}

-- one call more
pub state_push : (entries : List RecordedCall) (entry : RecordedCall) (s : DiskState) → state_after (entries ++ entry ∷ []) s ≡ after_outcome entry.outcome entry.call (state_after entries s)
state_push [] entry s = refl
state_push (first ∷ entries) entry s = state_push entries entry (after_outcome first.outcome first.call s)

-- what the bytes are after a call
pub bytes_are : (outcome : CallOutcome) (call : DiskCall) (s : DiskState) → (after_outcome outcome call s).held ≡ bytes_after outcome call s.held
bytes_are outcomes.Done calls.Length s = refl
bytes_are outcomes.Done (calls.ReadAt at room) s = refl
bytes_are outcomes.Done (calls.WriteAt at bytes) s = refl
bytes_are outcomes.Done (calls.Cut to) s = refl
bytes_are outcomes.Done calls.Sync s = refl
bytes_are outcomes.Failed call s = refl
bytes_are outcomes.Stopped calls.Length s = refl
bytes_are outcomes.Stopped (calls.ReadAt at room) s = refl
bytes_are outcomes.Stopped (calls.WriteAt at bytes) s = refl
bytes_are outcomes.Stopped (calls.Cut to) s = refl
bytes_are outcomes.Stopped calls.Sync s = refl

pub bytes_push : (bytes next : List ℕ) (entries more : List RecordedCall) (entry : RecordedCall) (s : DiskState) → bytes ≡ (state_after entries s).held → next ≡ bytes_after entry.outcome entry.call bytes → more ≡ entries ++ entry ∷ [] → next ≡ (state_after more s).held
bytes_push bytes next entries more entry s is after grown =
    after ∙ ap (bytes_after entry.outcome entry.call) is
    ∙ sym (bytes_are entry.outcome entry.call (state_after entries s))
    ∙ ap (λ (t : DiskState). t.held) (sym (state_push entries entry s))
    ∙ ap (λ (l : List RecordedCall). (state_after l s).held) (sym grown)

-- the bytes keep up with the record
pub bytes_keep_up : {E F : Type 0} (first bytes next : List ℕ) (entries more : List RecordedCall) (asked : Result DiskCall E) (outcome : CallOutcome) (tried : Result (Unit {0}) F)
    → bytes ≡ (state_after entries (settled first)).held → OnOk tried (IfOk asked (λ call. more ≡ entries ++ record { call = call; outcome = outcome } ∷ [])) → OnOk tried (IfOk asked (λ call. next ≡ bytes_after outcome call bytes)) → OnOk tried (IsOk asked) → OnErr tried ((more ≡ entries) × (next ≡ bytes))
    → next ≡ (state_after more (settled first)).held
bytes_keep_up first bytes next entries more (Ok call) outcome (Ok done) is grown after asked none = bytes_push bytes next entries more (record { call = call; outcome = outcome }) (settled first) is after grown
bytes_keep_up first bytes next entries more (Err error) outcome (Ok done) is grown after asked none = cc
bytes_keep_up first bytes next entries more asked' outcome (Err error) is grown after asked none = none.1 ∙ is ∙ ap (λ (l : List RecordedCall). (state_after l (settled first)).held) (sym none.0)

-- a disk of other counts is the same disk
abbrev pub Recounted : DiskInMemory → DiskInMemory → Type 0
Recounted old new = (new.first ≡ old.first) × (new.calls ≡ old.calls)

kept : (call : DiskCall) (old : DiskInMemory) (P : DiskInMemory → Type 0) → ((outcome : CallOutcome) → P (recorded call outcome old)) → ((new : DiskInMemory) → Recounted old new → P new)
    → (outcome : CallOutcome) (new : DiskInMemory) → Keeps call outcome old new → P new
kept call old P with' without outcome new (inl is) = subst P (sym is) (with' outcome)
kept call old P with' without outcome new (inr is) = without new (ap (λ (d : DiskInMemory). d.first) is, ap (λ (d : DiskInMemory). d.calls) is)

-- what holds of a disk with the call in its record, and of one without it, holds after the call
pub goes_all : (call : DiskCall) (old : DiskInMemory) (P : DiskInMemory → Type 0) → ((outcome : CallOutcome) → P (recorded call outcome old)) → ((new : DiskInMemory) → Recounted old new → P new)
    → (outcome : CallOutcome) (succeeded : Bool) (new : DiskInMemory) → Goes outcome call old succeeded new → P new
goes_all call old P with' without outcomes.Done true new is = subst P (sym is) (with' outcomes.Done)
goes_all call old P with' without outcomes.Done false new is = without new (ap (λ (d : DiskInMemory). d.first) is, ap (λ (d : DiskInMemory). d.calls) is)
goes_all call old P with' without outcomes.Failed true new is = absurd is
goes_all call old P with' without outcomes.Failed false new is = kept call old P with' without outcomes.Failed new is
goes_all call old P with' without outcomes.Stopped true new is = absurd is
goes_all call old P with' without outcomes.Stopped false new is = kept call old P with' without outcomes.Stopped new is

-- what is the same in the record and in the first bytes is the same of the disk
recounted : (P : List ℕ → List RecordedCall → Type 0) (old new : DiskInMemory) → Recounted old new → P old.first old.calls → P new.first new.calls
recounted P old new same p = subst (λ (f : List ℕ). P f new.calls) (sym same.0) (subst (λ (l : List RecordedCall). P old.first l) (sym same.1) p)

abbrev ImagesOf : List ℕ → List RecordedCall → List ℕ → Type 0
ImagesOf first entries = IsImage (state_after entries (settled first))

abbrev Since : List ℕ → List RecordedCall → ℕ → List ℕ → Type 0
Since first entries t c = (k : ℕ) × (t ≤ k) × (k ≤ length entries) × IsImage (state_after (take k entries) (settled first)) c

-- time goes on by one call
elapses_push : (first : List ℕ) (entries : List RecordedCall) (entry : RecordedCall) → Elapses (length entries) (length (entries ++ entry ∷ [])) (Since first entries) (Since first (entries ++ entry ∷ [])) (ImagesOf first (entries ++ entry ∷ []))
elapses_push first entries entry = record {
  later = omega (arith, long);
  nothing_else = λ t c le since. passed t c since;
  keeps = λ t c le since. (since.0, since.1, omega (arith, long, since.2), subst (λ (l : List RecordedCall). IsImage (state_after l (settled first)) c) (sym (take-append-le since.0 entries (entry ∷ []) since.2)) since.3);
}
  where
    long : length (entries ++ entry ∷ []) ≡ length entries + 1
    long = length-append entries (entry ∷ [])

    passed : (t : ℕ) (c : List ℕ) → Since first (entries ++ entry ∷ []) t c → Since first entries t c ⊎ ImagesOf first (entries ++ entry ∷ []) c
    passed t c (k, from, low, image) = ⊎_elim
        (λ (past : k < length entries + 1). inl (k, from, omega (arith, past), subst (λ (l : List RecordedCall). IsImage (state_after l (settled first)) c) (take-append-le k entries (entry ∷ []) (omega (arith, past))) image))
        (λ (now : length entries + 1 ≤ k). inr (subst (λ (l : List RecordedCall). IsImage (state_after l (settled first)) c) (take_all k (entries ++ entry ∷ []) (omega (arith, now, long))) image))
        (cases_lt k (length entries + 1))

elapses_same : (first : List ℕ) (entries : List RecordedCall) → Elapses (length entries) (length entries) (Since first entries) (Since first entries) (ImagesOf first entries)
elapses_same first entries = record { later = omega arith; nothing_else = λ t c le left. inl left; keeps = λ t c le left. left }

abbrev pub Passes : DiskInMemory → DiskInMemory → Type 0
Passes old new = Elapses (length old.calls) (length new.calls) (left_at old) (left_at new) (images_of new)

-- each call takes its time
pub time_passes : (outcome : CallOutcome) (call : DiskCall) (old : DiskInMemory) (succeeded : Bool) (new : DiskInMemory) → Goes outcome call old succeeded new → Passes old new
time_passes outcome call old succeeded new goes = goes_all call old (Passes old)
    (λ o. elapses_push old.first old.calls (record { call = call; outcome = o }))
    (λ d same. recounted (λ first entries. Elapses (length old.calls) (length entries) (left_at old) (Since first entries) (ImagesOf first entries)) old d same (elapses_same old.first old.calls))
    outcome succeeded new goes

looked_held : (outcome : CallOutcome) (call : DiskCall) (s : DiskState) → Looks call → (after_outcome outcome call s).held ≡ s.held
looked_held outcomes.Done calls.Length s looks = refl
looked_held outcomes.Done (calls.ReadAt at room) s looks = refl
looked_held outcomes.Done (calls.WriteAt at bytes) s looks = absurd looks
looked_held outcomes.Done (calls.Cut to) s looks = absurd looks
looked_held outcomes.Done calls.Sync s looks = refl
looked_held outcomes.Failed call s looks = refl
looked_held outcomes.Stopped calls.Length s looks = refl
looked_held outcomes.Stopped (calls.ReadAt at room) s looks = refl
looked_held outcomes.Stopped (calls.WriteAt at bytes) s looks = absurd looks
looked_held outcomes.Stopped (calls.Cut to) s looks = absurd looks
looked_held outcomes.Stopped calls.Sync s looks = refl

looked_within : (outcome : CallOutcome) (call : DiskCall) (s : DiskState) → Looks call → IsHonest s → Within (IsImage s) (IsImage (after_outcome outcome call s))
looked_within outcomes.Done calls.Length s looks honest c image = image
looked_within outcomes.Done (calls.ReadAt at room) s looks honest c image = image
looked_within outcomes.Done (calls.WriteAt at bytes) s looks honest c image = absurd looks
looked_within outcomes.Done (calls.Cut to) s looks honest c image = absurd looks
looked_within outcomes.Done calls.Sync s looks honest c image = subst (IsImage s) (sym (one_image s.held c image)) honest.held
looked_within outcomes.Failed call s looks honest c image = image
looked_within outcomes.Stopped calls.Length s looks honest c image = image
looked_within outcomes.Stopped (calls.ReadAt at room) s looks honest c image = image
looked_within outcomes.Stopped (calls.WriteAt at bytes) s looks honest c image = absurd looks
looked_within outcomes.Stopped (calls.Cut to) s looks honest c image = absurd looks
looked_within outcomes.Stopped calls.Sync s looks honest c image = image

-- a look leaves what a read gives
pub look_keeps : (outcome : CallOutcome) (call : DiskCall) (old : DiskInMemory) (succeeded : Bool) (new : DiskInMemory) → Looks call → Goes outcome call old succeeded new → held_by new ≡ held_by old
look_keeps outcome call old succeeded new looks goes = goes_all call old (λ d. held_by d ≡ held_by old)
    (λ o. ap (λ (s : DiskState). s.held) (state_push old.calls (record { call = call; outcome = o }) (settled old.first)) ∙ looked_held o call (state_of old) looks)
    (λ d same. recounted (λ first entries. (state_after entries (settled first)).held ≡ held_by old) old d same refl)
    outcome succeeded new goes

-- it brings no image
pub look_is_within : (outcome : CallOutcome) (call : DiskCall) (old : DiskInMemory) (succeeded : Bool) (new : DiskInMemory) → Looks call → Goes outcome call old succeeded new → Within (images_of old) (images_of new)
look_is_within outcome call old succeeded new looks goes = goes_all call old (λ d. Within (images_of old) (images_of d))
    (λ o c image. looked_within o call (state_of old) looks (state_is_honest old) c (subst (λ (s : DiskState). IsImage s c) (state_push old.calls (record { call = call; outcome = o }) (settled old.first)) image))
    (λ d same. recounted (λ first entries. Within (images_of old) (ImagesOf first entries)) old d same (λ c image. image))
    outcome succeeded new goes

-- a step that leaves the disk as it is may be any part of a change
outcome_follows : (step : List ℕ → List ℕ → Type 0) (outcome : CallOutcome) (call : DiskCall) (s : DiskState) → ((c : List ℕ) → step c c) → Follows step (IsImage s) (IsImage (after_done call s)) → Follows step (IsImage s) (IsImage (after_begun call s)) → Follows step (IsImage s) (IsImage (after_outcome outcome call s))
outcome_follows step outcomes.Done call s none done begun = done
outcome_follows step outcomes.Failed call s none done begun = λ c image. (c, image, none c)
outcome_follows step outcomes.Stopped call s none done begun = begun

change_follows : (step : List ℕ → List ℕ → Type 0) (outcome : CallOutcome) (call : DiskCall) (old : DiskInMemory) (succeeded : Bool) (new : DiskInMemory) → ((c : List ℕ) → step c c) → Follows step (images_of old) (IsImage (after_done call (state_of old))) → Follows step (images_of old) (IsImage (after_begun call (state_of old)))
    → Goes outcome call old succeeded new → Follows step (images_of old) (images_of new)
change_follows step outcome call old succeeded new none done begun goes = goes_all call old (λ d. Follows step (images_of old) (images_of d))
    (λ o c image. outcome_follows step o call (state_of old) none done begun c (subst (λ (s : DiskState). IsImage s c) (state_push old.calls (record { call = call; outcome = o }) (settled old.first)) image))
    (λ d same. recounted (λ first entries. Follows step (images_of old) (ImagesOf first entries)) old d same (λ c image. (c, image, none c)))
    outcome succeeded new goes

pub write_is_torn : (outcome : CallOutcome) (at : ℕ) (bytes : List ℕ) (old : DiskInMemory) (succeeded : Bool) (new : DiskInMemory) → at ≤ length (held_by old) → Goes outcome (calls.WriteAt at bytes) old succeeded new → Follows (Torn at (length bytes)) (images_of old) (images_of new)
write_is_torn outcome at bytes old succeeded new low goes =
    let follows : Follows (Torn at (length bytes)) (images_of old) (IsImage (after_write at bytes (state_of old))) = λ c image. write_follows at bytes (state_of old) c (state_is_honest old) low image in
    change_follows (Torn at (length bytes)) outcome (calls.WriteAt at bytes) old succeeded new (torn_same at (length bytes)) follows follows goes

pub cut_is_torn : (outcome : CallOutcome) (to : ℕ) (old : DiskInMemory) (succeeded : Bool) (new : DiskInMemory) → Goes outcome (calls.Cut to) old succeeded new → Follows (Cut to) (images_of old) (images_of new)
cut_is_torn outcome to old succeeded new goes =
    let follows : Follows (Cut to) (images_of old) (IsImage (after_cut to (state_of old))) = λ c image. cut_follows to (state_of old) c (state_is_honest old) image in
    change_follows (Cut to) outcome (calls.Cut to) old succeeded new (cut_same to) follows follows goes

-- what a call that succeeded did
pub done_state : (outcome : CallOutcome) (call : DiskCall) (old new : DiskInMemory) → Goes outcome call old true new → state_of new ≡ after_done call (state_of old)
done_state outcomes.Done call old new is = ap state_of is ∙ state_push old.calls (record { call = call; outcome = outcomes.Done }) (settled old.first)
done_state outcomes.Failed call old new is = absurd is
done_state outcomes.Stopped call old new is = absurd is

-- where it succeeded, a write wrote the bytes
pub write_is_done : {E : Type 0} (outcome : CallOutcome) (at : ℕ) (bytes : List ℕ) (old : DiskInMemory) (result : Result (Unit {0}) E) (new : DiskInMemory) → Goes outcome (calls.WriteAt at bytes) old (is_ok result) new → OnOk result (Some (held_by new) ≡ Some (written at bytes (held_by old)))
write_is_done outcome at bytes old (Ok done) new goes = ap (λ (s : DiskState). Some s.held) (done_state outcome (calls.WriteAt at bytes) old new goes)
write_is_done outcome at bytes old (Err error) new goes = tt

-- a cut cut the disk
pub cut_is_done : {E : Type 0} (outcome : CallOutcome) (to : ℕ) (old : DiskInMemory) (result : Result (Unit {0}) E) (new : DiskInMemory) → Goes outcome (calls.Cut to) old (is_ok result) new → OnOk result (Some (held_by new) ≡ Some (take to (held_by old)))
cut_is_done outcome to old (Ok done) new goes = ap (λ (s : DiskState). Some s.held) (done_state outcome (calls.Cut to) old new goes)
cut_is_done outcome to old (Err error) new goes = tt

-- and a sync left one image
pub sync_is_done : {E : Type 0} (outcome : CallOutcome) (old : DiskInMemory) (result : Result (Unit {0}) E) (new : DiskInMemory) → Goes outcome calls.Sync old (is_ok result) new → OnOk result (Only (Some (held_by old)) (images_of new))
sync_is_done outcome old (Ok done) new goes = λ c image. ap Some (sym (one_image (held_by old) c (subst (λ (s : DiskState). IsImage s c) (done_state outcome calls.Sync old new goes) image)))
sync_is_done outcome old (Err error) new goes = tt

rose_more : (before now after : ℕ) → before ≤ now → after ≡ one_more now → Rose before after
rose_more before now after later is = omega (arith, later, is)

-- a call that failed raised the count of faults
pub settles_with_cause : {E F : Type 0} (outcome : CallOutcome) (tried : Result (Unit {0}) F) (before : ℕ) (short short_after : Bool) (count count_after : CallCount) (result : Result (Unit {0}) E)
    → before ≤ count.faults → count.faults ≤ count_after.faults → ((outcome ≡ outcomes.Done → ⊥) → Rose before count.faults) → Settles outcome tried short count result short_after count_after → HasCause before count_after.faults result
settles_with_cause outcomes.Done (Ok done) before short short_after count count_after (Ok answer) later grown cause (is, shown, same) = record { later = rw same later; failed = tt }
settles_with_cause outcomes.Done (Ok done) before short short_after count count_after (Err error) later grown cause (is, shown, same) = cc
settles_with_cause outcomes.Done (Err none) before short short_after count count_after (Ok answer) later grown cause (is, shown, same) = cc
settles_with_cause outcomes.Done (Err none) before short short_after count count_after (Err error) later grown cause (is, shown, same) = record { later = omega (arith, later, grown); failed = rose_more before count.faults count_after.faults later (ap (λ (k : CallCount). k.faults) same) }
settles_with_cause outcomes.Failed (Ok done) before short short_after count count_after (Ok answer) later grown cause (is, shown, same) = cc
settles_with_cause outcomes.Failed (Ok done) before short short_after count count_after (Err error) later grown cause (is, shown, same) = record { later = rw same later; failed = rw same (cause (λ done'. cc)) }
settles_with_cause outcomes.Failed (Err none) before short short_after count count_after (Ok answer) later grown cause (is, shown, same) = cc
settles_with_cause outcomes.Failed (Err none) before short short_after count count_after (Err error) later grown cause (is, shown, same) = record { later = rw same later; failed = rw same (cause (λ done'. cc)) }
settles_with_cause outcomes.Stopped (Ok done) before short short_after count count_after (Ok answer) later grown cause (is, shown, same) = cc
settles_with_cause outcomes.Stopped (Ok done) before short short_after count count_after (Err error) later grown cause (is, shown, same) = record { later = rw same later; failed = rw same (cause (λ done'. cc)) }
settles_with_cause outcomes.Stopped (Err none) before short short_after count count_after (Ok answer) later grown cause (is, shown, same) = cc
settles_with_cause outcomes.Stopped (Err none) before short short_after count count_after (Err error) later grown cause (is, shown, same) = record { later = rw same later; failed = rw same (cause (λ done'. cc)) }
