-- A disk in memory, whatever its calls were, reads as one of its images.
use Rattle.std.proofs.Common.{◌≡◌, ◌⊎◌, inl, inr, ℕ, ◌+◌, ◌-◌, ◌<◌, ◌≤◌, min, List, [], ◌∷◌, ◌++◌, Some, length, take, drop, get_or, refl, sym, ◌∙◌, ap, subst, arith, length-append, length-take, length-drop}
use Rattle.std.proofs.lemmas.List.{get_or-take, get_or-drop, get_or-append_right, get_or_append_left, take_all}
use Rattle.std.proofs.lemmas.Option.{same_Some}
use Rattle.dsc_outside.specs.Disk.{written}
use Rattle.dsc_outside.specs.Images.{DiskState, IsHonest, IsImage, after_cut, after_write, settled}
use Rattle.memory_outside.specs.MemoryDisk.{DiskInMemory, after_begun, after_done, after_outcome, held_by, images_of, left_at, state_after, state_of}
use Rattle.memory_outside.specs.declared.disk_calls.CallOutcome.{CallOutcome}
use Rattle.memory_outside.specs.declared.disk_calls.CallOutcome.TheVariants as outcomes
use Rattle.memory_outside.specs.declared.disk_calls.DiskCall.{DiskCall}
use Rattle.memory_outside.specs.declared.disk_calls.DiskCall.TheVariants as calls
use Rattle.memory_outside.specs.declared.disk_calls.RecordedCall.{RecordedCall}

pub length-written : (at : ℕ) (bytes held : List ℕ) → length (written at bytes held) ≡ min at (length held) + length bytes + (length held - (at + length bytes))
length-written at bytes held = omega (arith, length-append (take at held ++ bytes) (drop (at + length bytes) held), length-append (take at held) bytes, length-take at held, length-drop (at + length bytes) held)

-- outside the range a write leaves the bytes
pub get_or-written : (at : ℕ) (bytes held : List ℕ) (k : ℕ) → k < length held → (k < at) ⊎ (at + length bytes ≤ k) → get_or (written at bytes held) k 0 ≡ get_or held k 0
get_or-written at bytes held k low (inl before) =
    let front = length-take at held in
    let wide = length-append (take at held) bytes in
    get_or_append_left (take at held ++ bytes) (drop (at + length bytes) held) 0 k (omega arith)
    ∙ get_or_append_left (take at held) bytes 0 k (omega arith)
    ∙ get_or-take at held k 0 before
get_or-written at bytes held k low (inr after) =
    let front = length-take at held in
    let wide : length (take at held ++ bytes) ≡ at + length bytes = omega (arith, front, length-append (take at held) bytes) in
    get_or-append_right (take at held ++ bytes) (drop (at + length bytes) held) (at + length bytes) k 0 wide after
    ∙ get_or-drop (at + length bytes) held (k - (at + length bytes)) 0
    ∙ ap (λ i. get_or held i 0) (omega arith)

pub settled_is_honest : (bytes : List ℕ) → IsHonest (settled bytes)
settled_is_honest bytes = record {
  held = record { no_shorter = omega arith; no_longer = omega arith; same = λ k l outside. refl };
  synced = record { no_shorter = omega arith; no_longer = omega arith; same = λ k l outside. refl };
}

pub write_is_honest : (at : ℕ) (bytes : List ℕ) (s : DiskState) → IsHonest s → IsHonest (after_write at bytes s)
write_is_honest at bytes s honest =
    let long = length-written at bytes s.held in
    let shorter = honest.held.no_shorter in
    let longer = honest.held.no_longer in
    let synced_shorter = honest.synced.no_shorter in
    let synced_longer = honest.synced.no_longer in
    record {
      held = record {
        no_shorter = omega arith;
        no_longer = omega arith;
        same = λ k l outside. get_or-written at bytes s.held k (omega arith) outside.0 ∙ honest.held.same k (omega arith) outside.1;
      };
      synced = record { no_shorter = omega arith; no_longer = omega arith; same = λ k l outside. refl };
    }

pub cut_is_honest : (to : ℕ) (s : DiskState) → IsHonest s → IsHonest (after_cut to s)
cut_is_honest to s honest =
    let long = length-take to s.held in
    let shorter = honest.held.no_shorter in
    let longer = honest.held.no_longer in
    let synced_shorter = honest.synced.no_shorter in
    let synced_longer = honest.synced.no_longer in
    record {
      held = record {
        no_shorter = omega arith;
        no_longer = omega arith;
        same = λ k l outside. get_or-take to s.held k 0 (omega arith) ∙ honest.held.same k (omega arith) outside;
      };
      synced = record { no_shorter = omega arith; no_longer = omega arith; same = λ k l outside. refl };
    }

done_is_honest : (call : DiskCall) (s : DiskState) → IsHonest s → IsHonest (after_done call s)
done_is_honest calls.Length s honest = honest
done_is_honest (calls.ReadAt at room) s honest = honest
done_is_honest (calls.WriteAt at bytes) s honest = write_is_honest at bytes s honest
done_is_honest (calls.Cut to) s honest = cut_is_honest to s honest
done_is_honest calls.Sync s honest = settled_is_honest s.held

begun_is_honest : (call : DiskCall) (s : DiskState) → IsHonest s → IsHonest (after_begun call s)
begun_is_honest calls.Length s honest = honest
begun_is_honest (calls.ReadAt at room) s honest = honest
begun_is_honest (calls.WriteAt at bytes) s honest = write_is_honest at bytes s honest
begun_is_honest (calls.Cut to) s honest = cut_is_honest to s honest
begun_is_honest calls.Sync s honest = honest

outcome_is_honest : (outcome : CallOutcome) (call : DiskCall) (s : DiskState) → IsHonest s → IsHonest (after_outcome outcome call s)
outcome_is_honest outcomes.Done call s honest = done_is_honest call s honest
outcome_is_honest outcomes.Failed call s honest = honest
outcome_is_honest outcomes.Stopped call s honest = begun_is_honest call s honest

pub calls_are_honest : (entries : List RecordedCall) (s : DiskState) → IsHonest s → IsHonest (state_after entries s)
calls_are_honest [] s honest = honest
calls_are_honest (entry ∷ entries) s honest = calls_are_honest entries _ (outcome_is_honest entry.outcome entry.call s honest)

-- whatever its record, a disk reads as one of its images
pub state_is_honest : (disk : DiskInMemory) → IsHonest (state_of disk)
state_is_honest disk = calls_are_honest disk.calls (settled disk.first) (settled_is_honest disk.first)

pub disk_is_honest : (disk : DiskInMemory) (held : List ℕ) → Some (held_by disk) ≡ Some held → images_of disk held
disk_is_honest disk held is = subst (images_of disk) (same_Some _ _ is) (state_is_honest disk).held

pub moment_counts : (disk : DiskInMemory) (t : ℕ) (c : List ℕ) → t ≤ length disk.calls → images_of disk c → left_at disk t c
moment_counts disk t c le image = (length disk.calls, le, omega arith, subst (λ (entries : List RecordedCall). IsImage (state_after entries (settled disk.first)) c) (sym (take_all (length disk.calls) disk.calls (omega arith))) image)

pub moment_is_only : (disk : DiskInMemory) (c : List ℕ) → left_at disk (length disk.calls) c → images_of disk c
moment_is_only disk c (k, from, low, image) = subst (λ (entries : List RecordedCall). IsImage (state_after entries (settled disk.first)) c) (take_all k disk.calls from) image
