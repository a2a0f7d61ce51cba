-- What a stop leaves of a disk in memory.
use Rattle.std.proofs.Common.{◌≡◌, ◌⊎◌, inl, inr, ℕ, ◌+◌, ◌-◌, ◌<◌, ◌≤◌, min, List, [], ◌∷◌, ◌++◌, true, false, length, Some, Result, Ok, Err, IfOk, take, drop, replicate, get_or, refl, sym, ◌∙◌, ap, subst, arith, length-append, length-take, length-drop}
use Rattle.std.proofs.lemmas.List.{get_or-take, get_or-drop, get_or-append_right, get_or_append_left, length-replicate, take_more}
use Rattle.dsc_outside.specs.Images.{DiskState, IsHonest, IsImage, IsOutside, after_sync}
use Rattle.dsc_outside.specs.Disk.{Only}
use Rattle.memory_outside.specs.MemoryDisk.{DiskInMemory, after_outcome, exposed_bytes, filled, held_by, images_of, is_done_sync, part_left, range_filled, range_of, state_after, state_of}
use Rattle.memory_outside.specs.declared.disk_calls.CallOutcome.{CallOutcome}
use Rattle.memory_outside.specs.declared.disk_calls.CallOutcome.TheVariants as outcomes
use Rattle.memory_outside.specs.declared.disk_calls.DiskCall.{DiskCall}
use Rattle.memory_outside.specs.declared.disk_calls.DiskCall.TheVariants as calls
use Rattle.memory_outside.specs.declared.disk_calls.DiskPart.{DiskPart}
use Rattle.memory_outside.specs.declared.disk_calls.DiskPart.TheVariants as parts
use Rattle.memory_outside.specs.declared.disk_calls.RecordedCall.{RecordedCall}
use Rattle.memory_outside.specs.HonestDisk.{state_is_honest}
use Rattle.memory_outside.specs.ReliableDisk.{fresh_disk}
use Rattle.memory_outside.proofs.DiskCalls.{state_push}
use Rattle.memory_outside.proofs.Images.{one_image}

pub length-range_filled : (byte : ℕ) (range : ℕ × ℕ) (held : List ℕ) → length (range_filled byte range held) ≡ length held
length-range_filled byte range held =
    let n = min range.1 (length held - range.0) in
    omega (arith, length-append (take range.0 held ++ replicate n byte) (drop (range.0 + range.1) held), length-append (take range.0 held) (replicate n byte), length-take range.0 held, length-replicate n byte, length-drop (range.0 + range.1) held)

get_or-range_filled : (byte : ℕ) (range : ℕ × ℕ) (held : List ℕ) (k : ℕ) → k < length held → (k < range.0) ⊎ (range.0 + range.1 ≤ k) → get_or (range_filled byte range held) k 0 ≡ get_or held k 0
get_or-range_filled byte range held k low (inl before) =
    let n = min range.1 (length held - range.0) in
    let front = length-take range.0 held in
    let wide = length-append (take range.0 held) (replicate n byte) in
    get_or_append_left (take range.0 held ++ replicate n byte) (drop (range.0 + range.1) held) 0 k (omega arith)
    ∙ get_or_append_left (take range.0 held) (replicate n byte) 0 k (omega arith)
    ∙ get_or-take range.0 held k 0 before
get_or-range_filled byte range held k low (inr after) =
    let n = min range.1 (length held - range.0) in
    let front = length-take range.0 held in
    let wide : length (take range.0 held ++ replicate n byte) ≡ range.0 + range.1 = omega (arith, front, length-replicate n byte, length-append (take range.0 held) (replicate n byte)) in
    get_or-append_right (take range.0 held ++ replicate n byte) (drop (range.0 + range.1) held) (range.0 + range.1) k 0 wide after
    ∙ get_or-drop (range.0 + range.1) held (k - (range.0 + range.1)) 0
    ∙ ap (λ i. get_or held i 0) (omega arith)

length-filled : (byte : ℕ) (ranges : List (ℕ × ℕ)) (held : List ℕ) → length (filled byte ranges held) ≡ length held
length-filled byte [] held = refl
length-filled byte (range ∷ ranges) held = length-filled byte ranges (range_filled byte range held) ∙ length-range_filled byte range held

get_or-filled : (byte : ℕ) (ranges : List (ℕ × ℕ)) (held : List ℕ) (k : ℕ) → k < length held → IsOutside ranges k → get_or (filled byte ranges held) k 0 ≡ get_or held k 0
get_or-filled byte [] held k low outside = refl
get_or-filled byte (range ∷ ranges) held k low outside =
    get_or-filled byte ranges (range_filled byte range held) k (omega (arith, low, length-range_filled byte range held)) outside.1
    ∙ get_or-range_filled byte range held k low outside.0

-- each part is an image
pub part_is_image : (part : DiskPart) (s : DiskState) → IsHonest s → IsImage s (part_left part s)
part_is_image parts.Nothing s honest = honest.synced
part_is_image parts.Whole s honest = honest.held
part_is_image (parts.Filled byte) s honest =
    let long = length-filled byte s.ranges s.held in
    let shorter = honest.held.no_shorter in
    let longer = honest.held.no_longer in
    record {
      no_shorter = omega arith;
      no_longer = omega arith;
      same = λ k l outside. get_or-filled byte s.ranges s.held k (omega arith) outside ∙ honest.held.same k l outside;
    }

-- a disk that is made of a part for the next start holds one of the images, and has no other
pub next_is_image : {E : Type 0} (part : DiskPart) (old : DiskInMemory) (result : Result DiskInMemory E) → IfOk result (λ next. next ≡ fresh_disk (part_left part (state_of old))) → IfOk result (λ next. images_of old (held_by next))
next_is_image part old (Ok next) is = subst (λ (d : DiskInMemory). IsImage (state_of old) (held_by d)) (sym is) (part_is_image part (state_of old) (state_is_honest old))
next_is_image part old (Err error) is = tt

pub next_is_only : {E : Type 0} (bytes : List ℕ) (result : Result DiskInMemory E) → IfOk result (λ next. next ≡ fresh_disk bytes) → IfOk result (λ next. Only (exposed_bytes next) (images_of next))
next_is_only bytes (Ok next) is = subst (λ (d : DiskInMemory). Only (exposed_bytes d) (images_of d)) (sym is) (λ c image. ap Some (sym (one_image bytes c image)))
next_is_only bytes (Err error) is = tt

-- a sync that was done settles what is held
pub sync_settles : (outcome : CallOutcome) (call : DiskCall) (s : DiskState) → is_done_sync outcome call ≡ true → after_outcome outcome call s ≡ after_sync s
sync_settles outcomes.Done calls.Length s is = cc
sync_settles outcomes.Done (calls.ReadAt at room) s is = cc
sync_settles outcomes.Done (calls.WriteAt at bytes) s is = cc
sync_settles outcomes.Done (calls.Cut to) s is = cc
sync_settles outcomes.Done calls.Sync s is = refl
sync_settles outcomes.Failed call s is = cc
sync_settles outcomes.Stopped call s is = cc

-- any other call leaves what was synced, and may add a range
pub others_add : (outcome : CallOutcome) (call : DiskCall) (s : DiskState) → is_done_sync outcome call ≡ false → ((after_outcome outcome call s).synced ≡ s.synced) × ((after_outcome outcome call s).ranges ≡ range_of outcome call ++ s.ranges)
others_add outcomes.Done calls.Length s is = (refl, refl)
others_add outcomes.Done (calls.ReadAt at room) s is = (refl, refl)
others_add outcomes.Done (calls.WriteAt at bytes) s is = (refl, refl)
others_add outcomes.Done (calls.Cut to) s is = (refl, refl)
others_add outcomes.Done calls.Sync s is = absurd cc
others_add outcomes.Failed call s is = (refl, refl)
others_add outcomes.Stopped calls.Length s is = (refl, refl)
others_add outcomes.Stopped (calls.ReadAt at room) s is = (refl, refl)
others_add outcomes.Stopped (calls.WriteAt at bytes) s is = (refl, refl)
others_add outcomes.Stopped (calls.Cut to) s is = (refl, refl)
others_add outcomes.Stopped calls.Sync s is = (refl, refl)

filled-append : (byte : ℕ) (a b : List (ℕ × ℕ)) (held : List ℕ) → filled byte (a ++ b) held ≡ filled byte b (filled byte a held)
filled-append byte [] b held = refl
filled-append byte (range ∷ a) b held = filled-append byte a b (range_filled byte range held)

-- the first n calls, the last of them by itself
pub take_last : (entries : List RecordedCall) (n : ℕ) (last : RecordedCall) → 0 < n → n ≤ length entries → last ≡ get_or entries (n - 1) last → take n entries ≡ take (n - 1) entries ++ last ∷ []
take_last entries n last some low is =
    ap (λ (m : ℕ). take m entries) (omega (arith, some)) ∙ take_more entries (n - 1) last (omega (arith, some, low)) ∙ ap (λ (x : RecordedCall). take (n - 1) entries ++ x ∷ []) (sym is)

module _ (front rest : List RecordedCall) (last : RecordedCall) (is : rest ≡ front ++ last ∷ []) (s : DiskState) where
  one_more_call : state_after rest s ≡ after_outcome last.outcome last.call (state_after front s)
  one_more_call = ap (λ (l : List RecordedCall). state_after l s) is ∙ state_push front last s

  -- what was synced is what the last sync found
  pub synced_there : is_done_sync last.outcome last.call ≡ true → (state_after rest s).synced ≡ (state_after front s).held
  synced_there done = ap (λ (t : DiskState). t.synced) (one_more_call ∙ sync_settles last.outcome last.call (state_after front s) done)

  pub synced_before : is_done_sync last.outcome last.call ≡ false → (state_after rest s).synced ≡ (state_after front s).synced
  synced_before other = ap (λ (t : DiskState). t.synced) one_more_call ∙ (others_add last.outcome last.call (state_after front s) other).0

  pub no_ranges : is_done_sync last.outcome last.call ≡ true → (state_after rest s).ranges ≡ []
  no_ranges done = ap (λ (t : DiskState). t.ranges) (one_more_call ∙ sync_settles last.outcome last.call (state_after front s) done)

  pub ranges_grow : is_done_sync last.outcome last.call ≡ false → (state_after rest s).ranges ≡ range_of last.outcome last.call ++ (state_after front s).ranges
  ranges_grow other = ap (λ (t : DiskState). t.ranges) one_more_call ∙ (others_add last.outcome last.call (state_after front s) other).1

  -- the last range is filled, and then those before it
  pub fill_more : (byte : ℕ) (bytes next : List ℕ) → is_done_sync last.outcome last.call ≡ false → next ≡ filled byte (range_of last.outcome last.call) bytes → filled byte (state_after front s).ranges next ≡ filled byte (state_after rest s).ranges bytes
  fill_more byte bytes next other done =
      ap (filled byte (state_after front s).ranges) done
      ∙ sym (filled-append byte (range_of last.outcome last.call) (state_after front s).ranges bytes)
      ∙ ap (λ (ranges : List (ℕ × ℕ)). filled byte ranges bytes) (sym (ranges_grow other))
