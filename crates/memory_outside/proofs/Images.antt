-- The images of a disk follow the calls as every disk promises it.
use Rattle.std.proofs.Common.{◌≡◌, inl, inr, ⊎_elim, ℕ, ◌+◌, ◌-◌, ◌<◌, ◌≤◌, min, max, List, length, take, drop, get_or, map, refl, sym, ◌∙◌, arith, length-take, length-drop, cond, ltb}
use Rattle.std.proofs.lemmas.Bool.{cases_lt, cond_below, cond_above}
use Rattle.std.specs.List.{range_with_len}
use Rattle.std.proofs.lemmas.Grind.{same_number_lists}
use Rattle.std.proofs.lemmas.List.{get_or-take, get_or-drop}
use Rattle.std.proofs.lemmas.List.FromFn.{length-map-range_with_len, get_or-map-range_with_len}
use Rattle.dsc_outside.specs.Disk.{Torn, Cut, From}
use Rattle.memory_outside.specs.HonestDisk.{length-written}
use Rattle.dsc_outside.specs.Images.{DiskState, IsHonest, IsImage, IsOutside, after_cut, after_write, settled}

-- a list by its length and its numbers
abbrev listed : (ℕ → ℕ) → ℕ → List ℕ
listed f n = map f (range_with_len 0 n)

length-listed : (f : ℕ → ℕ) (n : ℕ) → length (listed f n) ≡ n
length-listed f n = length-map-range_with_len f 0 n

get_or-listed : (f : ℕ → ℕ) (n k : ℕ) → k < n → get_or (listed f n) k 0 ≡ f k
get_or-listed f n k l = get_or-map-range_with_len f 0 n k k 0 l (omega arith)

-- the front of two lists that are the same there
same_fronts : (n : ℕ) (a b : List ℕ) → min n (length a) ≡ min n (length b) → ((k : ℕ) → k < n → k < length a → get_or a k 0 ≡ get_or b k 0) → take n a ≡ take n b
same_fronts n a b len each = same_number_lists (take n a) (take n b) (omega (arith, len, length-take n a, length-take n b))
    (λ k l. get_or-take n a k 0 (omega (arith, length-take n a)) ∙ each k (omega (arith, length-take n a)) (omega (arith, length-take n a)) ∙ sym (get_or-take n b k 0 (omega (arith, length-take n a))))

-- their ends
same_ends : (n : ℕ) (a b : List ℕ) → length a - n ≡ length b - n → ((k : ℕ) → n ≤ k → k < length a → get_or a k 0 ≡ get_or b k 0) → drop n a ≡ drop n b
same_ends n a b len each = same_number_lists (drop n a) (drop n b) (omega (arith, len, length-drop n a, length-drop n b))
    (λ k l. get_or-drop n a k 0 ∙ each (n + k) (omega arith) (omega (arith, length-drop n a)) ∙ sym (get_or-drop n b k 0))

-- right after a sync there is one image
pub one_image : (bytes c : List ℕ) → IsImage (settled bytes) c → c ≡ bytes
one_image bytes c image = same_number_lists c bytes (omega (arith, image.no_shorter, image.no_longer)) (λ k l. image.same k (omega (arith, image.no_longer)) tt)

-- the older image, of which a torn write makes that one: what was synced in the range, and else what is there
abbrev unwritten : ℕ → ℕ → List ℕ → List ℕ → ℕ → ℕ
unwritten at n synced c k = cond (ltb k at) (get_or c k 0) (cond (ltb k (at + n)) (get_or synced k 0) (get_or c k 0))

unwritten_before : (at n : ℕ) (synced c : List ℕ) (k : ℕ) → k < at → unwritten at n synced c k ≡ get_or c k 0
unwritten_before at n synced c k low = sym (cond_below k at (get_or c k 0) _ low)

unwritten_within : (at n : ℕ) (synced c : List ℕ) (k : ℕ) → at ≤ k → k < at + n → unwritten at n synced c k ≡ get_or synced k 0
unwritten_within at n synced c k from low = sym (cond_above k at (get_or c k 0) _ (get_or synced k 0) from (cond_below k (at + n) (get_or synced k 0) (get_or c k 0) low))

unwritten_after : (at n : ℕ) (synced c : List ℕ) (k : ℕ) → at + n ≤ k → unwritten at n synced c k ≡ get_or c k 0
unwritten_after at n synced c k from = sym (cond_above k at (get_or c k 0) _ (get_or c k 0) (omega arith) (cond_above k (at + n) (get_or synced k 0) (get_or c k 0) (get_or c k 0) from refl))

-- a write is torn, as every disk promises it
pub write_follows : (at : ℕ) (bytes : List ℕ) (s : DiskState) (c : List ℕ) → IsHonest s → at ≤ length s.held → IsImage (after_write at bytes s) c → From (Torn at (length bytes)) (IsImage s) c
write_follows at bytes s c honest low image =
    let n = length bytes in
    let m = min (length c) s.greatest in
    let f = unwritten at n s.synced c in
    let d = listed f m in
    let long : length d ≡ m = length-listed f m in
    let wide = length-written at bytes s.held in
    let shorter = honest.held.no_shorter in
    let longer = honest.held.no_longer in
    let c_shorter = image.no_shorter in
    let c_longer = image.no_longer in
    let same : (k : ℕ) → k < s.least → IsOutside s.ranges k → get_or d k 0 ≡ get_or s.synced k 0 = λ k l outside.
    get_or-listed f m k (omega arith) ∙ ⊎_elim
    (λ before. unwritten_before at n s.synced c k before ∙ image.same k (omega arith) (inl before, outside))
    (λ from. ⊎_elim
    (λ within. unwritten_within at n s.synced c k from within)
    (λ after. unwritten_after at n s.synced c k after ∙ image.same k (omega arith) (inr after, outside))
    (cases_lt k (at + n)))
    (cases_lt k at) in (
      d,
      record { no_shorter = omega arith; no_longer = omega arith; same = same },
      record {
        before = same_fronts at c d (omega arith) (λ k l in'. sym (unwritten_before at n s.synced c k l) ∙ sym (get_or-listed f m k (omega arith)));
        after = same_ends (at + n) c d (omega arith) (λ k from in'. sym (unwritten_after at n s.synced c k from) ∙ sym (get_or-listed f m k (omega arith)));
        no_shorter = omega arith;
        no_longer = omega arith;
      },
    )

-- the older image, of which a torn cut makes that one
abbrev uncut : ℕ → List ℕ → List ℕ → ℕ → ℕ
uncut to synced c k = cond (ltb k to) (get_or c k 0) (get_or synced k 0)

uncut_before : (to : ℕ) (synced c : List ℕ) (k : ℕ) → k < to → uncut to synced c k ≡ get_or c k 0
uncut_before to synced c k low = sym (cond_below k to (get_or c k 0) (get_or synced k 0) low)

uncut_after : (to : ℕ) (synced c : List ℕ) (k : ℕ) → to ≤ k → uncut to synced c k ≡ get_or synced k 0
uncut_after to synced c k from = sym (cond_above k to (get_or c k 0) (get_or synced k 0) (get_or synced k 0) from refl)

pub cut_follows : (to : ℕ) (s : DiskState) (c : List ℕ) → IsHonest s → IsImage (after_cut to s) c → From (Cut to) (IsImage s) c
cut_follows to s c honest image =
    let m = max (length c) s.least in
    let f = uncut to s.synced c in
    let d = listed f m in
    let long : length d ≡ m = length-listed f m in
    let wide = length-take to s.held in
    let shorter = honest.held.no_shorter in
    let longer = honest.held.no_longer in
    let c_shorter = image.no_shorter in
    let c_longer = image.no_longer in
    let same : (k : ℕ) → k < s.least → IsOutside s.ranges k → get_or d k 0 ≡ get_or s.synced k 0 = λ k l outside.
    get_or-listed f m k (omega arith) ∙ ⊎_elim
    (λ before. uncut_before to s.synced c k before ∙ image.same k (omega arith) outside)
    (λ from. uncut_after to s.synced c k from)
    (cases_lt k to) in (
      d,
      record { no_shorter = omega arith; no_longer = omega arith; same = same },
      record {
        no_shorter = omega arith;
        no_longer = omega arith;
        front = same_fronts to c d (omega arith) (λ k l in'. sym (uncut_before to s.synced c k l) ∙ sym (get_or-listed f m k (omega arith)));
      },
    )
