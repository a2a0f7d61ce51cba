-- Parts of a list that are written in place.
use Rattle.std.proofs.Common.{◌≡◌, ℕ, ◌+◌, ◌-◌, min, List, ◌++◌, length, take, drop, replicate, sym, ◌∙◌, ap, arith, append_assoc}
use Rattle.std.proofs.lemmas.List.{drop-drop, drop_min, take_min}
use borrow.Rule.Slice.PartMut.{put_mid}
use Rattle.memory_outside.specs.MemoryDisk.{range_filled}

-- n bytes from that place on, or as many as there are
pub range_put : (byte at n from k : ℕ) (held part : List ℕ) → from ≡ min at (length held) → k ≡ min n (length held - from) → part ≡ replicate k byte → put_mid from k held part ≡ range_filled byte (at, n) held
range_put byte at n from k held part first many is =
    (λ i. front i ++ (middle i ++ back i)) ∙ sym (append_assoc (take at held) (replicate (min n (length held - at)) byte) (drop (at + n) held))
  where
    front : take from held ≡ take at held
    front = ap (λ (m : ℕ). take m held) first ∙ take_min at held

    middle : part ≡ replicate (min n (length held - at)) byte
    middle = is ∙ ap (λ (m : ℕ). replicate m byte) (omega (arith, first, many))

    back : drop k (drop from held) ≡ drop (at + n) held
    back = drop-drop k from held ∙ ap (λ (m : ℕ). drop m held) (omega (arith, first, many)) ∙ drop_min (at + n) held
