use Rattle.std.proofs.Common.{◌≡◌, ◌+◌, ◌-◌, ◌≤◌, ◌<◌, ◌++◌, [], ◌∷◌, List, ℕ, length, take, drop, refl, ◌∙◌, ap, arith, length-append, length-drop}
use Rattle.std.proofs.lemmas.Grind.{take-set_at}
use Rattle.std.proofs.lemmas.List.{take_at, length-take-le}
use Rattle.std.proofs.lemmas.Slice.{take-put_mid}
use Rattle.std.specs.Prelude.{slice_set}
use borrow.Rule.Slice.PartMut.{put_mid, same_len_mid}
use Rattle.gate_log.proofs.appending.join.Goals as goal

filled : (h t buffer : List ℕ) (m k : ℕ) → length h ≡ m → length t ≡ k → m + k + 1 ≤ length buffer
    → take (m + k + 1) (slice_set (put_mid m (m + k - m) (h ++ drop m buffer) t) (m + k) 0) ≡ (h ++ t) ++ 0 ∷ []
filled h t buffer m k size_h size_t capacity =
    let whole = h ++ drop m buffer in
    let all : length whole ≡ length buffer = omega (arith, size_h, length-append h (drop m buffer), length-drop m buffer) in
    let part : length t ≡ length (take (m + k - m) (drop m whole)) = omega (arith, size_t, all, length-take-le (m + k - m) (drop m whole) (omega (arith, all, length-drop m whole))) in
    let size : m + k < length (put_mid m (m + k - m) whole t) = omega (arith, all, same_len_mid m (m + k - m) whole t part) in
    take-set_at (put_mid m (m + k - m) whole t) (m + k) (m + k + 1) 0 refl size
    ∙ ap (λ (l : List ℕ). l ++ 0 ∷ []) (take-put_mid m (m + k - m) whole t (m + k) (omega (arith, size_t)) (omega (arith, all)) ∙ ap (λ (l : List ℕ). l ++ t) (take_at h (drop m buffer) m size_h))

pub returns-clause-cell : goal.returns-clause-cell
returns-clause-cell c =
    let head = c.copy_from_slice.ensures.after in
    let tail = c.copy_from_slice-2.ensures.after in
    filled c.copy_from_slice.new.self c.copy_from_slice-2.new.self c.args.buffer.now (length c.args.head.now) (length c.args.tail.now) (ap length head) (ap length tail) c.requires.capacity
    ∙ (λ i. (head i ++ tail i) ++ 0 ∷ [])
