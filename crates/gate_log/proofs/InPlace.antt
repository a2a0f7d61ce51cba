-- A body whose two pieces lie with the caller.
use Rattle.std.proofs.Common.{◌≡◌, ℕ, ◌+◌, ◌-◌, ◌≤◌, List, ◌++◌, length, take, drop, sym, ◌∙◌, ap, arith, append_assoc, length-append, length-drop, Option, Some, None, IfSome}
use Rattle.std.specs.Prelude.{option_map}
use Rattle.std.proofs.lemmas.List.{take_at, drop_at, drop-drop, length-take-le}
use Rattle.std.specs.Int.{w32, to_be_bytes}
use Rattle.dsc_outside.specs.Disk.{written}
use Rattle.gate_log.specs.Text.{after_gate, body_in, need_of}

pub need_in : (head tail : List ℕ) → 4 ≤ length head → need_of (body_in head tail) ≡ length head + length tail + 1
unfolding body_in
need_in head tail whole = omega (arith, whole, length-append (drop 4 head) tail, length-drop 4 head)

-- the caller wrote the first piece after four bytes
pub body_after : (front head tail : List ℕ) → length front ≡ 4 → body_in (front ++ head) tail ≡ head ++ tail
unfolding body_in
body_after front head tail four = ap (λ (l : List ℕ). l ++ tail) (drop_at front head 4 four)

-- with its length in those four
pub numbered : (number head tail : List ℕ) (n : ℕ) → 4 ≤ length head → n ≡ length head - 4 + length tail → number ≡ to_be_bytes w32 n → (number ++ drop 4 head) ++ tail ≡ after_gate (body_in head tail)
unfolding after_gate body_in
numbered number head tail n whole size is =
    let long : n ≡ length (drop 4 head ++ tail) = omega (arith, whole, size, length-append (drop 4 head) tail, length-drop 4 head) in
    append_assoc number (drop 4 head) tail ∙ ap (λ (l : List ℕ). l ++ (drop 4 head ++ tail)) (is ∙ ap (λ (k : ℕ). to_be_bytes w32 k) long)

-- ---- a write and another after it

written_on : (at : ℕ) (a b held : List ℕ) → at ≤ length held → written (at + length a) b (written at a held) ≡ written at (a ++ b) held
written_on at a b held le =
    let front = take at held in
    let rest = drop (at + length a) held in
    let size : length (front ++ a) ≡ at + length a = omega (arith, length-append front a, length-take-le at held le) in
    let first : take (at + length a) (written at a held) ≡ front ++ a = take_at (front ++ a) rest (at + length a) size in
    let last : drop (at + length a + length b) (written at a held) ≡ drop (at + length (a ++ b)) held =
    sym (drop-drop (length b) (at + length a) (written at a held)) ∙ ap (drop (length b)) (drop_at (front ++ a) rest (at + length a) size)
    ∙ drop-drop (length b) (at + length a) held ∙ ap (λ (n : ℕ). drop n held) (omega (arith, length-append a b)) in
    ap (λ (l : List ℕ). l ++ b ++ drop (at + length a + length b) (written at a held)) first
    ∙ ap (λ (l : List ℕ). (front ++ a) ++ b ++ l) last
    ∙ ap (λ (l : List ℕ). l ++ drop (at + length (a ++ b)) held) (append_assoc front a b)

both_written : (at : ℕ) (a b : List ℕ) (seen0 seen1 seen2 : Option (List ℕ)) → IfSome seen0 (λ held. at ≤ length held) → seen1 ≡ option_map (written at a) seen0 → seen2 ≡ option_map (written (at + length a) b) seen1
    → seen2 ≡ option_map (written at (a ++ b)) seen0
both_written at a b None seen1 seen2 le is1 is2 = is2 ∙ ap (λ (o : Option (List ℕ)). option_map (written (at + length a) b) o) is1
both_written at a b (Some held) seen1 seen2 le is1 is2 =
    is2 ∙ ap (λ (o : Option (List ℕ)). option_map (written (at + length a) b) o) is1 ∙ ap (λ (l : List ℕ). Some l) (written_on at a b held le)

pub all_written : (at : ℕ) (a b c : List ℕ) (seen0 seen1 seen2 seen3 : Option (List ℕ)) → IfSome seen0 (λ held. at ≤ length held) → seen1 ≡ option_map (written at a) seen0 → seen2 ≡ option_map (written (at + length a) b) seen1
    → seen3 ≡ option_map (written (at + length a + length b) c) seen2 → seen3 ≡ option_map (written at ((a ++ b) ++ c)) seen0
all_written at a b c seen0 seen1 seen2 seen3 le is1 is2 is3 =
    let place : at + length a + length b ≡ at + length (a ++ b) = omega (arith, length-append a b) in
    both_written at (a ++ b) c seen0 seen2 seen3 le (both_written at a b seen0 seen1 seen2 le is1 is2) (is3 ∙ ap (λ (n : ℕ). option_map (written n c) seen2) place)
