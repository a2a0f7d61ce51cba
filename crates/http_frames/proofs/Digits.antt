-- Numbers that decimal digits write.
use Rattle.std.proofs.Common.{◌≡◌, ℕ, ◌+◌, ◌*◌, ◌<◌, ◌≤◌, ◌^◌, List, [], ◌∷◌, length, get_or, IsTrue, Bool, true, false, ◌&&◌, ◌||◌, not, arith, subst, codes, nat_le, lit<}
use Rattle.std.specs.Prelude.{Some, cond}
use Rattle.std.specs.List.{list_all, find}
use Rattle.std.specs.Char.{is_ascii_digit, digit_value}
use Rattle.std.specs.Str.Parse.{digits_value, digits_value_after, AllDigits}
use Rattle.std.proofs.lemmas.Int.Digits.{digits_value-lt}
use Rattle.std.proofs.Math.Nat.{pow-le-pow_right}
use Rattle.http_frames.specs.declared.message.Header.{Header}
use Rattle.http_frames.specs.Framing.{is_length, are_lengths_sound}
use Rattle.http_frames.specs.Headers.{is_named, all_named}

pub after_is_more : (n : ℕ) (ds : List ℕ) → n ≤ digits_value_after 10 n ds
after_is_more n [] = omega arith
after_is_more n (d ∷ ds) = omega (arith, after_is_more (n * 10 + digit_value d) ds)

-- the first digit makes the number at most what all write
pub next_is_small : (n : ℕ) (ds : List ℕ) → 0 < length ds → n * 10 + digit_value (get_or ds 0 0) ≤ digits_value_after 10 n ds
next_is_small n [] h = absurd (omega arith)
next_is_small n (d ∷ ds) h = after_is_more (n * 10 + digit_value d) ds

digit_below : (c : ℕ) → IsTrue (is_ascii_digit c) → digit_value c < 10
digit_below c h = grind arith

both : (a b : Bool) → IsTrue (a && b) → IsTrue a × IsTrue b
both a b h = grind arith

pub all_digits : (v : List ℕ) → IsTrue (list_all is_ascii_digit v) → AllDigits 10 v
all_digits [] h = tt
all_digits (c ∷ cs) h =
    let parts = both (is_ascii_digit c) (list_all is_ascii_digit cs) h in
    (digit_below c parts.0, all_digits cs parts.1)

pub length_is_small : (v : List ℕ) → IsTrue (is_length v) → digits_value 10 v < 2 ^ 60
length_is_small v h =
    let parts = both (nat_le 1 (length v) && nat_le (length v) 10) (list_all is_ascii_digit v) h in
    let bounds = both (nat_le 1 (length v)) (nat_le (length v) 10) parts.0 in
    let few : length v ≤ 10 = grind (arith, bounds.1) in
    let power : 10 ^ length v ≤ 10 ^ 10 = pow-le-pow_right (lit< tt) few in
    omega (arith, digits_value-lt 10 v (all_digits v parts.1), power)

-- what holds of each element that passes holds of the first that does
pub find_passes : {X : Type 0} (p q : X → Bool) (xs : List X) (x : X) → find p xs ≡ Some x
    → IsTrue (list_all (λ y. not (p y) || q y) xs) → IsTrue (q x)
find_passes p q [] x found all = cc
find_passes {X} p q (y ∷ ys) x found all =
    let go : cond (p y) (Some y) (find p ys) ≡ Some x
    → IsTrue ((not (p y) || q y) && list_all (λ z. not (p z) || q z) ys) → IsTrue (q x) =
    elim (p y) as (λ t. cond t (Some y) (find p ys) ≡ Some x
    → IsTrue ((not t || q y) && list_all (λ z. not (p z) || q z) ys) → IsTrue (q x)) [
      | true ↦ λ e h. (let same : y ≡ x = cc in
          subst (λ (z : X). IsTrue (q z)) same (both (q y) (list_all (λ z. not (p z) || q z) ys) h).0)
      | false ↦ λ e h. find_passes p q ys x e (both true (list_all (λ z. not (p z) || q z) ys) h).1
    ] in
    go found all

-- in sound lengths each Content-Length is a length
pub lengths_are : (headers : List Header) (header : Header) → are_lengths_sound headers ≡ true
    → find (is_named (codes "content-length")) headers ≡ Some header → IsTrue (is_length header.value)
unfolding are_lengths_sound
lengths_are headers header sound found =
    find_passes (is_named (codes "content-length")) (λ h. is_length h.value) headers header found
    (both _ (all_named (codes "content-length") is_length headers) sound).1
