-- Two lists are equal where no bit of theirs differs.
use Rattle.std.proofs.Common.{◌≡◌, ◌↔◌, ℕ, ◌+◌, ◌-◌, ◌%◌, ◌≤◌, max, bit_or, bit_xor, List, [], ◌∷◌, length, take, drop, slice_index, refl, sym, ◌∙◌, ap, arith}
use Rattle.std.specs.Int.{bit_at}
use Rattle.std.specs.Int.Bits.{xor_self, or_zero_l}
use Rattle.std.proofs.lemmas.List.{take_all}
use Rattle.std.proofs.lemmas.Nat.Bits.{bit_at-lt, bit_at-zero, bit_at_or, bit_at_xor, same_from_bits}

-- `a ^ b` is 0 only where the two are equal
same_from_xor : (a b : ℕ) → bit_xor a b ≡ 0 → a ≡ b
same_from_xor a b h = same_from_bits a b (λ i.
    let bits : bit_at (bit_xor a b) i ≡ 0 = ap (λ n. bit_at n i) h ∙ bit_at-zero i in
    let sum : (bit_at a i + bit_at b i) % 2 ≡ 0 = sym (bit_at_xor a b i) ∙ bits in
    let of_a = bit_at-lt a i in
    let of_b = bit_at-lt b i in
    omega arith)

-- `a | b` is 0 only where both are
zeros_from_or : (a b : ℕ) → bit_or a b ≡ 0 → (a ≡ 0) × (b ≡ 0)
zeros_from_or a b h =
    let bits : (i : ℕ) → max (bit_at a i) (bit_at b i) ≡ 0 =
    λ i. sym (bit_at_or a b i) ∙ ap (λ n. bit_at n i) h ∙ bit_at-zero i in (
      same_from_bits a 0 (λ i. let both = bits i in let none = bit_at-zero i in omega arith),
      same_from_bits b 0 (λ i. let both = bits i in let none = bit_at-zero i in omega arith),
    )

tail_of : (x : ℕ) (xs : List ℕ) → take (length (x ∷ xs) - 1) (drop 1 (x ∷ xs)) ≡ xs
tail_of x xs = take_all (length (x ∷ xs) - 1) xs (omega arith)

-- the first of two lists are compared, and their tails are left
pub compared_first : (d : ℕ) (xs ys : List ℕ) → 1 ≤ length xs → 1 ≤ length ys
    → ((d ≡ 0) × (xs ≡ ys)) ↔ ((bit_or d (bit_xor (slice_index xs 0) (slice_index ys 0)) ≡ 0) × (take (length xs - 1) (drop 1 xs) ≡ take (length ys - 1) (drop 1 ys)))
compared_first d [] ys some other = absurd (omega arith)
compared_first d (x ∷ xs) [] some other = absurd (omega arith)
compared_first d (x ∷ xs) (y ∷ ys) some other = (
  λ h.
      let first : x ≡ y = cc in
      (rw (h.0, first, xor_self y, or_zero_l 0) refl, ap (λ s. take (length s - 1) (drop 1 s)) h.1),
  λ h.
      let parts = zeros_from_or d (bit_xor x y) h.0 in
      let first : x ≡ y = same_from_xor x y parts.1 in
      let tails : xs ≡ ys = sym (tail_of x xs) ∙ h.1 ∙ tail_of y ys in
      (parts.0, cc),
)
