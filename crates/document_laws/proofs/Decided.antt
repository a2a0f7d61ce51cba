-- Facts that are decided: each holds, or does not hold.
use Rattle.std.proofs.Common.{◌≡◌, ◌⊎◌, inl, inr, ℕ, ℤ, ◌<◌, ◌≤◌, Bool, true, false, List, [], ◌∷◌, Option, Some, None, refl, arith}
use Rattle.std.specs.Prelude.{IfSome, IsSomeAnd, T, ◌≤ℤ◌}
use Rattle.std.specs.Int.Signed.{le_z}
use Rattle.std.specs.List.{AllByRecursion}
use Rattle.std.proofs.lemmas.Bool.{cases_lt}

abbrev pub Decided : Type 0 → Type 0
Decided P = P ⊎ (P → ⊥)

-- a fact that holds exactly where a decided one does
pub decided_as : {P Q : Type 0} → Decided P → (P → Q) → (Q → P) → Decided Q
decided_as (inl p) on back = inl (on p)
decided_as (inr never) on back = inr (λ q. never (back q))

pub opposite_decided : {P : Type 0} → Decided P → Decided (P → ⊥)
opposite_decided (inl p) = inr (λ never. never p)
opposite_decided (inr never) = inl never

pub both_decided : {P Q : Type 0} → Decided P → Decided Q → Decided (P × Q)
both_decided (inl p) (inl q) = inl (p, q)
both_decided (inl p) (inr never) = inr (λ both. never both.1)
both_decided (inr never) q = inr (λ both. never both.0)

-- numbers and truth values

pub at_most_decided : (m n : ℕ) → Decided (m ≤ n)
at_most_decided m n = elim (cases_lt n m) [
  | inl more ↦ inr (λ most. omega (arith, more, most))
  | inr most ↦ inl most
]

pub less_decided : (m n : ℕ) → Decided (m < n)
less_decided m n = elim (cases_lt m n) [
  | inl less ↦ inl less
  | inr past ↦ inr (λ less. omega (arith, less, past))
]

truth_decided : (b : Bool) → Decided (T b)
truth_decided true = inl tt
truth_decided false = inr (λ never. never)

pub integer_at_most_decided : (y z : ℤ) → Decided (y ≤ℤ z)
integer_at_most_decided y z = decided_as (truth_decided (le_z y z)) (λ le. record { le = le }) (λ most. most.le)

pub true_decided : (b : Bool) → Decided (b ≡ true)
true_decided true = inl refl
true_decided false = inr (λ e. absurd cc)

pub false_decided : (b : Bool) → Decided (b ≡ false)
false_decided true = inr (λ e. absurd cc)
false_decided false = inl refl

-- options and lists

module _ {A : Type 0} (P : A → Type 0) (decided : (x : A) → Decided (P x)) where
  pub some_decided : (o : Option A) → Decided (IsSomeAnd o P)
  some_decided None = inr (λ never. never)
  some_decided (Some x) = decided x

  pub if_some_decided : (o : Option A) → Decided (IfSome o P)
  if_some_decided None = inl tt
  if_some_decided (Some x) = decided x

  pub all_decided : (xs : List A) → Decided (AllByRecursion P xs)
  all_decided [] = inl tt
  all_decided (x ∷ xs) = both_decided (decided x) (all_decided xs)
