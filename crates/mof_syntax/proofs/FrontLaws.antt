-- Fronts of texts of the wide grammar.
use Rattle.std.proofs.Common.{◌≡◌, ◌<◌, ◌≤◌, ◌+◌, ◌-◌, inl, inr, ℕ, List, ◌++◌, length, take, drop, sym, subst, ap, ◌∙◌, append_assoc, arith}
use Rattle.std.proofs.Math.Seq.{take-add}
use Rattle.std.proofs.lemmas.Bool.{cases_lt}
use Rattle.mof_syntax.specs.Grammar.{Wide}
use Rattle.mof_syntax.specs.Fronts.{IsFront, IsSyntaxFault}

-- a front of a front is one
pub IsFront-append : (front more : List ℕ) → IsFront (front ++ more) → IsFront front
IsFront-append front more f = (more ++ f.0, subst (λ (xs : List ℕ). Wide xs) (append_assoc front more f.0) f.1)

-- of two prefixes that are fronts the shorter is one because the longer is
pub IsFront-take : (text : List ℕ) (m n : ℕ) → m ≤ n → IsFront (take n text) → IsFront (take m text)
IsFront-take text m n le f =
    let sum : m + (n - m) ≡ n = omega arith in
    let cut : take n text ≡ take m text ++ take (n - m) (drop m text) = sym (ap (λ (k : ℕ). take k text) sum) ∙ take-add m (n - m) text in
    IsFront-append (take m text) (take (n - m) (drop m text)) (subst (λ (xs : List ℕ). IsFront xs) cut f)

-- the longest prefix that is a front is one of which the prefix one character longer is none
pub IsSyntaxFault-from_next : (text : List ℕ) (at : ℕ) → (Wide text → ⊥) → at ≤ length text → IsFront (take at text)
    → (at < length text → IsFront (take (at + 1) text) → ⊥) → IsSyntaxFault text at
IsSyntaxFault-from_next text at outside within front next = record {
  outside = outside;
  within = within;
  front = front;
  longest = λ n le f. elim (cases_lt at n) [
    | inl past ↦ absurd (next (omega arith) (IsFront-take text (at + 1) n (omega arith) f))
    | inr here ↦ here
  ];
}
