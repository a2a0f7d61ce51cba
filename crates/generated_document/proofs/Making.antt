-- What the code makes step by step.
use Rattle.std.proofs.Common.{◌≡◌, ◌∙◌, ℕ, zero, suc, ◌-◌, ◌<◌, List, [], ◌∷◌, ◌++◌, arith, append_assoc}
use Rattle.mof_values.specs.declared.instance.Instance.{Instance}
use Rattle.generated_document.specs.Generated.{generated_instances, generated_resource}

before : (i : ℕ) → suc i - 1 ≡ i
before i = omega arith

-- the instances are those made so far, and the rest
pub one_more : (made : List Instance) (n : ℕ) (all : List Instance) → 0 < n → made ++ generated_instances n ≡ all
    → (made ++ generated_resource (n - 1) ∷ []) ++ generated_instances (n - 1) ≡ all
one_more made zero all some whole = absurd (omega (arith, some))
one_more made (suc i) all some whole = rw (before i) (append_assoc made (generated_resource i ∷ []) (generated_instances i) ∙ whole)
