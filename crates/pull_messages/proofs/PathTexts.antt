-- Texts that are put together.
use Rattle.std.proofs.Common.{◌≡◌, ℕ, List, ◌++◌, Result, Ok, Err, OnOk, append_assoc, ap, ◌∙◌}

pub on_ok : {T E : Type 0} (r : Result T E) (P Q : Type 0) → (P → Q) → OnOk r P → OnOk r Q
on_ok (Ok x) P Q holds h = holds h
on_ok (Err e) P Q holds h = tt

pub four : (o a b c d o1 o2 o3 o4 : List ℕ) → o1 ≡ o ++ a → o2 ≡ o1 ++ b → o3 ≡ o2 ++ c → o4 ≡ o3 ++ d → o4 ≡ o ++ (((a ++ b) ++ c) ++ d)
four o a b c d o1 o2 o3 o4 e1 e2 e3 e4 =
    e4 ∙ ap (λ (l : List ℕ). l ++ d) (e3 ∙ ap (λ (l : List ℕ). l ++ c) (e2 ∙ ap (λ (l : List ℕ). l ++ b) e1 ∙ append_assoc o a b) ∙ append_assoc o (a ++ b) c)
    ∙ append_assoc o ((a ++ b) ++ c) d
