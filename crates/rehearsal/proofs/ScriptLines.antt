-- The first line of bytes, and the lines after it.
use Rattle.std.proofs.Common.{◌≡◌, ℕ, ◌+◌, ◌<◌, ◌≤◌, ◌==◌, Bool, true, false, cond, List, [], ◌∷◌, ◌++◌, length, take, drop, refl, sym, ap, ◌∙◌, subst, arith}
use Rattle.std.proofs.lemmas.Grind.{common_steps}
use Rattle.std.specs.List.{onto_first}
use Rattle.rehearsal.specs.Script.{line_length, lines}

by_byte : (b : ℕ) (bs : List ℕ) → (0 < length bs → lines bs ≡ take (line_length bs) bs ∷ lines (drop (line_length bs + 1) bs)) → (feed : Bool)
    → cond feed ([] ∷ lines bs) (onto_first b (lines bs)) ≡ take (cond feed 0 (1 + line_length bs)) (b ∷ bs) ∷ lines (drop (cond feed 0 (1 + line_length bs) + 1) (b ∷ bs))
by_byte b bs later true = refl
by_byte b [] later false = refl
by_byte b (c ∷ cs) later false = rw (later (omega arith)) (grind (arith, common_steps))

pub first_line : (bs : List ℕ) → 0 < length bs → lines bs ≡ take (line_length bs) bs ∷ lines (drop (line_length bs + 1) bs)
first_line [] some = absurd (omega (arith, some))
first_line (b ∷ bs) some = by_byte b bs (first_line bs) (b == 10)
