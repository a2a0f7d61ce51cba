-- The laws of the text of a store.
use Rattle.std.proofs.Common.{◌≡◌, ◌≢◌, inl, inr, ℕ, ◌+◌, ◌≤◌, ◌<◌, ◌^◌, Bool, List, [], ◌∷◌, ◌++◌, length, get_or, refl, sym, ◌∙◌, ap, subst, arith, append_assoc, length-append}
use Rattle.std.specs.Int.{w32, to_be_bytes, from_be_bytes}
use Rattle.std.proofs.lemmas.Nat.{from_be_bytes-to_be_bytes_4}
use Rattle.std.proofs.lemmas.List.{get_or-take}
use Rattle.gate_log.specs.declared.shape.Shape.{Shape}
use Rattle.gate_log.specs.Text.{Holds, Selects, after_gate, begin, cells, magic, AllFit, Gives, fresh, text, HasNumber, FailsFrom, no_gate, no_length, too_long, no_body, FailsAt, wrong_magic, wrong_bank}
use Rattle.gate_log.specs.Laws.{OneList, NeverBoth, FrontGiven}
use Rattle.gate_log.specs.Replay.{IsRefused, FailsFirst, no_text, no_meaning}
use Rattle.gate_log.proofs.Holds.{holds_drop, holds_first, holds_second, holds_one, holds_long}
use Rattle.gate_log.proofs.Cells.{length-after_gate}
use Rattle.gate_log.proofs.Unique.{gives_one, same_tail, same_after, same_bank}

pub one_list : OneList
one_list shape image one other small (fresh short) (fresh short') = refl
one_list shape image one other small (fresh short) (text second closed bodies long t) = absurd (omega (arith, short, long))
one_list shape image one other small (text second closed bodies long t) gives = gives_one shape second closed image bodies other small t gives

-- two cells at one place have one body
same_body : (at : ℕ) (a b image : List ℕ) → length a < 2 ^ 32 → length b < 2 ^ 32 → Holds at (165 ∷ after_gate a) image → Holds at (165 ∷ after_gate b) image → a ≡ b
same_body at a b image small_a small_b first second =
    let is = sym (holds_drop at (165 ∷ after_gate a) image first) ∙ holds_drop at (165 ∷ after_gate b) image second in
    (same_after a b _ _ small_a small_b (same_tail 165 165 _ _ is)).0

-- the length of a cell is the number that stands in it
same_number : (at number : ℕ) (body image : List ℕ) → length body < 2 ^ 32 → HasNumber at number image → Holds at (165 ∷ after_gate body) image → number ≡ length body
unfolding after_gate
same_number at number body image small has there =
    let four = holds_first at (165 ∷ to_be_bytes w32 (length body)) body image there in
    let is : 165 ∷ to_be_bytes w32 number ≡ 165 ∷ to_be_bytes w32 (length body) = sym has.1 ∙ four in
    sym (from_be_bytes-to_be_bytes_4 number has.0) ∙ ap (λ (l : List ℕ). from_be_bytes w32 l) (same_tail 165 165 _ _ is) ∙ from_be_bytes-to_be_bytes_4 (length body) small

-- at a closed gate nothing fails
gate_holds : (largest limit at fails gate : ℕ) (image : List ℕ) → gate ≢ 165 → Holds at (gate ∷ []) image → FailsFrom largest limit at image fails → ⊥
gate_holds largest limit at fails gate image shut here (no_gate short) = omega (arith, short, holds_long at gate [] image here)
gate_holds largest limit at fails gate image shut here (no_length there less) = shut (holds_one at gate 165 image here there)
gate_holds largest limit at fails gate image shut here (too_long number has long) = shut (holds_one at gate 165 image here (holds_first at (165 ∷ []) (to_be_bytes w32 number) image has.1))
gate_holds largest limit at fails gate image shut here (no_body number has fit less) = shut (holds_one at gate 165 image here (holds_first at (165 ∷ []) (to_be_bytes w32 number) image has.1))

-- at a cell within the limit nothing fails
cell_holds : (largest limit at fails : ℕ) (body image : List ℕ) → largest < 2 ^ 32 → length body ≤ largest → at + 6 + length body ≤ limit → Holds at (165 ∷ after_gate body) image → FailsFrom largest limit at image fails → ⊥
cell_holds largest limit at fails body image small fits within here (no_gate short) = omega (arith, short, holds_long at 165 (after_gate body) image here, length-after_gate body)
cell_holds largest limit at fails body image small fits within here (no_length there less) = omega (arith, less, holds_long at 165 (after_gate body) image here, length-after_gate body)
cell_holds largest limit at fails body image small fits within here (too_long number has (inl above)) = omega (arith, above, fits, same_number at number body image (omega (arith, fits, small)) has here)
cell_holds largest limit at fails body image small fits within here (too_long number has (inr past)) = omega (arith, past, within, same_number at number body image (omega (arith, fits, small)) has here)
cell_holds largest limit at fails body image small fits within here (no_body number has fit less) =
    omega (arith, less, holds_long at 165 (after_gate body) image here, length-after_gate body, same_number at number body image (omega (arith, fits, small)) has here)

-- nothing fails after cells of a bank that holds cells and a closed gate
never : (largest limit from fails gate : ℕ) (image : List ℕ) (reached bodies : List (List ℕ)) → largest < 2 ^ 32 → Holds from (cells reached) image → AllFit largest reached → Holds from (cells bodies) image → AllFit largest bodies
    → from + length (cells bodies) + 1 ≤ limit → gate ≢ 165 → Holds (from + length (cells bodies)) (gate ∷ []) image → FailsFrom largest limit (from + length (cells reached)) image fails → ⊥
never largest limit from fails gate image [] [] small r fit_r b fit_b within shut here f =
    gate_holds largest limit (from + 0) fails gate image shut here f
never largest limit from fails gate image [] (body ∷ bodies) small r fit_r b fit_b within shut here f =
    let le : from + 6 + length body ≤ limit = omega (arith, within, length-append (after_gate body) (cells bodies), length-after_gate body) in
    let there = holds_first from (165 ∷ after_gate body) (cells bodies) image b in
    cell_holds largest limit from fails body image small fit_b.0 le there (subst (λ (n : ℕ). FailsFrom largest limit n image fails) (omega arith) f)
never largest limit from fails gate image (first ∷ reached) [] small r fit_r b fit_b within shut here f =
    let there = holds_first from (165 ∷ []) (after_gate first ++ cells reached) image r in
    shut (holds_one from gate 165 image (subst (λ (n : ℕ). Holds n (gate ∷ []) image) (omega arith) here) there)
never largest limit from fails gate image (first ∷ reached) (body ∷ bodies) small r fit_r b fit_b within shut here f =
    let one = holds_first from (165 ∷ after_gate first) (cells reached) image r in
    let other = holds_first from (165 ∷ after_gate body) (cells bodies) image b in
    let same : first ≡ body = same_body from first body image (omega (arith, fit_r.0, small)) (omega (arith, fit_b.0, small)) one other in
    let step : length (after_gate first) ≡ length (after_gate body) = ap (λ (l : List ℕ). length (after_gate l)) same in
    let past = from + length (165 ∷ after_gate body) in
    let rest : Holds past (cells reached) image = subst (λ (n : ℕ). Holds n (cells reached) image) (omega (arith, step)) (holds_second from (165 ∷ after_gate first) (cells reached) image r) in
    let there = holds_second from (165 ∷ after_gate body) (cells bodies) image b in
    let long = length-append (after_gate body) (cells bodies) in
    let long_r = length-append (after_gate first) (cells reached) in
    never largest limit past fails gate image reached bodies small rest fit_r.1 there fit_b.1 (omega (arith, within, long)) shut
    (subst (λ (n : ℕ). Holds n (gate ∷ []) image) (omega (arith, long)) here)
    (subst (λ (n : ℕ). FailsFrom largest limit n image fails) (omega (arith, long_r, step)) f)

-- of two lists of cells at one place, the one with a closed gate after it begins with the other
front_of : (largest from gate : ℕ) (image : List ℕ) (front bodies : List (List ℕ)) → largest < 2 ^ 32 → Holds from (cells front) image → AllFit largest front → Holds from (cells bodies) image → AllFit largest bodies
    → gate ≢ 165 → Holds (from + length (cells bodies)) (gate ∷ []) image → (rest : List (List ℕ)) × (bodies ≡ front ++ rest)
front_of largest from gate image [] bodies small r fit_r b fit_b shut here = (bodies, refl)
front_of largest from gate image (first ∷ front) [] small r fit_r b fit_b shut here =
    let there = holds_first from (165 ∷ []) (after_gate first ++ cells front) image r in
    absurd (shut (holds_one from gate 165 image (subst (λ (n : ℕ). Holds n (gate ∷ []) image) (omega arith) here) there))
front_of largest from gate image (first ∷ front) (body ∷ bodies) small r fit_r b fit_b shut here =
    let one = holds_first from (165 ∷ after_gate first) (cells front) image r in
    let other = holds_first from (165 ∷ after_gate body) (cells bodies) image b in
    let same : first ≡ body = same_body from first body image (omega (arith, fit_r.0, small)) (omega (arith, fit_b.0, small)) one other in
    let step : length (after_gate first) ≡ length (after_gate body) = ap (λ (l : List ℕ). length (after_gate l)) same in
    let past = from + length (165 ∷ after_gate body) in
    let rest : Holds past (cells front) image = subst (λ (n : ℕ). Holds n (cells front) image) (omega (arith, step)) (holds_second from (165 ∷ after_gate first) (cells front) image r) in
    let there = holds_second from (165 ∷ after_gate body) (cells bodies) image b in
    let more = front_of largest past gate image front bodies small rest fit_r.1 there fit_b.1 shut (subst (λ (n : ℕ). Holds n (gate ∷ []) image) (omega (arith, length-append (after_gate body) (cells bodies))) here) in
    (more.0, ap (λ (l : List ℕ). l ∷ bodies) (sym same) ∙ ap (λ (l : List (List ℕ)). first ∷ l) more.1)

pub front_given : FrontGiven
front_given shape second image front bodies small long live has (fresh short) = absurd (omega (arith, short, long))
front_given shape second image front bodies small long live has (text also closed bodies' long' t) =
    let selects = subst (λ (s : ℕ). Selects s second) (holds_one 7 live.selector t.head.selector image live.selected t.head.selected) live.selects in
    let same : second ≡ also = same_bank t.head.selector second also selects t.head.selects in
    let r = subst (λ (b : Bool). Holds (begin shape b) (cells front) image) same has.is in
    front_of shape.largest (begin shape also) t.bank.gate image front bodies' small r has.fit t.bank.cells.is t.bank.cells.fit t.bank.shut (subst (λ (n : ℕ). Holds n (t.bank.gate ∷ []) image) t.bank.place t.bank.closes)

magic_holds : (at : ℕ) (image : List ℕ) → at < 7 → Holds 0 magic image → get_or image at 0 ≡ get_or magic at 0
magic_holds at image less is = sym (get_or-take 7 image at 0 less) ∙ ap (λ (l : List ℕ). get_or l at 0) is

pub never_both : NeverBoth
never_both shape image bodies at small (fresh short) it = omega (arith, short, it.long)
never_both shape image bodies at small (text second closed bodies' long t) it = by it.fails
  where
    by : FailsAt shape image at → ⊥
    by (wrong_magic at' less there front wrong) = wrong (magic_holds at' image less t.head.head)
    by (wrong_bank also at' live fails) =
        let selects = subst (λ (s : ℕ). Selects s also) (holds_one 7 live.selector t.head.selector image live.selected t.head.selected) live.selects in
        let same : also ≡ second = same_bank t.head.selector also second selects t.head.selects in
        let f = subst (λ (b : Bool). FailsFrom shape.largest (begin shape b + shape.bank) (begin shape b + length (cells fails.bodies)) image at') same fails.fails in
        let r = subst (λ (b : Bool). Holds (begin shape b) (cells fails.bodies) image) same fails.cells.is in
        never shape.largest (begin shape second + shape.bank) (begin shape second) at' t.bank.gate image fails.bodies bodies' small r fails.cells.fit t.bank.cells.is t.bank.cells.fit
        (omega (arith, t.bank.cells.within)) t.bank.shut (subst (λ (n : ℕ). Holds n (t.bank.gate ∷ []) image) t.bank.place t.bank.closes) f

-- an image that gives bodies of which none is refused is not refused, for a store above
pub never_refused : (shape : Shape) (Took : List (List ℕ) → Type 0) (Refused : List (List ℕ) → List ℕ → Type 0) (image : List ℕ) (bodies : List (List ℕ)) (at : ℕ) → shape.largest < 2 ^ 32 → Gives shape image bodies
    → ((front rest : List (List ℕ)) (body : List ℕ) → bodies ≡ front ++ body ∷ rest → Refused front body → ⊥) → IsRefused shape Took Refused image at → ⊥
never_refused shape Took Refused image bodies at small gives none it = by at it.fails
  where
    by : (place : ℕ) → FailsFirst shape Took Refused image place → ⊥
    by place (no_text place' fails took) = never_both shape image bodies place' small gives (record { long = it.long; fails = fails })
    by place (no_meaning second front body live has refused) =
        let more = front_given shape second image (front ++ body ∷ []) bodies small it.long live has gives in
        none front more.0 body (more.1 ∙ append_assoc front (body ∷ []) more.0) refused
