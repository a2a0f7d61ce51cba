-- The disk and the log after each step of a rewrite.
use Rattle.std.proofs.Common.{◌≡◌, inl, inr, ℕ, ◌+◌, ◌≤◌, max, Bool, not, List, [], ◌∷◌, ◌++◌, length, refl, sym, ◌∙◌, ap, subst, arith, length-append, Option, Some, None, IfSome}
use Rattle.std.specs.Prelude.{option_map}
use Rattle.std.proofs.lemmas.Option.{same_Some}
use Rattle.dsc_outside.specs.Disk.{Each, Torn, From, Only, written}
use Rattle.gate_log.specs.declared.shape.Shape.{Shape}
use Rattle.gate_log.specs.Text.{Holds, after_gate, cells, begin, Selects, need_of, IsText}
use Rattle.gate_log.specs.Steps.{IsInOther, IsWhole}
use Rattle.gate_log.specs.Log.{LogTerm, IsOf, HasPut, OldOrNew, begun, left_after, capacity_to_put}
use Rattle.gate_log.proofs.Holds.{holds_first, holds_both, torn_holds, torn_end, length-written, written_torn, written_holds}
use Rattle.gate_log.proofs.Cells.{cells-push, length-after_gate, text_gives, torn_beside, begin_past}
use Rattle.gate_log.proofs.Steps.{held_before, if_some, Honest}
use Rattle.gate_log.proofs.Switch.{IsReadyToSwitch, torn_other, written_whole, torn_selector, written_selector}

-- a fact of what was read, before a write and after it
pub told_write : (P Q : List ℕ → Type 0) (f : List ℕ → List ℕ) (before after : Option (List ℕ)) → after ≡ option_map f before → ((held : List ℕ) → P held → Q (f held)) → IfSome before P → IfSome after Q
told_write P Q f None after is to p = subst (λ (o : Option (List ℕ)). IfSome o Q) (sym is) tt
told_write P Q f (Some held) after is to p = subst (λ (o : Option (List ℕ)). IfSome o Q) (sym is) (to held p)

pub told_both : (P Q : List ℕ → Type 0) (o : Option (List ℕ)) → IfSome o P → IfSome o Q → IfSome o (λ held. P held × Q held)
told_both P Q None p q = tt
told_both P Q (Some held) p q = (p, q)

-- ---- zeros at the end

pub filled_holds : (at end : ℕ) (bytes zeros : List ℕ) (before after : Option (List ℕ)) → after ≡ option_map (written end zeros) before → IfSome before (λ held. end ≡ length held) → IfSome before (Holds at bytes) → IfSome after (Holds at bytes)
filled_holds at end bytes zeros before after is long there =
    told_write _ _ (written end zeros) before after is (λ held both. torn_end at end (length zeros) bytes held (written end zeros held) (written_torn end zeros held (omega (arith, both.0))) (omega (arith, both.0)) both.1) (told_both _ _ before long there)

pub filled_long : (end : ℕ) (zeros : List ℕ) (before after : Option (List ℕ)) → after ≡ option_map (written end zeros) before → IfSome before (λ held. end ≡ length held) → IfSome after (λ held. end + length zeros ≡ length held)
filled_long end zeros before after is long =
    told_write _ _ (written end zeros) before after is (λ held here. omega (arith, here, length-written end zeros held (omega (arith, here)))) long

pub filled_text : (shape : Shape) (second : Bool) (closed end n : ℕ) (bodies : List (List ℕ)) (old : List ℕ → Type 0) → closed + 1 ≤ end → Each old (λ c. IsText shape second closed c bodies) → (c : List ℕ) → From (Torn end n) old c → IsText shape second closed c bodies
filled_text shape second closed end n bodies old le texts c from =
    let t = texts from.0 from.1 in
    torn_beside shape second closed bodies end n from.0 c t from.2 (omega (arith, t.bank.place, begin_past shape second, le)) (inr le)

-- ---- a cell

pub other_text : (shape : Shape) (second : Bool) (closed at n : ℕ) (bodies : List (List ℕ)) (old : List ℕ → Type 0) → IsInOther shape second at n → Each old (λ c. IsText shape second closed c bodies) → (c : List ℕ) → From (Torn at n) old c → IsText shape second closed c bodies
other_text shape second closed at n bodies old other texts c from = torn_other shape second closed at n bodies from.0 c other (texts from.0 from.1) from.2

pub put_holds : (from at long : ℕ) (put : List (List ℕ)) (body cell : List ℕ) (before after : Option (List ℕ)) → at ≡ from + length (cells put) → cell ≡ 165 ∷ (after_gate body ++ 0 ∷ []) → after ≡ option_map (written at cell) before
    → IfSome before (λ held. max long at ≡ length held) → IfSome before (Holds from (cells put)) → IfSome after (Holds from (cells (put ++ body ∷ [])))
put_holds from at long put body cell before after place is_cell is size there =
    told_write _ _ (written at cell) before after is (λ held both.
    let le : at ≤ length held = omega (arith, both.0) in
    let new = written at cell held in
    let front : Holds from (cells put) new = torn_holds from at (length cell) (cells put) held new (written_torn at cell held le) (inl (omega (arith, place))) both.1 in
    let here : Holds at (165 ∷ (after_gate body ++ 0 ∷ [])) new = subst (λ (l : List ℕ). Holds at l new) is_cell (written_holds at cell held le) in
    let last : Holds (from + length (cells put)) (165 ∷ after_gate body) new = subst (λ (n : ℕ). Holds n (165 ∷ after_gate body) new) place (holds_first at (165 ∷ after_gate body) (0 ∷ []) new here) in
    subst (λ (l : List ℕ). Holds from l new) (sym (cells-push put body)) (holds_both from (cells put) (165 ∷ after_gate body) new front last)) (told_both _ _ before size there)

pub cell_long : (body cell : List ℕ) → cell ≡ 165 ∷ (after_gate body ++ 0 ∷ []) → length cell ≡ length body + 6
cell_long body cell is = omega (arith, ap length is, length-append (after_gate body) (0 ∷ []), length-after_gate body)

pub other_whole : (shape : Shape) (second : Bool) (at : ℕ) (body cell : List ℕ) → cell ≡ 165 ∷ (after_gate body ++ 0 ∷ []) → IsInOther shape second at (1 + need_of body) → IsInOther shape second at (length cell)
other_whole shape second at body cell is other = record { after = other.after; within = omega (arith, other.within, cell_long body cell is) }

-- ---- the switch

module _ (shape : Shape) (second : Bool) (closed at long : ℕ) (bodies put : List (List ℕ)) (whole : IsWhole shape second at put) (old : List ℕ → Type 0) (texts : Each old (λ c. IsText shape second closed c bodies)) where
  pub gate_moment : (c : List ℕ) → From (Torn at 1) old c → OldOrNew shape bodies put c
  gate_moment c from = inl (text_gives shape second closed c bodies (other_text shape second closed at 1 bodies old (record { after = omega (arith, whole.place); within = omega (arith, whole.place, whole.within) }) texts c from))

  module _ (seen0 seen1 : Option (List ℕ)) (honest0 : Honest seen0 old) (size : IfSome seen0 (λ held. max long at ≡ length held)) (there : IfSome seen0 (Holds (begin shape (not second)) (cells put)))
      (mid : List ℕ → Type 0) (is1 : seen1 ≡ option_map (written at (0 ∷ [])) seen0) (only1 : Only seen1 mid) where
    pub ready : Each mid (λ c. IsReadyToSwitch shape second closed at c bodies put)
    ready c here =
        let from = held_before (written at (0 ∷ [])) seen0 seen1 c is1 (only1 c here) in
        let long_one = subst (λ (o : Option (List ℕ)). IfSome o (λ held. max long at ≡ length held)) from.1 size in
        let there_one = subst (λ (o : Option (List ℕ)). IfSome o (Holds (begin shape (not second)) (cells put))) from.1 there in
        written_whole shape second closed at bodies put from.0 c (omega (arith, long_one)) whole there_one (texts from.0 (honest0 from.0 from.1)) from.2

    pub selector_moment : (c : List ℕ) → From (Torn 7 1) mid c → OldOrNew shape bodies put c
    selector_moment c from = torn_selector shape second closed at bodies put from.0 c (ready from.0 from.1) from.2

    pub switched : (selector : ℕ) (seen2 : Option (List ℕ)) (new : List ℕ → Type 0) → Selects selector (not second) → Honest seen1 mid → seen2 ≡ option_map (written 7 (selector ∷ [])) seen1 → Only seen2 new
        → Each new (λ c. IsText shape (not second) at c put)
    switched selector seen2 new selects honest1 is2 only2 c here =
        let from = held_before (written 7 (selector ∷ [])) seen1 seen2 c is2 (only2 c here) in
        written_selector shape second closed at bodies put selector from.0 c selects (ready from.0 (honest1 from.0 from.1)) from.2

pub switched_long : (at long selector : ℕ) (seen0 seen1 seen2 : Option (List ℕ)) → 8 ≤ at → IfSome seen0 (λ held. max long at ≡ length held) → seen1 ≡ option_map (written at (0 ∷ [])) seen0 → seen2 ≡ option_map (written 7 (selector ∷ [])) seen1
    → IfSome seen2 (λ held. max long (at + 1) ≡ length held)
switched_long at long selector seen0 seen1 seen2 past size is1 is2 =
    told_write _ _ (written 7 (selector ∷ [])) seen1 seen2 is2 (λ held here. omega (arith, here, length-written 7 (selector ∷ []) held (omega (arith, here))))
    (told_write _ (λ held. max long (at + 1) ≡ length held) (written at (0 ∷ [])) seen0 seen1 is1 (λ held here. omega (arith, here, length-written at (0 ∷ []) held (omega (arith, here)))) size)

-- ---- the log

-- a log that was begun is of its disk, and nothing was put
pub begun_of : (shown : Option (List ℕ)) (images : List ℕ → Type 0) (log : LogTerm) (bodies : List (List ℕ)) → IsOf shown images log bodies → IsOf shown images (begun log) bodies
begun_of shown images log bodies of = record { each = of.each; long = of.long }

pub begun_put : (shown : Option (List ℕ)) (log : LogTerm) → 1 ≤ log.shape.bank → HasPut shown (begun log) []
begun_put shown log some = record { filled = ap (λ (n : ℕ). some_of n) (omega arith); within = some; fit = tt; holds = if_some shown (λ held is. refl) }
  where
    some_of : ℕ → Option ℕ
    some_of n = Some n

pub put_place : (log : LogTerm) (at need : ℕ) → log.filled ≡ Some at → 5 ≤ need → need ≤ capacity_to_put log → at + 1 + need ≤ begin log.shape (not log.second) + log.shape.bank
put_place log at need is some le =
    let there : need ≤ left_after log.shape log.second (Some at) = subst (λ (o : Option ℕ). need ≤ left_after log.shape log.second o) is le in
    omega (arith, there)

pub put_at : (shown : Option (List ℕ)) (log : LogTerm) (put : List (List ℕ)) (at : ℕ) → HasPut shown log put → log.filled ≡ Some at → at ≡ begin log.shape (not log.second) + length (cells put)
put_at shown log put at has is = same_Some at _ (sym is ∙ has.filled)

pub in_other : (shown : Option (List ℕ)) (log : LogTerm) (put : List (List ℕ)) (at : ℕ) (body : List ℕ) → HasPut shown log put → log.filled ≡ Some at → need_of body ≤ capacity_to_put log → IsInOther log.shape log.second at (1 + need_of body)
in_other shown log put at body has is le = record { after = omega (arith, put_at shown log put at has is); within = omega (arith, put_place log at (need_of body) is (omega arith) le) }

pub is_whole : (shown : Option (List ℕ)) (log : LogTerm) (put : List (List ℕ)) (at : ℕ) → HasPut shown log put → log.filled ≡ Some at → IsWhole log.shape log.second at put
is_whole shown log put at has is = record { place = put_at shown log put at has is; within = has.within; fit = has.fit }
