-- A text has one list of bodies, and a cut after its closed gate keeps it.
use Rattle.std.proofs.Common.{◌≡◌, ◌≢◌, ℕ, Bool, true, false, ◌+◌, ◌≤◌, ◌<◌, ◌^◌, List, [], ◌∷◌, ◌++◌, length, take, drop, refl, sym, ◌∙◌, ap, subst, arith, append_assoc, Option, Some}
use Rattle.std.specs.Prelude.{IfSome}
use Rattle.std.specs.Int.{w32, to_be_bytes, from_be_bytes}
use Rattle.std.proofs.lemmas.Nat.{from_be_bytes-to_be_bytes_4}
use Rattle.std.proofs.lemmas.List.{take_at, drop_at}
use Rattle.dsc_outside.specs.Disk.{Cut}
use Rattle.gate_log.specs.declared.shape.Shape.{Shape}
use Rattle.gate_log.specs.Text.{Holds, Selects, after_gate, begin, cells, magic, AllFit, IsLive, IsBank, IsText, Gives, fresh, text}
use Rattle.gate_log.specs.Log.{Keeps}
use Rattle.gate_log.proofs.Holds.{holds_drop, holds_both, holds_one, cut_holds}
use Rattle.gate_log.proofs.Cells.{long-cells, begin_past, bank_long, text_gives}

head_of : List ℕ → ℕ
head_of [] = 0
head_of (x ∷ xs) = x

pub same_head : (x y : ℕ) (xs ys : List ℕ) → x ∷ xs ≡ y ∷ ys → x ≡ y
same_head x y xs ys is = cc

pub same_tail : (x y : ℕ) (xs ys : List ℕ) → x ∷ xs ≡ y ∷ ys → xs ≡ ys
same_tail x y xs ys is = cc

-- fronts of one length
same_front : (a b xs ys : List ℕ) → length a ≡ length b → a ++ xs ≡ b ++ ys → (a ≡ b) × (xs ≡ ys)
same_front a b xs ys long is = (
  sym (take_at a xs (length a) refl) ∙ ap (λ (l : List ℕ). take (length a) l) is ∙ take_at b ys (length a) (sym long),
  sym (drop_at a xs (length a) refl) ∙ ap (λ (l : List ℕ). drop (length a) l) is ∙ drop_at b ys (length a) (sym long),
)

pub same_after : (a b xs ys : List ℕ) → length a < 2 ^ 32 → length b < 2 ^ 32 → after_gate a ++ xs ≡ after_gate b ++ ys → (a ≡ b) × (xs ≡ ys)
unfolding after_gate
same_after a b xs ys fit_a fit_b is =
    let whole = sym (append_assoc (to_be_bytes w32 (length a)) a xs) ∙ is ∙ append_assoc (to_be_bytes w32 (length b)) b ys in
    let parts = same_front (to_be_bytes w32 (length a)) (to_be_bytes w32 (length b)) (a ++ xs) (b ++ ys) refl whole in
    let long : length a ≡ length b = sym (from_be_bytes-to_be_bytes_4 (length a) fit_a) ∙ ap (λ (l : List ℕ). from_be_bytes w32 l) parts.0 ∙ from_be_bytes-to_be_bytes_4 (length b) fit_b in
    same_front a b xs ys long parts.1

same_cells : (largest : ℕ) (ls bs : List (List ℕ)) (g h : ℕ) (xs ys : List ℕ) → largest < 2 ^ 32 → AllFit largest ls → AllFit largest bs → g ≢ 165 → h ≢ 165 → cells ls ++ g ∷ xs ≡ cells bs ++ h ∷ ys → ls ≡ bs
same_cells largest [] [] g h xs ys small fa fb sg sh is = refl
same_cells largest [] (b ∷ bs) g h xs ys small fa fb sg sh is = absurd (sg (same_head g 165 xs ((after_gate b ++ cells bs) ++ h ∷ ys) is))
same_cells largest (a ∷ ls) [] g h xs ys small fa fb sg sh is = absurd (sh (sym (same_head 165 h ((after_gate a ++ cells ls) ++ g ∷ xs) ys is)))
same_cells largest (a ∷ ls) (b ∷ bs) g h xs ys small fa fb sg sh is =
    let rest = same_tail 165 165 ((after_gate a ++ cells ls) ++ g ∷ xs) ((after_gate b ++ cells bs) ++ h ∷ ys) is in
    let parts = same_after a b (cells ls ++ g ∷ xs) (cells bs ++ h ∷ ys) (omega (arith, fa.0)) (omega (arith, fb.0)) (sym (append_assoc (after_gate a) (cells ls) (g ∷ xs)) ∙ rest ∙ append_assoc (after_gate b) (cells bs) (h ∷ ys)) in
    let others = same_cells largest ls bs g h xs ys small fa.1 fb.1 sg sh parts.1 in
    λ i. parts.0 i ∷ others i

pub same_bank : (s : ℕ) (a b : Bool) → Selects s a → Selects s b → a ≡ b
same_bank s true true p q = refl
same_bank s false false p q = refl
same_bank s true false p q = absurd (q p)
same_bank s false true p q = absurd (p q)

module _ (shape : Shape) (image : List ℕ) where
  banks_one : (second : Bool) (closed other : ℕ) (found bodies : List (List ℕ)) → shape.largest < 2 ^ 32 → IsBank shape second closed image found → IsBank shape second other image bodies → found ≡ bodies
  banks_one second closed other found bodies small t u =
      let from = begin shape second in
      let here = holds_drop from (cells found ++ t.gate ∷ []) image (holds_both from (cells found) (t.gate ∷ []) image t.cells.is (subst (λ (n : ℕ). Holds n (t.gate ∷ []) image) t.place t.closes)) in
      let there = holds_drop from (cells bodies ++ u.gate ∷ []) image (holds_both from (cells bodies) (u.gate ∷ []) image u.cells.is (subst (λ (n : ℕ). Holds n (u.gate ∷ []) image) u.place u.closes)) in
      same_cells shape.largest found bodies t.gate u.gate _ _ small t.cells.fit u.cells.fit t.shut u.shut
      (sym (append_assoc (cells found) (t.gate ∷ []) _) ∙ sym here ∙ there ∙ append_assoc (cells bodies) (u.gate ∷ []) _)

  texts_one : (second also : Bool) (closed other : ℕ) (found bodies : List (List ℕ)) → shape.largest < 2 ^ 32 → IsText shape second closed image found → IsText shape also other image bodies → found ≡ bodies
  texts_one second also closed other found bodies small t u =
      let selects = subst (λ (s : ℕ). Selects s also) (holds_one 7 u.head.selector t.head.selector image u.head.selected t.head.selected) u.head.selects in
      let same : also ≡ second = same_bank t.head.selector also second selects t.head.selects in
      banks_one second closed other found bodies small t.bank (subst (λ (b : Bool). IsBank shape b other image bodies) same u.bank)

  none_short : (second : Bool) (closed : ℕ) (bodies : List (List ℕ)) → IsText shape second closed image bodies → length image ≤ 9 → bodies ≡ []
  none_short second closed [] t short = refl
  none_short second closed (b ∷ bodies) t short = absurd (omega (arith, bank_long shape second closed image (b ∷ bodies) t.bank, t.bank.place, long-cells b bodies, begin_past shape second))

-- an image gives one list
pub gives_one : (shape : Shape) (second : Bool) (closed : ℕ) (image : List ℕ) (found bodies : List (List ℕ)) → shape.largest < 2 ^ 32 → IsText shape second closed image found → Gives shape image bodies → found ≡ bodies
gives_one shape second closed image found [] small t (fresh short) = none_short shape image second closed found t short
gives_one shape second closed image found bodies small t (text also other bodies' long u) = texts_one shape image second also closed other found bodies small t u

-- what is cut after the closed gate
pub cut_text : (shape : Shape) (second : Bool) (closed : ℕ) (d c : List ℕ) (bodies : List (List ℕ)) → IsText shape second closed d bodies → Cut (closed + 1) d c → IsText shape second closed c bodies
cut_text shape second closed d c bodies t cut =
    let past : 8 ≤ closed = omega (arith, t.bank.place, begin_past shape second) in
    record {
      head = record {
        selector = t.head.selector;
        head = cut_holds 0 (closed + 1) magic d c cut (omega (arith, past)) t.head.head;
        selected = cut_holds 7 (closed + 1) (t.head.selector ∷ []) d c cut (omega (arith, past)) t.head.selected;
        selects = t.head.selects;
      };
      bank = record {
        cells = record {
          is = cut_holds (begin shape second) (closed + 1) (cells bodies) d c cut (omega (arith, t.bank.place)) t.bank.cells.is;
          within = t.bank.cells.within;
          fit = t.bank.cells.fit;
        };
        gate = t.bank.gate;
        shut = t.bank.shut;
        closes = cut_holds closed (closed + 1) (t.bank.gate ∷ []) d c cut (omega arith) t.bank.closes;
        place = t.bank.place;
      };
    }

pub cut_keeps : (shape : Shape) (second : Bool) (closed : ℕ) (d c : List ℕ) (found : List (List ℕ)) → shape.largest < 2 ^ 32 → IsText shape second closed d found → Cut (closed + 1) d c → Keeps shape d c
cut_keeps shape second closed d c found small t cut bodies gives =
    subst (λ (bs : List (List ℕ)). Gives shape c bs) (gives_one shape second closed d found bodies small t gives) (text_gives shape second closed c found (cut_text shape second closed d c found t cut))

-- the text that was read
pub text_read : (shape : Shape) (second : Bool) (closed : ℕ) (found : List (List ℕ)) (shown mid : Option (List ℕ)) (d : List ℕ) → IfSome shown (IsLive second) → mid ≡ shown
    → IfSome mid (λ held. IsBank shape second closed held found) → shown ≡ Some d → IsText shape second closed d found
text_read shape second closed found shown mid d head same bank is =
    let h = subst (λ (o : Option (List ℕ)). IfSome o (IsLive second)) is head in
    record {
      head = h;
      bank = subst (λ (o : Option (List ℕ)). IfSome o (λ held. IsBank shape second closed held found)) (same ∙ is) bank;
    }
