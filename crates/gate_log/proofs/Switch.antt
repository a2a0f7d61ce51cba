-- What the writes of a rewrite make of a text.
use Rattle.std.proofs.Common.{◌≡◌, ◌≢◌, ◌⊎◌, inl, inr, ℕ, ◌+◌, ◌≤◌, Bool, true, false, not, List, [], ◌∷◌, length, get_or, sym, subst, arith}
use Rattle.std.proofs.lemmas.Bool.{cases_eq}
use Rattle.dsc_outside.specs.Disk.{Torn, written}
use Rattle.gate_log.specs.declared.shape.Shape.{Shape}
use Rattle.gate_log.specs.Text.{Holds, cells, magic, begin, Selects, IsBank, IsText}
use Rattle.gate_log.specs.Log.{OldOrNew}
use Rattle.gate_log.specs.Steps.{IsInOther, IsWhole}
use Rattle.gate_log.proofs.Holds.{holds_byte, holds_long, torn_holds, written_torn, written_holds}
use Rattle.gate_log.proofs.Cells.{begin_past, text_gives, torn_bank, torn_beside}

-- the banks lie apart
pub apart : (shape : Shape) (second : Bool) (closed at n : ℕ) → closed + 1 ≤ begin shape second + shape.bank → IsInOther shape second at n → (at + n ≤ begin shape second) ⊎ (closed + 1 ≤ at)
apart shape false closed at n le other = inr (omega (arith, other.after))
apart shape true closed at n le other = inl (omega (arith, other.within))

pub torn_other : (shape : Shape) (second : Bool) (closed at n : ℕ) (bodies : List (List ℕ)) (d c : List ℕ) → IsInOther shape second at n → IsText shape second closed d bodies → Torn at n d c → IsText shape second closed c bodies
torn_other shape second closed at n bodies d c other t torn =
    torn_beside shape second closed bodies at n d c t torn (omega (arith, other.after, begin_past shape (not second))) (apart shape second closed at n (omega (arith, t.bank.place, t.bank.cells.within)) other)

-- both banks hold what they should
pub record IsReadyToSwitch (shape : Shape) (second : Bool) (closed at : ℕ) (image : List ℕ) (bodies put : List (List ℕ)) : Type 0 where
  pub live : IsText shape second closed image bodies
  pub other : IsBank shape (not second) at image put

pub written_whole : (shape : Shape) (second : Bool) (closed at : ℕ) (bodies put : List (List ℕ)) (d c : List ℕ) → at ≤ length d → IsWhole shape second at put → Holds (begin shape (not second)) (cells put) d → IsText shape second closed d bodies
    → c ≡ written at (0 ∷ []) d → IsReadyToSwitch shape second closed at c bodies put
written_whole shape second closed at bodies put d c le whole put_there t is =
    let new = written at (0 ∷ []) d in
    let torn = written_torn at (0 ∷ []) d le in
    subst (λ (l : List ℕ). IsReadyToSwitch shape second closed at l bodies put) (sym is) (record {
      live = torn_other shape second closed at 1 bodies d new (record { after = omega (arith, whole.place); within = omega (arith, whole.place, whole.within) }) t torn;
      other = record {
        cells = record {
          is = torn_holds (begin shape (not second)) at 1 (cells put) d new torn (inl (omega (arith, whole.place))) put_there;
          within = whole.within;
          fit = whole.fit;
        };
        gate = 0;
        shut = omega arith;
        closes = written_holds at (0 ∷ []) d le;
        place = whole.place;
      };
    })

module _ (shape : Shape) (second : Bool) (closed at : ℕ) (bodies put : List (List ℕ)) where
  -- any selector makes one of both banks live
  text_by : (d c : List ℕ) (selector : ℕ) (now : Bool) (place : ℕ) (those : List (List ℕ)) → IsText shape second closed d bodies → IsBank shape now place d those → Torn 7 1 d c → Holds 7 (selector ∷ []) c → Selects selector now → IsText shape now place c those
  text_by d c selector now place those t bank torn here selects = record {
    head = record {
      selector = selector;
      head = torn_holds 0 7 1 magic d c torn (inl (omega arith)) t.head.head;
      selected = here;
      selects = selects;
    };
    bank = torn_bank shape now place those 7 1 d c bank torn (inl (begin_past shape now));
  }

  which : (selector : ℕ) → Selects selector second ⊎ Selects selector (not second)
  which selector = by second (cases_eq selector 50)
    where
      by : (b : Bool) → (selector ≡ 50) ⊎ (selector ≢ 50) → Selects selector b ⊎ Selects selector (not b)
      by true (inl is) = inl is
      by true (inr is) = inr is
      by false (inl is) = inr is
      by false (inr is) = inl is

  pub torn_selector : (d c : List ℕ) → IsReadyToSwitch shape second closed at d bodies put → Torn 7 1 d c → OldOrNew shape bodies put c
  torn_selector d c ready torn =
      let here = holds_byte 7 c (omega (arith, torn.no_shorter, holds_long 7 ready.live.head.selector [] d ready.live.head.selected)) in
      elim (which (get_or c 7 0)) [
        | inl same ↦ inl (text_gives shape second closed c bodies (text_by d c _ second closed bodies ready.live ready.live.bank torn here same))
        | inr other ↦ inr (text_gives shape (not second) at c put (text_by d c _ (not second) at put ready.live ready.other torn here other))
      ]

  pub written_selector : (selector : ℕ) (d c : List ℕ) → Selects selector (not second) → IsReadyToSwitch shape second closed at d bodies put → c ≡ written 7 (selector ∷ []) d → IsText shape (not second) at c put
  written_selector selector d c selects ready is =
      let le : 7 ≤ length d = omega (arith, holds_long 7 ready.live.head.selector [] d ready.live.head.selected) in
      subst (λ (l : List ℕ). IsText shape (not second) at l put) (sym is)
      (text_by d (written 7 (selector ∷ []) d) selector (not second) at put ready.live ready.other (written_torn 7 (selector ∷ []) d le) (written_holds 7 (selector ∷ []) d le) selects)
