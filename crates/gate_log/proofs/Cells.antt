-- What the two writes of a cell make of a text.
use Rattle.std.proofs.Common.{◌≡◌, ◌⊎◌, inl, inr, ℕ, ◌+◌, ◌<◌, ◌≤◌, Bool, true, false, List, [], ◌∷◌, ◌++◌, length, get_or, sym, ◌∙◌, ap, subst, arith, append_assoc, length-append}
use Rattle.std.proofs.lemmas.List.{append-nil}
use Rattle.std.proofs.lemmas.Bool.{cases_eq}
use Rattle.dsc_outside.specs.Disk.{Torn, written}
use Rattle.gate_log.specs.declared.shape.Shape.{Shape}
use Rattle.gate_log.specs.Text.{Holds, after_gate, cells, magic, begin, AllFit, IsBank, IsText, Gives, fresh, text, IsLive, need_of}
use Rattle.gate_log.specs.Log.{BeforeOrAfter}
use Rattle.gate_log.specs.Steps.{IsStaged, TextBeforeOrAfter}
use Rattle.gate_log.proofs.Holds.{holds_first, holds_second, holds_both, holds_long, holds_byte, torn_holds, written_torn, written_holds}

cells-push-rest : (bodies : List (List ℕ)) (body rest : List ℕ) → cells (bodies ++ body ∷ []) ++ rest ≡ cells bodies ++ 165 ∷ (after_gate body ++ rest)
cells-push-rest [] body rest = ap (λ (l : List ℕ). 165 ∷ (l ++ rest)) (append-nil (after_gate body))
cells-push-rest (b ∷ bodies) body rest =
    ap (λ (l : List ℕ). 165 ∷ l) (append_assoc (after_gate b) (cells (bodies ++ body ∷ [])) rest ∙ ap (λ (l : List ℕ). after_gate b ++ l) (cells-push-rest bodies body rest) ∙ sym (append_assoc (after_gate b) (cells bodies) (165 ∷ (after_gate body ++ rest))))

pub cells-push : (bodies : List (List ℕ)) (body : List ℕ) → cells (bodies ++ body ∷ []) ≡ cells bodies ++ 165 ∷ after_gate body
cells-push bodies body = sym (append-nil (cells (bodies ++ body ∷ []))) ∙ cells-push-rest bodies body [] ∙ ap (λ (l : List ℕ). cells bodies ++ 165 ∷ l) (append-nil (after_gate body))

pub length-after_gate : (body : List ℕ) → length (after_gate body) ≡ 4 + length body
unfolding after_gate
length-after_gate body = omega arith

-- a cell but for its gate, with a closed gate after it
pub cell_size : (cell body : List ℕ) → cell ≡ after_gate body ++ 0 ∷ [] → length cell ≡ need_of body
cell_size cell body is = omega (arith, ap length is, length-append (after_gate body) (0 ∷ []), length-after_gate body)

pub length-cells-push : (bodies : List (List ℕ)) (body : List ℕ) → length (cells (bodies ++ body ∷ [])) ≡ length (cells bodies) + need_of body
length-cells-push bodies body = omega (arith, ap length (cells-push bodies body), length-append (cells bodies) (165 ∷ after_gate body), length-after_gate body)

pub long-cells : (body : List ℕ) (bodies : List (List ℕ)) → 5 ≤ length (cells (body ∷ bodies))
long-cells body bodies = omega (arith, length-append (after_gate body) (cells bodies), length-after_gate body)

pub fit-push : (largest : ℕ) (bodies : List (List ℕ)) (body : List ℕ) → AllFit largest bodies → length body ≤ largest → AllFit largest (bodies ++ body ∷ [])
fit-push largest [] body fit le = (le, tt)
fit-push largest (b ∷ bodies) body fit le = (fit.0, fit-push largest bodies body fit.1 le)

pub begin_past : (shape : Shape) (second : Bool) → 8 ≤ begin shape second
begin_past shape false = omega arith
begin_past shape true = omega arith

pub bank_long : (shape : Shape) (second : Bool) (closed : ℕ) (image : List ℕ) (bodies : List (List ℕ)) → IsBank shape second closed image bodies → closed + 1 ≤ length image
bank_long shape second closed image bodies b = holds_long closed b.gate [] image b.closes

pub text_gives : (shape : Shape) (second : Bool) (closed : ℕ) (image : List ℕ) (bodies : List (List ℕ)) → IsText shape second closed image bodies → Gives shape image bodies
text_gives shape second closed image bodies is_text = elim (cases_le (length image) 9) [
  | inl short ↦ few bodies is_text short
  | inr more ↦ text second closed bodies more is_text
]
  where
    cases_le : (m n : ℕ) → (m ≤ n) ⊎ (n < m)
    cases_le m n = grind arith

    few : (bodies : List (List ℕ)) → IsText shape second closed image bodies → length image ≤ 9 → Gives shape image bodies
    few [] is_text short = fresh short
    few (b ∷ bodies) is_text short = absurd (omega (arith, bank_long shape second closed image (b ∷ bodies) is_text.bank, is_text.bank.place, long-cells b bodies, begin_past shape second))

pub text_live : (shape : Shape) (second : Bool) (closed : ℕ) (image : List ℕ) (bodies : List (List ℕ)) → IsText shape second closed image bodies → IsLive second image
text_live shape second closed image bodies t = t.head

pub either_gives : (shape : Shape) (second : Bool) (closed : ℕ) (bodies : List (List ℕ)) (body image : List ℕ) → TextBeforeOrAfter shape second closed bodies body image → BeforeOrAfter shape bodies body image
either_gives shape second closed bodies body image (inl t) = inl (text_gives shape second closed image bodies t)
either_gives shape second closed bodies body image (inr t) = inr (text_gives shape second _ image (bodies ++ body ∷ []) t)

pub either_live : (shape : Shape) (second : Bool) (closed : ℕ) (bodies : List (List ℕ)) (body image : List ℕ) → TextBeforeOrAfter shape second closed bodies body image → IsLive second image
either_live shape second closed bodies body image (inl t) = text_live shape second closed image bodies t
either_live shape second closed bodies body image (inr t) = text_live shape second _ image (bodies ++ body ∷ []) t

module _ (shape : Shape) (second : Bool) (closed : ℕ) (bodies : List (List ℕ)) where
  pub text_long : (d : List ℕ) → IsText shape second closed d bodies → closed + 1 ≤ length d
  text_long d t = bank_long shape second closed d bodies t.bank

  -- a change before this bank, or after its closed gate
  pub torn_bank : (at n : ℕ) (d c : List ℕ) → IsBank shape second closed d bodies → Torn at n d c → (at + n ≤ begin shape second) ⊎ (closed + 1 ≤ at) → IsBank shape second closed c bodies
  torn_bank at n d c b torn beside = record {
    cells = record {
      is = torn_holds (begin shape second) at n (cells bodies) d c torn (first beside) b.cells.is;
      within = b.cells.within;
      fit = b.cells.fit;
    };
    gate = b.gate;
    shut = b.shut;
    closes = torn_holds closed at n (b.gate ∷ []) d c torn (gate beside) b.closes;
    place = b.place;
  }
    where
      first : (at + n ≤ begin shape second) ⊎ (closed + 1 ≤ at) → (begin shape second + length (cells bodies) ≤ at) ⊎ (at + n ≤ begin shape second)
      first (inl le) = inr le
      first (inr le) = inl (omega (arith, b.place))

      gate : (at + n ≤ begin shape second) ⊎ (closed + 1 ≤ at) → (closed + length (b.gate ∷ []) ≤ at) ⊎ (at + n ≤ closed)
      gate (inl le) = inr (omega (arith, b.place))
      gate (inr le) = inl le

  torn_head : (at n : ℕ) (d c : List ℕ) → IsLive second d → Torn at n d c → 8 ≤ at → IsLive second c
  torn_head at n d c h torn past = record {
    selector = h.selector;
    head = torn_holds 0 at n magic d c torn (inl (omega arith)) h.head;
    selected = torn_holds 7 at n (h.selector ∷ []) d c torn (inl past) h.selected;
    selects = h.selects;
  }

  -- whatever is changed after the head and beside the live bank
  pub torn_beside : (at n : ℕ) (d c : List ℕ) → IsText shape second closed d bodies → Torn at n d c → 8 ≤ at → (at + n ≤ begin shape second) ⊎ (closed + 1 ≤ at) → IsText shape second closed c bodies
  torn_beside at n d c t torn past beside = record {
    head = torn_head at n d c t.head torn past;
    bank = torn_bank at n d c t.bank torn beside;
  }

  past_head : (d : List ℕ) → IsText shape second closed d bodies → 8 ≤ closed
  past_head d t = omega (arith, t.bank.place, begin_past shape second)

  pub torn_after : (n : ℕ) (d c : List ℕ) → IsText shape second closed d bodies → Torn (closed + 1) n d c → IsText shape second closed c bodies
  torn_after n d c t torn = torn_beside (closed + 1) n d c t torn (omega (arith, past_head d t)) (inr (omega arith))

  pub written_after : (body d c : List ℕ) → IsText shape second closed d bodies → c ≡ written (closed + 1) (after_gate body ++ 0 ∷ []) d → IsStaged shape second closed c bodies body
  written_after body d c t is =
      let cell = after_gate body ++ 0 ∷ [] in
      subst (λ (l : List ℕ). IsStaged shape second closed l bodies body) (sym is) (record {
        text = torn_after (length cell) d (written (closed + 1) cell d) t (written_torn (closed + 1) cell d (text_long d t));
        cell = written_holds (closed + 1) cell d (text_long d t);
      })

  module _ (body : List ℕ) (le : length body ≤ shape.largest) (capacity : closed + 1 + need_of body ≤ begin shape second + shape.bank) where
    opened : (d c : List ℕ) → IsStaged shape second closed d bodies body → Torn closed 1 d c → Holds closed (165 ∷ []) c → IsText shape second (closed + length (after_gate body ++ 0 ∷ [])) c (bodies ++ body ∷ [])
    opened d c s torn gate =
        let t = s.text in
        let first = begin shape second in
        let front : Holds first (cells bodies) c = torn_holds first closed 1 (cells bodies) d c torn (inl (omega (arith, t.bank.place))) t.bank.cells.is in
        let cell : Holds (closed + 1) (after_gate body ++ 0 ∷ []) c = torn_holds (closed + 1) closed 1 (after_gate body ++ 0 ∷ []) d c torn (inr (omega arith)) s.cell in
        let whole : Holds closed (165 ∷ after_gate body) c = holds_both closed (165 ∷ []) (after_gate body) c gate (holds_first (closed + 1) (after_gate body) (0 ∷ []) c cell) in
        let place : closed + length (after_gate body ++ 0 ∷ []) ≡ closed + 1 + length (after_gate body) = omega (arith, length-append (after_gate body) (0 ∷ [])) in
        record {
          head = torn_head closed 1 d c t.head torn (past_head d t);
          bank = record {
            cells = record {
              is = subst (λ (l : List ℕ). Holds first l c) (sym (cells-push bodies body)) (holds_both first (cells bodies) (165 ∷ after_gate body) c front (subst (λ (n : ℕ). Holds n (165 ∷ after_gate body) c) t.bank.place whole));
              within = omega (arith, t.bank.place, length-cells-push bodies body, capacity);
              fit = fit-push shape.largest bodies body t.bank.cells.fit le;
            };
            gate = 0;
            shut = omega arith;
            closes = subst (λ (n : ℕ). Holds n (0 ∷ []) c) (sym place) (holds_second (closed + 1) (after_gate body) (0 ∷ []) c cell);
            place = omega (arith, place, t.bank.place, length-cells-push bodies body, length-after_gate body);
          };
        }

    pub torn_gate : (d c : List ℕ) → IsStaged shape second closed d bodies body → Torn closed 1 d c → TextBeforeOrAfter shape second closed bodies body c
    torn_gate d c s torn =
        let t = s.text in
        let there : closed < length c = omega (arith, torn.no_shorter, text_long d t) in
        let gate = get_or c closed 0 in
        let here : Holds closed (gate ∷ []) c = holds_byte closed c there in
        elim (cases_eq gate 165) [
          | inl is_open ↦ inr (subst (λ (n : ℕ). IsText shape second (closed + n) c (bodies ++ body ∷ [])) (omega (arith, length-append (after_gate body) (0 ∷ []), length-after_gate body)) (opened d c s torn (subst (λ (n : ℕ). Holds closed (n ∷ []) c) is_open here)))
          | inr shut ↦ inl (record {
            head = torn_head closed 1 d c t.head torn (past_head d t);
            bank = record {
              cells = record {
                is = torn_holds (begin shape second) closed 1 (cells bodies) d c torn (inl (omega (arith, t.bank.place))) t.bank.cells.is;
                within = t.bank.cells.within;
                fit = t.bank.cells.fit;
              };
              gate = gate;
              shut = shut;
              closes = here;
              place = t.bank.place;
            };
          })
        ]

    pub written_gate : (d c : List ℕ) → IsStaged shape second closed d bodies body → c ≡ written closed (165 ∷ []) d → IsText shape second (closed + length (after_gate body ++ 0 ∷ [])) c (bodies ++ body ∷ [])
    written_gate d c s is =
        let le : closed ≤ length d = omega (arith, text_long d s.text) in
        subst (λ (l : List ℕ). IsText shape second (closed + length (after_gate body ++ 0 ∷ [])) l (bodies ++ body ∷ [])) (sym is)
        (opened d (written closed (165 ∷ []) d) s (written_torn closed (165 ∷ []) d le) (written_holds closed (165 ∷ []) d le))
