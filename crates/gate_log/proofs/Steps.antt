-- The images after each step of an append.
use Rattle.std.proofs.Common.{◌≡◌, inl, ℕ, ◌+◌, ◌≤◌, max, Bool, arith, List, [], ◌∷◌, ◌++◌, length, refl, sym, ◌∙◌, ap, subst, Result, Ok, Err, OnOk, Option, Some, None, IfSome}
use Rattle.std.specs.Prelude.{option_map}
use Rattle.std.proofs.lemmas.Option.{none-some, same_Some}
use Rattle.dsc_outside.specs.Disk.{Each, Torn, From, Only, written}
use Rattle.gate_log.specs.declared.shape.Shape.{Shape}
use Rattle.gate_log.specs.Text.{after_gate, begin, need_of, IsText}
use Rattle.gate_log.specs.Steps.{IsStaged, TextBeforeOrAfter}
use Rattle.gate_log.proofs.Holds.{length-written}
use Rattle.gate_log.proofs.Cells.{torn_after, written_after, torn_gate, written_gate}

pub held_before : (f : List ℕ → List ℕ) (before after : Option (List ℕ)) (c : List ℕ) → after ≡ option_map f before → after ≡ Some c → (held : List ℕ) × (before ≡ Some held) × (c ≡ f held)
held_before f None after c is now = absurd (none-some c (sym is ∙ now))
held_before f (Some held) after c is now = (held, refl, same_Some c (f held) (sym now ∙ is))

pub both_ok : {T E P Q R : Type 0} (r : Result T E) → OnOk r P → OnOk r Q → (P → Q → R) → OnOk r R
both_ok (Ok v) p q f = f p q
both_ok (Err e) p q f = tt

pub if_some : {P : List ℕ → Type 0} (o : Option (List ℕ)) → ((held : List ℕ) → o ≡ Some held → P held) → IfSome o P
if_some None f = tt
if_some (Some held) f = f held refl

pub lengths : (at gate : ℕ) (cell : List ℕ) (seen0 seen1 seen2 : Option (List ℕ)) (n : ℕ) → seen1 ≡ option_map (written (at + 1) cell) seen0 → seen2 ≡ option_map (written at (gate ∷ [])) seen1
    → IfSome seen0 (λ held. at + 1 ≤ length held) → IfSome seen0 (λ held. n ≡ length held) → IfSome seen2 (λ now. max n (at + 1 + length cell) ≡ length now)
lengths at gate cell None seen1 seen2 n is1 is2 le long =
    let none : seen2 ≡ None = is2 ∙ ap (λ (o : Option (List ℕ)). option_map (written at (gate ∷ [])) o) is1 in
    subst (λ (o : Option (List ℕ)). IfSome o (λ now. max n (at + 1 + length cell) ≡ length now)) (sym none) tt
lengths at gate cell (Some held) seen1 seen2 n is1 is2 le long =
    let first = written (at + 1) cell held in
    let here : seen2 ≡ Some (written at (gate ∷ []) first) = is2 ∙ ap (λ (o : Option (List ℕ)). option_map (written at (gate ∷ [])) o) is1 in
    let size = length-written (at + 1) cell held le in
    let size2 = length-written at (gate ∷ []) first (omega (arith, size)) in
    subst (λ (o : Option (List ℕ)). IfSome o (λ now. max n (at + 1 + length cell) ≡ length now)) (sym here) (omega (arith, size, size2))

abbrev pub Honest : Option (List ℕ) → (List ℕ → Type 0) → Type 0
Honest shown images = (held : List ℕ) → shown ≡ Some held → images held

module _ (shape : Shape) (second : Bool) (closed : ℕ) (bodies : List (List ℕ)) (body cell : List ℕ) (is_cell : cell ≡ after_gate body ++ 0 ∷ []) (le : length body ≤ shape.largest) (capacity : closed + 1 + need_of body ≤ begin shape second + shape.bank)
    (old : List ℕ → Type 0) (texts : Each old (λ c. IsText shape second closed c bodies)) where
  pub first_moment : (c : List ℕ) → From (Torn (closed + 1) (length cell)) old c → TextBeforeOrAfter shape second closed bodies body c
  first_moment c from = inl (torn_after shape second closed bodies (length cell) from.0 c (texts from.0 from.1) from.2)

  module _ (seen0 seen1 : Option (List ℕ)) (honest0 : Honest seen0 old) (mid : List ℕ → Type 0) (is1 : seen1 ≡ option_map (written (closed + 1) cell) seen0) (only1 : Only seen1 mid) where
    pub staged : Each mid (λ c. IsStaged shape second closed c bodies body)
    staged c here =
        let from = held_before (written (closed + 1) cell) seen0 seen1 c is1 (only1 c here) in
        written_after shape second closed bodies body from.0 c (texts from.0 (honest0 from.0 from.1)) (subst (λ (l : List ℕ). c ≡ written (closed + 1) l from.0) is_cell from.2)

    pub second_moment : (c : List ℕ) → From (Torn closed 1) mid c → TextBeforeOrAfter shape second closed bodies body c
    second_moment c from = torn_gate shape second closed bodies body le capacity from.0 c (staged from.0 from.1) from.2

    pub appended : (seen2 : Option (List ℕ)) (new : List ℕ → Type 0) → Honest seen1 mid → seen2 ≡ option_map (written closed (165 ∷ [])) seen1 → Only seen2 new
        → Each new (λ c. IsText shape second (closed + length cell) c (bodies ++ body ∷ []))
    appended seen2 new honest1 is2 only2 c here =
        let from = held_before (written closed (165 ∷ [])) seen1 seen2 c is2 (only2 c here) in
        let done = written_gate shape second closed bodies body le capacity from.0 c (staged from.0 (honest1 from.0 from.1)) from.2 in
        subst (λ (l : List ℕ). IsText shape second (closed + length l) c (bodies ++ body ∷ [])) (sym is_cell) done
