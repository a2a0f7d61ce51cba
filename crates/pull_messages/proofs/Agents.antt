-- Identifiers at the front of characters.
use Rattle.std.proofs.Common.{◌≡◌, ◌⊎◌, ◌<◌, ◌≤◌, ◌-◌, ◌+◌, ◌==◌, ◌&&◌, ◌||◌, inl, inr, ℕ, zero, suc, List, [], ◌∷◌, ◌++◌, length, take, drop, get_or, replicate, Bool, true, false, cond, Option, Some, None, option_map, codes, nat_lt, refl, sym, ◌∙◌, ap, subst, arith, append_assoc, length-append, length-drop}
use Rattle.std.specs.Int.{w128, from_be_bytes}
use Rattle.std.specs.List.{list_all}
use Rattle.std.specs.Str.{all_scalars, IsAscii}
use Rattle.std.proofs.lemmas.Bool.Decides.{nat_tests}
use Rattle.std.proofs.lemmas.Bool.{eqb-true, ltb-true, ltb-false}
use Rattle.std.proofs.lemmas.List.{get_or-append-add, get_or-drop, get_or-replicate, take-append-drop}
use Rattle.std.proofs.Math.ListN.{get_or-append, get_or-eq_default}
use Rattle.std.proofs.Math.Seq.{get_or-append_seam}
use Rattle.uuid.specs.Text.{by_index, is_hyphen_place, is_hex_digit, hyphen_place, digit_place, digits_of, has_hyphens, byte_of_digits, parsed_simple, parsed_hyphenated}
use Rattle.uuid.proofs.TextLemmas.{by_index_length, by_index_at, simple_some, hyphens_pass}
use Rattle.pull_messages.specs.Cells.{is_cell, AreCells, AreAllCells}
use Rattle.pull_messages.specs.Stops.{Begins, StopsAt, IsAgent}
use Rattle.pull_messages.specs.Targets.{agent_of}
use Rattle.pull_messages.proofs.Languages.{fronts, same_front, PrefixFree}
use Rattle.pull_messages.proofs.Scalars.{both, scalars_end}

hex_cell : (text : List ℕ) (k : ℕ) → AreAllCells text → k < 32 → is_hex_digit (get_or text (hyphen_place k) 0) ≡ true
hex_cell text k cells within =
    let no_hyphen : is_hyphen_place (hyphen_place k) ≡ false = grind (arith, nat_tests) in
    let small : hyphen_place k < 36 = grind (arith, nat_tests) in
    rw no_hyphen at (cells.0 (hyphen_place k) (omega (arith, cells.1, small)))

-- the cells of an identifier are one
pub cells_parsed : (text : List ℕ) → AreAllCells text → (bytes : List ℕ) × (parsed_hyphenated text ≡ Some bytes)
cells_parsed text cells =
    let h8 : (get_or text 8 0 == 45) ≡ true = cells.0 8 (omega (arith, cells.1)) in
    let h13 : (get_or text 13 0 == 45) ≡ true = cells.0 13 (omega (arith, cells.1)) in
    let h18 : (get_or text 18 0 == 45) ≡ true = cells.0 18 (omega (arith, cells.1)) in
    let h23 : (get_or text 23 0 == 45) ≡ true = cells.0 23 (omega (arith, cells.1)) in
    let hyphens : has_hyphens text ≡ true = rw (h8, h13, h18, h23) refl in
    let hex = digits_of text in
    let digit : (k : ℕ) → k < 32 → is_hex_digit (get_or hex k 0) ≡ true =
    λ k within. rw (by_index_at 32 (λ i. get_or text (hyphen_place i) 0) k 0 within) (hex_cell text k cells within) in
    let out = by_index 16 (byte_of_digits hex) in
    let simple = simple_some hex out (by_index_length 32 _) (by_index_length 16 (byte_of_digits hex)) digit (λ i d within. by_index_at 16 (byte_of_digits hex) i d within) in
    (out, sym (hyphens_pass text cells.1 hyphens) ∙ sym simple)

pub parsed_agent : (text bytes : List ℕ) → parsed_hyphenated text ≡ Some bytes → agent_of text ≡ Some (from_be_bytes w128 bytes)
unfolding agent_of
parsed_agent text bytes is = ap (option_map (from_be_bytes w128)) is

pub cells_agent : (text : List ℕ) → AreAllCells text → IsAgent text
cells_agent text cells = let found = cells_parsed text cells in (from_be_bytes w128 found.0, parsed_agent text found.0 found.1)

some_of_map : {A B : Type 0} (f : A → B) (o : Option A) (y : B) → option_map f o ≡ Some y → (x : A) × (o ≡ Some x)
some_of_map f None y is = cc is
some_of_map f (Some x) y is = (x, refl)

list_all_at : (p : ℕ → Bool) (xs : List ℕ) → list_all p xs ≡ true → (k : ℕ) → k < length xs → p (get_or xs k 0) ≡ true
list_all_at p [] is k within = absurd (omega arith)
list_all_at p (x ∷ xs) is zero within = (both (p x) (list_all p xs) is).0
list_all_at p (x ∷ xs) is (suc k) within = list_all_at p xs (both (p x) (list_all p xs) is).1 k (omega arith)

chosen_some : {X : Type 0} (b : Bool) (o : Option X) (y : X) → cond b o None ≡ Some y → (b ≡ true) × (o ≡ Some y)
chosen_some true o y is = (refl, is)
chosen_some false o y is = cc is

either : (a b : Bool) → a || b ≡ true → (a ≡ true) ⊎ (b ≡ true)
either true b is = inl refl
either false b is = inr is

-- what an identifier is: its length, its hyphens and its digits
record IsParsed (text : List ℕ) : Type 0 where
  len : length text ≡ 36
  hyphens : has_hyphens text ≡ true
  digits : list_all is_hex_digit (digits_of text) ≡ true

parsed_parts : (text : List ℕ) (id : ℕ) → agent_of text ≡ Some id → IsParsed text
unfolding agent_of
parsed_parts text id is =
    let found = some_of_map (from_be_bytes w128) (parsed_hyphenated text) id is in
    let outer = chosen_some ((length text == 36) && has_hyphens text) (parsed_simple (digits_of text)) found.0 found.1 in
    let shape = both (length text == 36) (has_hyphens text) outer.0 in
    let inner = chosen_some ((length (digits_of text) == 32) && list_all is_hex_digit (digits_of text)) (Some (by_index 16 (byte_of_digits (digits_of text)))) found.0 outer.1 in
    record { len = eqb-true (length text) 36 shape.0; hyphens = shape.1; digits = (both (length (digits_of text) == 32) (list_all is_hex_digit (digits_of text)) inner.0).1 }

pub agent_length : (text : List ℕ) (id : ℕ) → agent_of text ≡ Some id → length text ≡ 36
agent_length text id is = (parsed_parts text id is).len

hyphen_cell : (text : List ℕ) (k : ℕ) → IsParsed text → is_hyphen_place k ≡ true → get_or text k 0 ≡ 45
hyphen_cell text k parts is =
    let h = parts.hyphens in
    let last = both ((get_or text 8 0 == 45) && (get_or text 13 0 == 45) && (get_or text 18 0 == 45)) (get_or text 23 0 == 45) h in
    let third = both ((get_or text 8 0 == 45) && (get_or text 13 0 == 45)) (get_or text 18 0 == 45) last.0 in
    let second = both (get_or text 8 0 == 45) (get_or text 13 0 == 45) third.0 in
    let at = λ (j : ℕ) (same : (k == j) ≡ true) (there : (get_or text j 0 == 45) ≡ true). ap (λ (i : ℕ). get_or text i 0) (eqb-true k j same) ∙ eqb-true (get_or text j 0) 45 there in
    elim (either ((k == 8) || (k == 13) || (k == 18)) (k == 23) is) [
      | inl front ↦ elim (either ((k == 8) || (k == 13)) (k == 18) front) [
        | inl two ↦ elim (either (k == 8) (k == 13) two) [
          | inl one ↦ at 8 one second.0
          | inr one ↦ at 13 one second.1
        ]
        | inr one ↦ at 18 one third.1
      ]
      | inr one ↦ at 23 one last.1
    ]

digit_cell : (text : List ℕ) (k : ℕ) → k < 36 → IsParsed text → is_hyphen_place k ≡ false → is_hex_digit (get_or text k 0) ≡ true
digit_cell text k within parts is =
    let back : hyphen_place (digit_place k) ≡ k = grind (arith, nat_tests) in
    let small : digit_place k < 32 = grind (arith, nat_tests) in
    let digit = list_all_at is_hex_digit (digits_of text) parts.digits (digit_place k) (omega (arith, small, by_index_length 32 (λ i. get_or text (hyphen_place i) 0))) in
    let read : get_or (digits_of text) (digit_place k) 0 ≡ get_or text (hyphen_place (digit_place k)) 0 = by_index_at 32 (λ i. get_or text (hyphen_place i) 0) (digit_place k) 0 small in
    let place : get_or text (hyphen_place (digit_place k)) 0 ≡ get_or text k 0 = ap (λ (i : ℕ). get_or text i 0) back in
    subst (λ (c : ℕ). is_hex_digit c ≡ true) (read ∙ place) digit

cell_by : (text : List ℕ) (k : ℕ) → k < 36 → IsParsed text → (b : Bool) → is_hyphen_place k ≡ b → is_cell k (get_or text k 0) ≡ true
cell_by text k within parts true is = rw (is, hyphen_cell text k parts is) refl
cell_by text k within parts false is = rw is (digit_cell text k within parts is)

pub agent_cells : (text : List ℕ) (id : ℕ) → agent_of text ≡ Some id → AreAllCells text
agent_cells text id is =
    let parts = parsed_parts text id is in
    ((λ k within. cell_by text k (omega (arith, parts.len)) parts (is_hyphen_place k) refl), parts.len)

pub agent_free : PrefixFree IsAgent
agent_free a r b s in_a in_b e = (same_front a r b s e (agent_length a in_a.0 in_a.1 ∙ sym (agent_length b in_b.0 in_b.1))).0

zeros : List ℕ
zeros = codes "00000000-0000-0000-0000-000000000000"

bit : Bool → ℕ
bit true = 1
bit false = 0

one_true : (b : Bool) → bit b ≡ 1 → b ≡ true
unfolding bit
one_true true is = refl
one_true false is = absurd (omega (arith, is))

zero_cells : (k : ℕ) → k < 36 → is_cell k (get_or zeros k 0) ≡ true
unfolding zeros by_index bit
zero_cells k within =
    let ones : List ℕ = replicate 36 1 in
    let all : by_index 36 (λ j. bit (is_cell j (get_or zeros j 0))) ≡ ones = refl in
    one_true (is_cell k (get_or zeros k 0))
    (sym (by_index_at 36 (λ j. bit (is_cell j (get_or zeros j 0))) k 0 within) ∙ ap (λ (l : List ℕ). get_or l k 0) all ∙ get_or-replicate 36 k 1 0 within)

filled : (front : List ℕ) → AreCells front → length front < 36 → AreAllCells (front ++ drop (length front) zeros)
unfolding zeros
filled front cells small =
    let size : length (front ++ drop (length front) zeros) ≡ 36 = omega (arith, length-append front (drop (length front) zeros), length-drop (length front) zeros) in
    ((λ k within. at k within (nat_lt k (length front)) refl), size)
  where
    at : (k : ℕ) → k < length (front ++ drop (length front) zeros) → (b : Bool) → nat_lt k (length front) ≡ b → is_cell k (get_or (front ++ drop (length front) zeros) k 0) ≡ true
    at k within true is =
        let inside : k < length front = ltb-true k (length front) is in
        subst (λ (c : ℕ). is_cell k c ≡ true) (sym (get_or-append front (drop (length front) zeros) 0 k inside)) (cells k inside)
    at k within false is =
        let past : length front ≤ k = ltb-false k (length front) is in
        let n = k - length front in
        let place : length front + n ≡ k = omega (arith, past) in
        let within_all : k < 36 = omega (arith, within, length-append front (drop (length front) zeros), length-drop (length front) zeros) in
        let read : get_or (front ++ drop (length front) zeros) k 0 ≡ get_or zeros k 0 =
        ap (λ (i : ℕ). get_or (front ++ drop (length front) zeros) i 0) (sym place) ∙ get_or-append-add front (drop (length front) zeros) n 0
        ∙ get_or-drop (length front) zeros n 0 ∙ ap (λ (i : ℕ). get_or zeros i 0) place in
        subst (λ (c : ℕ). is_cell k c ≡ true) (sym read) (zero_cells k within_all)

tail_scalars : (n : ℕ) → all_scalars (drop n zeros) ≡ true
unfolding zeros
tail_scalars n =
    let whole : all_scalars zeros ≡ true = refl in
    scalars_end (take n zeros) (drop n zeros) (subst (λ (l : List ℕ). all_scalars l ≡ true) (sym (take-append-drop n zeros)) whole)

pub agent_stops : (chars front left : List ℕ) → chars ≡ front ++ left → AreCells front → length front < 36
    → ((c : ℕ) (rest : List ℕ) → left ≡ c ∷ rest → is_cell (length front) c ≡ true → ⊥) → StopsAt IsAgent chars (length left)
agent_stops chars front left split cells small none =
    record {
      front = front;
      rest = left;
      split = split;
      size = refl;
      begins = (drop (length front) zeros, tail_scalars (length front), cells_agent (front ++ drop (length front) zeros) (filled front cells small));
      whole = λ agent. absurd (omega (arith, small, agent_length front agent.0 agent.1));
      longest = λ more after fronts_is begun.
          elim (fronts more after front left (sym fronts_is ∙ split)) [
            | inl longer ↦ within longer.0 more after longer.1 longer.2 begun
            | inr shorter ↦ omega (arith, ap length shorter.2, length-append shorter.0 left)
          ];
    }
  where
    within : (u more after : List ℕ) → more ≡ front ++ u → left ≡ u ++ after → Begins IsAgent more → length left ≤ length after
    within [] more after longer rest begun = omega (arith, ap length rest)
    within (c ∷ u) more after longer rest begun =
        let all = agent_cells (more ++ begun.0) begun.2.0 begun.2.1 in
        let shape : more ++ begun.0 ≡ front ++ c ∷ (u ++ begun.0) = ap (λ (l : List ℕ). l ++ begun.0) longer ∙ append_assoc front (c ∷ u) begun.0 in
        let there : get_or (more ++ begun.0) (length front) 0 ≡ c = ap (λ (l : List ℕ). get_or l (length front) 0) shape ∙ get_or-append_seam front c (u ++ begun.0) 0 in
        let cell = all.0 (length front) (omega (arith, small, all.1)) in
        absurd (none c (u ++ after) rest (subst (λ (x : ℕ). is_cell (length front) x ≡ true) there cell))

pub no_cells : AreCells []
no_cells k within = absurd (omega arith)

pub cells_more : (front : List ℕ) (c : ℕ) → AreCells front → is_cell (length front) c ≡ true → AreCells (front ++ c ∷ [])
cells_more front c cells next k within = at k within (nat_lt k (length front)) refl
  where
    at : (k : ℕ) → k < length (front ++ c ∷ []) → (b : Bool) → nat_lt k (length front) ≡ b → is_cell k (get_or (front ++ c ∷ []) k 0) ≡ true
    at k within true is =
        let inside : k < length front = ltb-true k (length front) is in
        subst (λ (x : ℕ). is_cell k x ≡ true) (sym (get_or-append front (c ∷ []) 0 k inside)) (cells k inside)
    at k within false is =
        let past : length front ≤ k = ltb-false k (length front) is in
        let here : length front ≡ k = omega (arith, past, within, length-append front (c ∷ [])) in
        subst (λ (i : ℕ). is_cell i (get_or (front ++ c ∷ []) i 0) ≡ true) here
        (subst (λ (x : ℕ). is_cell (length front) x ≡ true) (sym (get_or-append_seam front c [] 0)) next)

-- the characters of an identifier are ASCII
pub cells_ascii : (text : List ℕ) → AreCells text → IsAscii text
cells_ascii text cells k = at k (nat_lt k (length text)) refl
  where
    small : (k c : ℕ) → is_cell k c ≡ true → c < 128
    small k c is = grind (arith, nat_tests)

    at : (k : ℕ) (b : Bool) → nat_lt k (length text) ≡ b → get_or text k 0 < 128
    at k true is = small k (get_or text k 0) (cells k (ltb-true k (length text) is))
    at k false is = let none : get_or text k 0 ≡ 0 = get_or-eq_default text 0 (ltb-false k (length text) is) in omega (arith, none)

pub agent_some : (text : List ℕ) × (all_scalars text ≡ true) × IsAgent text
unfolding zeros
agent_some = (zeros, refl, cells_agent zeros ((λ k within. zero_cells k within), refl))
