-- Bytes are a store, or fail.
use Rattle.std.proofs.Common.{◌≡◌, ◌≢◌, ◌⊎◌, inl, inr, ℕ, zero, suc, ◌+◌, ◌≤◌, ◌<◌, ◌^◌, Bool, true, false, List, [], ◌∷◌, ◌++◌, length, get_or, take, drop, refl, sym, ◌∙◌, ap, subst, arith, length-drop}
use Rattle.std.specs.Int.{w32, to_be_bytes, from_be_bytes}
use Rattle.std.proofs.lemmas.Nat.{be_bytes_4}
use Rattle.std.proofs.lemmas.Bool.{cases_lt, cases_eq}
use Rattle.std.proofs.lemmas.List.{get_or-take, get_or-drop, length-take-le, take_more_same}
use Rattle.std.proofs.Math.ListN.{get_or-eq_default}
use Rattle.gate_log.specs.declared.shape.Shape.{Shape}
use Rattle.gate_log.specs.Text.{Holds, after_gate, begin, end_of, cells, magic, IsLive, HasCells, IsBank, fresh, text, HasNumber, IsTooLong, FailsFrom, no_gate, no_length, too_long, no_body, FailsInBank, wrong_magic, wrong_bank}
use Rattle.gate_log.specs.Laws.{AreBytes, AnswerExists}
use Rattle.gate_log.proofs.Holds.{holds_both, holds_byte}
use Rattle.gate_log.proofs.Cells.{cells-push, length-cells-push, fit-push}

-- ---- the length that stands in four bytes

below_byte : (image : List ℕ) (from n i : ℕ) → AreBytes image → get_or (take n (drop from image)) i 0 < 256
below_byte image from n i bytes = elim (cases_lt i n) [
  | inl less ↦ subst (λ (b : ℕ). b < 256) (sym (get_or-take n (drop from image) i 0 less ∙ get_or-drop from image i 0)) (bytes (from + i))
  | inr past ↦ subst (λ (b : ℕ). b < 256) (sym (get_or-eq_default (take n (drop from image)) 0 (omega (arith, past, length-take-most n (drop from image))))) (omega arith)
]
  where
    length-take-most : (n : ℕ) (l : List ℕ) → length (take n l) ≤ n
    length-take-most zero l = omega arith
    length-take-most (suc n) [] = omega arith
    length-take-most (suc n) (x ∷ l) = omega (arith, length-take-most n l)

four_small : (bs : List ℕ) → length bs ≡ 4 → ((i : ℕ) → get_or bs i 0 < 256) → from_be_bytes w32 bs < 2 ^ 32
four_small (a ∷ b ∷ c ∷ d ∷ []) is bytes = omega (arith, bytes 0, bytes 1, bytes 2, bytes 3)
four_small [] is bytes = absurd (omega (arith, is))
four_small (a ∷ []) is bytes = absurd (omega (arith, is))
four_small (a ∷ b ∷ []) is bytes = absurd (omega (arith, is))
four_small (a ∷ b ∷ c ∷ []) is bytes = absurd (omega (arith, is))
four_small (a ∷ b ∷ c ∷ d ∷ e ∷ bs) is bytes = absurd (omega (arith, is))

number_at : (place : ℕ) (image : List ℕ) → AreBytes image → place + 5 ≤ length image → Holds place (165 ∷ []) image → (number : ℕ) × HasNumber place number image
number_at place image bytes le gate =
    let four = take 4 (drop (place + 1) image) in
    let long : length four ≡ 4 = length-take-le 4 (drop (place + 1) image) (omega (arith, le, length-drop (place + 1) image)) in
    let small = λ (i : ℕ). below_byte image (place + 1) 4 i bytes in
    let number = from_be_bytes w32 four in
    let is : to_be_bytes w32 number ≡ four = be_bytes_4 four number long small refl in
    let there : Holds (place + 1) four image = ap (λ (k : ℕ). take k (drop (place + 1) image)) long in
    (number, (four_small four long small, holds_both place (165 ∷ []) (to_be_bytes w32 number) image gate (subst (λ (l : List ℕ). Holds (place + 1) l image) (sym is) there)))

-- ---- cell by cell

module _ (shape : Shape) (second : Bool) (image : List ℕ) (bytes : AreBytes image) where
  abbrev Found : Type 0
  Found = ((bodies : List (List ℕ)) × (closed : ℕ) × IsBank shape second closed image bodies) ⊎ ((at : ℕ) × FailsInBank shape second image at)

  fails : (bodies : List (List ℕ)) (at : ℕ) → HasCells shape second image bodies → FailsFrom shape.largest (begin shape second + shape.bank) (end_of shape second bodies) image at → Found
  fails bodies at has from = inr (at, record { bodies = bodies; cells = has; fails = from })

  more : (bodies : List (List ℕ)) (number : ℕ) → HasCells shape second image bodies → HasNumber (end_of shape second bodies) number image → (IsTooLong shape.largest (begin shape second + shape.bank) (end_of shape second bodies) number → ⊥)
      → end_of shape second bodies + 5 + number ≤ length image → HasCells shape second image (bodies ++ take number (drop (end_of shape second bodies + 5) image) ∷ [])
  unfolding after_gate
  more bodies number has there fit le =
      let place = end_of shape second bodies in
      let body = take number (drop (place + 5) image) in
      let long : length body ≡ number = length-take-le number (drop (place + 5) image) (omega (arith, le, length-drop (place + 5) image)) in
      let here : Holds (place + 5) body image = ap (λ (k : ℕ). take k (drop (place + 5) image)) long in
      let head : Holds place (165 ∷ to_be_bytes w32 (length body)) image = subst (λ (k : ℕ). Holds place (165 ∷ to_be_bytes w32 k) image) (sym long) there.1 in
      let cell : Holds place (165 ∷ after_gate body) image = holds_both place (165 ∷ to_be_bytes w32 (length body)) body image head here in
      record {
        is = subst (λ (l : List ℕ). Holds (begin shape second) l image) (sym (cells-push bodies body)) (holds_both (begin shape second) (cells bodies) (165 ∷ after_gate body) image has.is cell);
        within = by_limit (cases_lt (begin shape second + shape.bank) (place + 6 + number)) body long;
        fit = fit-push shape.largest bodies body has.fit (by_largest (cases_lt shape.largest number) body long);
      }
    where
      by_largest : (shape.largest < number) ⊎ (number ≤ shape.largest) → (body : List ℕ) → length body ≡ number → length body ≤ shape.largest
      by_largest (inl above) body long = absurd (fit (inl above))
      by_largest (inr le) body long = omega (arith, le, long)

      by_limit : (begin shape second + shape.bank < end_of shape second bodies + 6 + number) ⊎ (end_of shape second bodies + 6 + number ≤ begin shape second + shape.bank) → (body : List ℕ) → length body ≡ number
          → length (cells (bodies ++ body ∷ [])) + 1 ≤ shape.bank
      by_limit (inl past) body long = absurd (fit (inr past))
      by_limit (inr le) body long = omega (arith, le, long, length-cells-push bodies body)

  -- what comes after one cell more
  abbrev Next : ℕ → Type 0
  Next fuel = (longer : List (List ℕ)) → HasCells shape second image longer → length image ≤ fuel + end_of shape second longer → Found

  at_number : (fuel : ℕ) (bodies : List (List ℕ)) (number : ℕ) → Next fuel → HasCells shape second image bodies → HasNumber (end_of shape second bodies) number image → length image ≤ suc fuel + end_of shape second bodies → Found
  at_number fuel bodies number next has there le =
      let place = end_of shape second bodies in
      let limit = begin shape second + shape.bank in
      elim (cases_lt shape.largest number) [
        | inl above ↦ fails bodies (place + 1) has (too_long number there (inl above))
        | inr fits ↦ elim (cases_lt limit (place + 6 + number)) [
          | inl past ↦ fails bodies (place + 1) has (too_long number there (inr past))
          | inr within ↦ elim (cases_lt (length image) (place + 5 + number)) [
            | inl short ↦ fails bodies (length image) has (no_body number there (not_long fits within) short)
            | inr whole ↦
                let body = take number (drop (place + 5) image) in
                next (bodies ++ body ∷ []) (more bodies number has there (not_long fits within) whole) (omega (arith, le, length-cells-push bodies body))
          ]
        ]
      ]
    where
      not_long : number ≤ shape.largest → end_of shape second bodies + 6 + number ≤ begin shape second + shape.bank → IsTooLong shape.largest (begin shape second + shape.bank) (end_of shape second bodies) number → ⊥
      not_long fits within (inl above) = omega (arith, above, fits)
      not_long fits within (inr past) = omega (arith, past, within)

  at_gate : (fuel : ℕ) (bodies : List (List ℕ)) → Next fuel → HasCells shape second image bodies → Holds (end_of shape second bodies) (165 ∷ []) image → length image ≤ suc fuel + end_of shape second bodies → Found
  at_gate fuel bodies next has opens le = elim (cases_lt (length image) (end_of shape second bodies + 5)) [
    | inl short ↦ fails bodies (length image) has (no_length opens short)
    | inr long ↦ let n = number_at (end_of shape second bodies) image bytes long opens in at_number fuel bodies n.0 next has n.1 le
  ]

  walk : (fuel : ℕ) (bodies : List (List ℕ)) → HasCells shape second image bodies → length image ≤ fuel + end_of shape second bodies → Found
  walk zero bodies has le = fails bodies (length image) has (no_gate (omega (arith, le)))
  walk (suc fuel) bodies has le =
      let place = end_of shape second bodies in
      elim (cases_lt place (length image)) [
        | inr short ↦ fails bodies (length image) has (no_gate short)
        | inl there ↦ elim (cases_eq (get_or image place 0) 165) [
          | inl opens ↦ at_gate fuel bodies (λ longer cells_are fuel_is. walk fuel longer cells_are fuel_is) has (subst (λ (b : ℕ). Holds place (b ∷ []) image) opens (holds_byte place image there)) le
          | inr shut ↦ inl (bodies, place, record { cells = has; gate = get_or image place 0; shut = shut; closes = holds_byte place image there; place = refl })
        ]
      ]

-- ---- the head

one_more : (n : ℕ) → n + 1 ≡ suc n
one_more n = omega arith

-- the first of the seven that is wrong, if one is
first_wrong : (n : ℕ) (image : List ℕ) → n ≤ 7 → 9 < length image → (take n image ≡ take n magic) ⊎ ((at : ℕ) × (at < 7) × (take at image ≡ take at magic) × (get_or image at 0 ≢ get_or magic at 0))
first_wrong zero image le long = inl refl
first_wrong (suc n) image le long = elim (first_wrong n image (omega (arith, le)) long) [
  | inr wrong ↦ inr wrong
  | inl same ↦ elim (cases_eq (get_or image n 0) (get_or magic n 0)) [
    | inl is ↦ inl (subst (λ (k : ℕ). take k image ≡ take k magic) (one_more n) (take_more_same image magic n 0 (omega (arith, le, long)) (omega (arith, le)) same is))
    | inr wrong ↦ inr (n, omega (arith, le), same, wrong)
  ]
]

live : (image : List ℕ) → 9 < length image → Holds 0 magic image → (second : Bool) × IsLive second image
live image long head =
    let s = get_or image 7 0 in
    let there = holds_byte 7 image (omega (arith, long)) in
    elim (cases_eq s 50) [
      | inl is ↦ (true, record { selector = s; head = head; selected = there; selects = is })
      | inr other ↦ (false, record { selector = s; head = head; selected = there; selects = other })
    ]

pub answer_exists : AnswerExists
answer_exists shape image some bytes = elim (cases_lt 9 (length image)) [
  | inr short ↦ inl ([], fresh short)
  | inl long ↦ elim (first_wrong 7 image (omega arith) long) [
    | inr wrong ↦ inr (wrong.0, record { long = long; fails = wrong_magic wrong.0 wrong.1 (omega (arith, wrong.1, long)) wrong.2 wrong.3 })
    | inl head ↦
        let l = live image long head in
        elim (walk shape l.0 image bytes (length image) [] (record { is = refl; within = some; fit = tt }) (omega arith)) [
          | inl found ↦ inl (found.0, text l.0 found.1 found.0 long (record { head = l.1; bank = found.2 }))
          | inr failed ↦ inr (failed.0, record { long = long; fails = wrong_bank l.0 failed.0 l.1 failed.1 })
        ]
  ]
]
