-- What the scanner computes is what stands after the constructs of the definitions, and after no other.
use Rattle.std.proofs.Common.{◌≡◌, ◌⊎◌, inl, inr, ◌≤◌, ◌+◌, ◌*◌, ℕ, zero, suc, Bool, true, false, cond, List, [], ◌∷◌, Option, Some, None, is_some, refl, sym, ap, subst, ◌∙◌, arith}
use Rattle.std.specs.Prelude.{◌==◌, ◌&&◌, if◌then◌else◌}
use Rattle.std.proofs.lemmas.Bool.{true≢false}
use Rattle.std.proofs.lemmas.Bool.Decides.{nat_tests}
use Rattle.std.specs.Char.{digit_value}
use Rattle.mof_values.specs.Ident.{is_first, is_next}
use Rattle.mof_syntax.specs.Characters.{line_feed, slash, star, digit_zero, is_blank, digit_of, is_x, is_b, Stops, Run, stop, more}
use Rattle.mof_syntax.specs.Separators.{LineComment, at_end, at_feed, over, BlockComment, shut, inside, Separator, blank, line, block}
use Rattle.mof_syntax.specs.Strings.{short_escape, is_surrogate, HexDigits, full, ended, digit, Escape, short, hexadecimal}
use Rattle.mof_syntax.specs.Integers.{Magnitude, decimal_value, octal_value, hex_value, binary_value}
use Rattle.mof_syntax.specs.Tokens.{Identifier, identifier}
use Rattle.mof_syntax.specs.Leads.{StandsMagnitude}
use Rattle.mof_syntax.specs.Scanning.{is_in_line, after, block_rest, comment_rest, separator_rest, identifier_rest, hex_tail, scalar_rest, hex_escape_rest, escape_rest, stopped, suffix_rest, binary_rest, hex_rest, zero_rest, unmarked_rest, either_rest, magnitude_rest}

-- choices

pub chosen : (b : Bool) (x y z : Option (List ℕ)) → cond b x y ≡ z → ((b ≡ true) × (x ≡ z)) ⊎ ((b ≡ false) × (y ≡ z))
chosen true x y z e = inl (refl, e)
chosen false x y z e = inr (refl, e)

pub test_or : (b : Bool) → (b ≡ true) ⊎ (b ≡ false)
test_or true = inl refl
test_or false = inr refl

pub some_same : (a b : List ℕ) → Some a ≡ Some b → a ≡ b
some_same a b e = cc

pub none_some : (a : List ℕ) → None ≡ Some a → ⊥
none_some a e = cc

-- runs

pub after-run : (p : ℕ → Bool) (cs run rest : List ℕ) → Run p cs run rest → Stops p rest → after p cs ≡ rest
after-run p cs run [] (stop r) s = refl
after-run p cs run (c ∷ rest) (stop r) s = rw s refl
after-run p cs run rest (more c us v r e more_run) s = rw e (after-run p us v rest more_run s)

-- the characters of the class that come first
pub taken : (ℕ → Bool) → List ℕ → List ℕ
taken p [] = []
taken p (c ∷ cs) = if p c then c ∷ taken p cs else []

pub run_taken : (p : ℕ → Bool) (cs : List ℕ) → Run p cs (taken p cs) (after p cs)
unfolding taken
run_taken p [] = stop []
run_taken p (c ∷ cs) = elim (test_or (p c)) [
  | inl is ↦ rw is (more c cs (taken p cs) (after p cs) is (run_taken p cs))
  | inr no_more ↦ rw no_more (stop (c ∷ cs))
]

pub stops_after : (p : ℕ → Bool) (cs : List ℕ) → Stops p (after p cs)
stops_after p [] = tt
stops_after p (c ∷ cs) = elim (test_or (p c)) [
  | inl is ↦ rw is (stops_after p cs)
  | inr no_more ↦ rw no_more no_more
]

-- classes

pub digit_next : (b c : ℕ) → b ≤ 16 → digit_of b c ≡ true → is_next c ≡ true
digit_next b c small h = grind (arith, nat_tests)

pub digit_wider : (a b c : ℕ) → a ≤ b → digit_of a c ≡ true → digit_of b c ≡ true
digit_wider a b c small h = grind (arith, nat_tests)

pub stops_digit : (b : ℕ) (cs : List ℕ) → b ≤ 16 → Stops is_next cs → Stops (digit_of b) cs
stops_digit b [] small s = tt
stops_digit b (c ∷ cs) small s = elim (test_or (digit_of b c)) [ inl is ↦ absurd (true≢false (sym (digit_next b c small is) ∙ s)) | inr not_one ↦ not_one ]

pub b_next : (c : ℕ) → is_b c ≡ true → is_next c ≡ true
b_next c h = grind (arith, nat_tests)

pub x_next : (c : ℕ) → is_x c ≡ true → is_next c ≡ true
x_next c h = grind (arith, nat_tests)

pub b_no_decimal : (c : ℕ) → is_b c ≡ true → digit_of 10 c ≡ false
b_no_decimal c h = grind (arith, nat_tests)

pub x_no_digit : (c : ℕ) → is_x c ≡ true → digit_of 16 c ≡ false
x_no_digit c h = grind (arith, nat_tests)

pub x_no_b : (c : ℕ) → is_x c ≡ true → is_b c ≡ false
x_no_b c h = grind (arith, nat_tests)

-- separators

after-line : (cs rest : List ℕ) → LineComment cs rest → after is_in_line cs ≡ rest
after-line cs rest at_end = refl
after-line cs rest (at_feed r) = refl
after-line cs rest (over c us r e l) = rw e (after-line us r l)

line_after : (cs : List ℕ) → LineComment cs (after is_in_line cs)
line_after [] = at_end
line_after (c ∷ cs) = elim (test_or (c == line_feed)) [
  | inl is ↦ rw is (subst (λ (x : ℕ). LineComment (x ∷ cs) (x ∷ cs)) (sym (feed_is c is)) (at_feed cs))
  | inr no_feed ↦ rw no_feed (over c cs (after is_in_line cs) no_feed (line_after cs))
]
  where
    feed_is : (x : ℕ) → (x == line_feed) ≡ true → x ≡ line_feed
    feed_is x h = grind (arith, nat_tests)

no_block : (rest : List ℕ) → BlockComment [] rest → ⊥
no_block rest b = elim b [ ]

pub block-read : (cs rest : List ℕ) → BlockComment cs rest → block_rest cs ≡ Some rest
block-read cs rest (shut r) = refl
block-read cs rest (inside c [] r apart b) = absurd (no_block r b)
block-read cs rest (inside c (d ∷ us) r apart b) = rw apart (block-read (d ∷ us) r b)

pub read-block : (cs rest : List ℕ) → block_rest cs ≡ Some rest → BlockComment cs rest
read-block [] rest e = absurd (none_some rest e)
read-block (c ∷ []) rest e = absurd (none_some rest e)
read-block (c ∷ d ∷ cs) rest e = elim (chosen ((c == star) && (d == slash)) _ _ _ e) [
  | inl is ↦ shut_here c d cs rest is.0 (some_same cs rest is.1)
  | inr apart ↦ inside c (d ∷ cs) rest apart.0 (read-block (d ∷ cs) rest apart.1)
]
  where
    shut_here : (x y : ℕ) (us r : List ℕ) → ((x == star) && (y == slash)) ≡ true → us ≡ r → BlockComment (x ∷ y ∷ us) r
    shut_here x y us r h same =
        let first : x ≡ star = grind (arith, nat_tests) in
        let second : y ≡ slash = grind (arith, nat_tests) in
        subst (λ (z : ℕ). BlockComment (z ∷ y ∷ us) r) (sym first) (subst (λ (z : ℕ). BlockComment (star ∷ z ∷ us) r) (sym second) (subst (λ (r' : List ℕ). BlockComment (star ∷ slash ∷ us) r') same (shut us)))

pub separator-read : (cs rest : List ℕ) → Separator cs rest → separator_rest cs ≡ Some rest
separator-read cs rest (blank c r e) = rw e refl
separator-read cs rest (line us r l) = ap (λ (x : List ℕ). Some x) (after-line us r l)
separator-read cs rest (block us r b) = block-read us r b

pub read-separator : (cs rest : List ℕ) → separator_rest cs ≡ Some rest → Separator cs rest
read-separator [] rest e = absurd (none_some rest e)
read-separator (c ∷ cs) rest e = elim (chosen (is_blank c) _ _ _ e) [
  | inl is ↦ subst (λ (r : List ℕ). Separator (c ∷ cs) r) (some_same cs rest is.1) (blank c cs is.0)
  | inr other ↦ elim (chosen (c == slash) _ _ _ other.1) [
    | inl is ↦ comment c cs rest is.0 is.1
    | inr nothing_is ↦ absurd (none_some rest nothing_is.1)
  ]
]
  where
    equal : (x y : ℕ) → (x == y) ≡ true → x ≡ y
    equal x y h = grind (arith, nat_tests)

    second : (d : ℕ) (us r : List ℕ) → comment_rest (d ∷ us) ≡ Some r → Separator (slash ∷ d ∷ us) r
    second d us r h = elim (chosen (d == slash) _ _ _ h) [
      | inl is ↦ subst (λ (x : ℕ). Separator (slash ∷ x ∷ us) r) (sym (equal d slash is.0)) (subst (λ (r' : List ℕ). Separator (slash ∷ slash ∷ us) r') (some_same _ r is.1) (line us (after is_in_line us) (line_after us)))
      | inr other ↦ elim (chosen (d == star) _ _ _ other.1) [
        | inl is ↦ subst (λ (x : ℕ). Separator (slash ∷ x ∷ us) r) (sym (equal d star is.0)) (block us r (read-block us r is.1))
        | inr nothing_is ↦ absurd (none_some r nothing_is.1)
      ]
    ]

    comment : (x : ℕ) (us r : List ℕ) → (x == slash) ≡ true → comment_rest us ≡ Some r → Separator (x ∷ us) r
    comment x [] r h f = absurd (none_some r f)
    comment x (d ∷ us) r h f = subst (λ (y : ℕ). Separator (y ∷ d ∷ us) r) (sym (equal x slash h)) (second d us r f)

-- identifiers

pub identifier-read : (cs name rest : List ℕ) → Identifier cs name rest → identifier_rest cs ≡ Some rest
identifier-read cs name rest (identifier c us tail r e run s) = rw e (ap (λ (x : List ℕ). Some x) (after-run is_next us tail r run s))

pub read-identifier : (cs rest : List ℕ) → identifier_rest cs ≡ Some rest → (name : List ℕ) × Identifier cs name rest
read-identifier [] rest e = absurd (none_some rest e)
read-identifier (c ∷ cs) rest e = elim (chosen (is_first c) _ _ _ e) [
  | inl is ↦ (
    c ∷ taken is_next cs,
    subst (λ (r : List ℕ). Identifier (c ∷ cs) (c ∷ taken is_next cs) r) (some_same _ rest is.1)
        (identifier c cs (taken is_next cs) (after is_next cs) is.0 (run_taken is_next cs) (stops_after is_next cs)),
  )
  | inr other ↦ absurd (none_some rest other.1)
]

-- integers

pub stopped-stops : (cs : List ℕ) → Stops is_next cs → stopped cs ≡ Some cs
stopped-stops [] s = refl
stopped-stops (c ∷ cs) s = rw s refl

pub stops_stopped : (cs rest : List ℕ) → stopped cs ≡ Some rest → (cs ≡ rest) × Stops is_next rest
stops_stopped [] rest e = subst (λ (r : List ℕ). ([] ≡ r) × Stops is_next r) (some_same [] rest e) (refl, tt)
stops_stopped (c ∷ cs) rest e = elim (chosen (is_next c) _ _ _ e) [
  | inl is ↦ absurd (none_some rest is.1)
  | inr other ↦ subst (λ (r : List ℕ). ((c ∷ cs) ≡ r) × Stops is_next r) (some_same (c ∷ cs) rest other.1) (refl, other.0)
]

-- a run of digits that no identifier character follows
abbrev pub StoppedRun : ℕ → List ℕ → List ℕ → Type 0
StoppedRun base cs rest = (ds : List ℕ) × Run (digit_of base) cs ds rest × Stops is_next rest

pub stopped-run : (base : ℕ) (cs rest : List ℕ) → base ≤ 16 → StoppedRun base cs rest → stopped (after (digit_of base) cs) ≡ Some rest
stopped-run base cs rest small r = rw (after-run (digit_of base) cs r.0 rest r.1 (stops_digit base rest small r.2)) (stopped-stops rest r.2)

pub run_stopped : (base : ℕ) (cs rest : List ℕ) → stopped (after (digit_of base) cs) ≡ Some rest → StoppedRun base cs rest
run_stopped base cs rest e =
    let s = stops_stopped (after (digit_of base) cs) rest e in
    (taken (digit_of base) cs, subst (λ (r : List ℕ). Run (digit_of base) cs (taken (digit_of base) cs) r) s.0 (run_taken (digit_of base) cs), s.1)

-- after digits that no b follows no binary integer ends
pub no_b : (base : ℕ) (cs ds rest : List ℕ) → base ≤ 10 → Run (digit_of base) cs ds rest → Stops is_next rest → suffix_rest (after (digit_of 2) cs) ≡ None
no_b base cs ds [] small (stop r) s = refl
no_b base cs ds (c ∷ cs') small (stop r) s = rw (two, none_b) refl
  where
    two : digit_of 2 c ≡ false
    two = stops_digit 2 (c ∷ cs') (omega arith) s

    none_b : is_b c ≡ false
    none_b = elim (test_or (is_b c)) [ inl is ↦ absurd (true≢false (sym (b_next c is) ∙ s)) | inr not_b ↦ not_b ]
no_b base cs ds rest small (more c us v r e run) s = elim (test_or (digit_of 2 c)) [
  | inl is ↦ rw is (no_b base us v r small run s)
  | inr not_two ↦ rw (not_two, none_b) refl
]
  where
    none_b : is_b c ≡ false
    none_b = elim (test_or (is_b c)) [ inl is ↦ absurd (true≢false (sym (digit_wider base 10 c small e) ∙ b_no_decimal c is)) | inr not_b ↦ not_b ]

pub no_binary : (base d : ℕ) (cs ds rest : List ℕ) → base ≤ 10 → Run (digit_of base) cs ds rest → Stops is_next rest → binary_rest (d ∷ cs) ≡ None
no_binary base d cs ds rest small run s = elim (test_or (digit_of 2 d)) [
  | inl is ↦ rw is (no_b base cs ds rest small run s)
  | inr not_two ↦ rw not_two refl
]

either-none : (a b z : Option (List ℕ)) → a ≡ None → b ≡ z → either_rest a b ≡ z
either-none a b z none_is e = rw none_is e

either-some : (a b : Option (List ℕ)) (rest : List ℕ) → a ≡ Some rest → either_rest a b ≡ Some rest
either-some a b rest e = rw e refl

some_either : (a b : Option (List ℕ)) (rest : List ℕ) → either_rest a b ≡ Some rest → (a ≡ Some rest) ⊎ (b ≡ Some rest)
some_either None b rest e = inr e
some_either (Some r) b rest e = inl e

pub no_x : (c : ℕ) → is_next c ≡ false → is_x c ≡ false
no_x c s = elim (test_or (is_x c)) [ inl is ↦ absurd (true≢false (sym (x_next c is) ∙ s)) | inr not_x ↦ not_x ]

pub digit_no_x : (base c : ℕ) → base ≤ 16 → digit_of base c ≡ true → is_x c ≡ false
digit_no_x base c small e = elim (test_or (is_x c)) [ inl is ↦ absurd (true≢false (sym (digit_wider base 16 c small e) ∙ x_no_digit c is)) | inr not_x ↦ not_x ]

zero-read : (cs ds rest : List ℕ) → Run (digit_of 8) cs ds rest → Stops is_next rest → zero_rest cs ≡ Some rest
zero-read cs ds [] (stop r) s = refl
zero-read cs ds (c ∷ rest) (stop r) s = rw (no_x c s) (stopped-run 8 (c ∷ rest) (c ∷ rest) (omega arith) ([], stop (c ∷ rest), s))
zero-read cs ds rest (more c us v r e run) s = rw (digit_no_x 8 c (omega arith) e) (stopped-run 8 (c ∷ us) r (omega arith) (c ∷ v, more c us v r e run, s))

pub no_binary_x : (x : ℕ) (cs : List ℕ) → is_x x ≡ true → suffix_rest (after (digit_of 2) (x ∷ cs)) ≡ None
no_binary_x x cs is = rw (two, x_no_b x is) refl
  where
    two : digit_of 2 x ≡ false
    two = elim (test_or (digit_of 2 x)) [ inl d ↦ absurd (true≢false (sym (digit_wider 2 16 x (omega arith) d) ∙ x_no_digit x is)) | inr not_two ↦ not_two ]

hex_rest-read : (cs rest : List ℕ) (d : ℕ) (ds : List ℕ) → Run (digit_of 16) cs (d ∷ ds) rest → Stops is_next rest → hex_rest cs ≡ Some rest
hex_rest-read cs rest d ds (more c us v r e run) s = rw e (stopped-run 16 us r (omega arith) (v, run, s))

pub binary-read : (cs rest : List ℕ) (d b : ℕ) (ds : List ℕ) → Run (digit_of 2) cs (d ∷ ds) (b ∷ rest) → is_b b ≡ true → Stops is_next rest → binary_rest cs ≡ Some rest
binary-read cs rest d b ds (more c us v r e run) is s = rw (e, after-run (digit_of 2) us v (b ∷ rest) run two, is) (stopped-stops rest s)
  where
    two : digit_of 2 b ≡ false
    two = elim (test_or (digit_of 2 b)) [ inl f ↦ absurd (true≢false (sym (digit_wider 2 10 b (omega arith) f) ∙ b_no_decimal b is)) | inr not_two ↦ not_two ]

pub magnitude-read : (cs : List ℕ) (n : ℕ) (rest : List ℕ) → Magnitude cs n rest → Stops is_next rest → magnitude_rest cs ≡ Some rest
magnitude-read cs n rest (decimal_value d us ds r nz is run) s =
    either-none (binary_rest (d ∷ us)) (unmarked_rest (d ∷ us)) (Some r) (no_binary 10 d us ds r (omega arith) run s) (rw (nz, is) (stopped-run 10 us r (omega arith) (ds, run, s)))
magnitude-read cs n rest (octal_value us ds r run) s =
    either-none (binary_rest (digit_zero ∷ us)) (unmarked_rest (digit_zero ∷ us)) (Some r) (no_b 8 us ds r (omega arith) run s) (zero-read us ds r run s)
magnitude-read cs n rest (hex_value x d us ds r is run) s =
    either-none (binary_rest (digit_zero ∷ x ∷ us)) (unmarked_rest (digit_zero ∷ x ∷ us)) (Some r) (no_binary_x x us is) (rw is (hex_rest-read us r d ds run s))
magnitude-read cs n rest (binary_value d b us ds r run is) s = either-some (binary_rest us) (unmarked_rest us) r (binary-read us r d b ds run is s)

read-suffix_rest : (cs xs rest : List ℕ) (c : ℕ) → digit_of 2 c ≡ true → Run (digit_of 2) cs xs (after (digit_of 2) cs) → (zs : List ℕ) → after (digit_of 2) cs ≡ zs
    → suffix_rest zs ≡ Some rest → StandsMagnitude (c ∷ cs) rest
read-suffix_rest cs xs rest c is run [] same e = absurd (none_some rest e)
read-suffix_rest cs xs rest c is run (b ∷ zs) same e = elim (chosen (is_b b) _ _ _ e) [
  | inl marked ↦
      let end = stops_stopped zs rest marked.1 in
      let whole : Run (digit_of 2) cs xs (b ∷ rest) = subst (λ (r : List ℕ). Run (digit_of 2) cs xs r) (same ∙ ap (λ (r : List ℕ). b ∷ r) end.0) run in
      (_, binary_value c b (c ∷ cs) xs rest (more c cs xs (b ∷ rest) is whole) marked.0, end.1)
  | inr other ↦ absurd (none_some rest other.1)
]

read-binary : (cs rest : List ℕ) → binary_rest cs ≡ Some rest → StandsMagnitude cs rest
read-binary [] rest e = absurd (none_some rest e)
read-binary (c ∷ cs) rest e = elim (chosen (digit_of 2 c) _ _ _ e) [
  | inl is ↦ read-suffix_rest cs (taken (digit_of 2) cs) rest c is.0 (run_taken (digit_of 2) cs) (after (digit_of 2) cs) refl is.1
  | inr other ↦ absurd (none_some rest other.1)
]

read-hex_rest : (x : ℕ) (cs rest : List ℕ) → is_x x ≡ true → hex_rest cs ≡ Some rest → StandsMagnitude (digit_zero ∷ x ∷ cs) rest
read-hex_rest x [] rest is e = absurd (none_some rest e)
read-hex_rest x (c ∷ cs) rest is e = elim (chosen (digit_of 16 c) _ _ _ e) [
  | inl hex_is ↦
      let run = run_stopped 16 cs rest hex_is.1 in
      (_, hex_value x c (c ∷ cs) run.0 rest is (more c cs run.0 rest hex_is.0 run.1), run.2)
  | inr other ↦ absurd (none_some rest other.1)
]

read-zero : (cs rest : List ℕ) → zero_rest cs ≡ Some rest → StandsMagnitude (digit_zero ∷ cs) rest
read-zero [] rest e = subst (λ (r : List ℕ). StandsMagnitude (digit_zero ∷ []) r) (some_same [] rest e) (_, octal_value [] [] [] (stop []), tt)
read-zero (c ∷ cs) rest e = elim (chosen (is_x c) _ _ _ e) [
  | inl is ↦ read-hex_rest c cs rest is.0 is.1
  | inr other ↦ let run = run_stopped 8 (c ∷ cs) rest other.1 in (_, octal_value (c ∷ cs) run.0 rest run.1, run.2)
]

read-unmarked : (cs rest : List ℕ) → unmarked_rest cs ≡ Some rest → StandsMagnitude cs rest
read-unmarked [] rest e = absurd (none_some rest e)
read-unmarked (c ∷ cs) rest e = elim (chosen (c == digit_zero) _ _ _ e) [
  | inl is ↦ subst (λ (d : ℕ). StandsMagnitude (d ∷ cs) rest) (sym (zero_is c is.0)) (read-zero cs rest is.1)
  | inr nonzero ↦ elim (chosen (digit_of 10 c) _ _ _ nonzero.1) [
    | inl is ↦ let run = run_stopped 10 cs rest is.1 in (_, decimal_value c cs run.0 rest nonzero.0 is.0 run.1, run.2)
    | inr other ↦ absurd (none_some rest other.1)
  ]
]
  where
    zero_is : (d : ℕ) → (d == digit_zero) ≡ true → d ≡ digit_zero
    zero_is d h = grind (arith, nat_tests)

pub read-magnitude : (cs rest : List ℕ) → magnitude_rest cs ≡ Some rest → StandsMagnitude cs rest
read-magnitude cs rest e = elim (some_either (binary_rest cs) (unmarked_rest cs) rest e) [ inl is ↦ read-binary cs rest is | inr is ↦ read-unmarked cs rest is ]

-- escapes

pub hex-read : (count value total : ℕ) (cs rest : List ℕ) → HexDigits count value cs total rest → ((hex_tail count value cs).0 ≡ total) × ((hex_tail count value cs).1 ≡ rest)
hex-read zero value total cs rest (full v r) = (refl, refl)
hex-read zero value total cs rest (ended n v r s) = (refl, refl)
hex-read (suc count) value total cs [] (ended n v r s) = (refl, refl)
hex-read (suc count) value total cs (c ∷ rest) (ended n v r s) = rw s (refl, refl)
hex-read (suc count) value total cs rest (digit n v d t us r e h) = rw e (hex-read count (v * 16 + digit_value d) t us r h)

pub read-hex : (count value : ℕ) (cs : List ℕ) → HexDigits count value cs (hex_tail count value cs).0 (hex_tail count value cs).1
read-hex zero value cs = full value cs
read-hex (suc count) value [] = ended (suc count) value [] tt
read-hex (suc count) value (c ∷ cs) = elim (test_or (digit_of 16 c)) [
  | inl is ↦ rw is (digit count value c _ cs _ is (read-hex count (value * 16 + digit_value c) cs))
  | inr not_one ↦ rw not_one (ended (suc count) value (c ∷ cs) not_one)
]

if_true : (b : Bool) (x y z : Option (List ℕ)) → b ≡ true → x ≡ z → cond b x y ≡ z
if_true b x y z is e = rw is e

if_false : (b : Bool) (x y z : Option (List ℕ)) → b ≡ false → y ≡ z → cond b x y ≡ z
if_false b x y z is e = rw is e

pub x_no_short : (c : ℕ) → is_x c ≡ true → is_some (short_escape c) ≡ false
x_no_short c h = grind (arith, nat_tests)

scalar-read : (tail : ℕ × List ℕ) (value : ℕ) (rest : List ℕ) → tail.0 ≡ value → tail.1 ≡ rest → is_surrogate value ≡ false → scalar_rest tail ≡ Some rest
scalar-read tail value rest v r ok = rw (v, ok, r) refl

pub escape-read : (cs : List ℕ) (value : ℕ) (rest : List ℕ) → Escape cs value rest → escape_rest cs ≡ Some rest
escape-read cs value rest (short e v r is) = if_true (is_some (short_escape e)) _ _ _ (ap (λ (o : Option ℕ). is_some o) is) refl
escape-read cs value rest (hexadecimal x d v us r isx isd h ok) =
    let tail = hex-read 3 (digit_value d) v us r h in
    if_false (is_some (short_escape x)) _ _ _ (x_no_short x isx) (if_true (is_x x) _ _ _ isx (if_true (digit_of 16 d) _ _ _ isd (scalar-read (hex_tail 3 (digit_value d) us) v r tail.0 tail.1 ok)))

some_value : (o : Option ℕ) → is_some o ≡ true → (v : ℕ) × (o ≡ Some v)
some_value None h = absurd cc
some_value (Some v) h = (v, refl)

read-hex_escape : (x : ℕ) (cs rest : List ℕ) → is_x x ≡ true → hex_escape_rest cs ≡ Some rest → (value : ℕ) × Escape (x ∷ cs) value rest
read-hex_escape x [] rest is e = absurd (none_some rest e)
read-hex_escape x (d ∷ cs) rest is e = elim (chosen (digit_of 16 d) _ _ _ e) [
  | inl one ↦ elim (chosen (is_surrogate (hex_tail 3 (digit_value d) cs).0) _ _ _ one.1) [
    | inl no_char ↦ absurd (none_some rest no_char.1)
    | inr ok ↦ (
      (hex_tail 3 (digit_value d) cs).0,
      subst (λ (r : List ℕ). Escape (x ∷ d ∷ cs) (hex_tail 3 (digit_value d) cs).0 r) (some_same _ rest ok.1)
          (hexadecimal x d (hex_tail 3 (digit_value d) cs).0 cs (hex_tail 3 (digit_value d) cs).1 is one.0 (read-hex 3 (digit_value d) cs) ok.0),
    )
  ]
  | inr other ↦ absurd (none_some rest other.1)
]

pub read-escape : (cs rest : List ℕ) → escape_rest cs ≡ Some rest → (value : ℕ) × Escape cs value rest
read-escape [] rest e = absurd (none_some rest e)
read-escape (c ∷ cs) rest e = elim (chosen (is_some (short_escape c)) _ _ _ e) [
  | inl is ↦ let v = some_value (short_escape c) is.0 in (v.0, subst (λ (r : List ℕ). Escape (c ∷ cs) v.0 r) (some_same cs rest is.1) (short c v.0 cs v.1))
  | inr other ↦ elim (chosen (is_x c) _ _ _ other.1) [
    | inl is ↦ read-hex_escape c cs rest is.0 is.1
    | inr nothing_is ↦ absurd (none_some rest nothing_is.1)
  ]
]
