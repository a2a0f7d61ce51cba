-- A head has one line feed for each of its lines, so the line feeds say where a header line too many begins.
use Rattle.std.proofs.Common.{◌≡◌, ℕ, zero, suc, ◌+◌, ◌<◌, ◌≤◌, List, [], ◌∷◌, ◌++◌, length, refl, sym, ap, ◌∙◌, subst, arith, append_assoc, append-nil, ap₂, Bool, true, false, not, ◌||◌, inl, inr}
use Rattle.std.proofs.lemmas.Bool.Decides.{eqb_tells}
use Rattle.std.proofs.lemmas.Bool.{false≢true, cases_lt}
use Rattle.std.specs.Prelude.{◌⊎◌, Option, Some, None, if◌then◌else◌, ◌==◌, All}
use Rattle.std.specs.List.{flat_map}
use Rattle.std.proofs.lemmas.List.{append_cancel_right}
use Rattle.std.proofs.lemmas.List.Elements.{All-head, All-tail, All-cons, All-nil}
use Rattle.std.proofs.lemmas.List.Concat.{flat_map-append}
use Rattle.httparse.specs.Grammar.{LineEnd, crlf, lf, print_end, print_blank, Field, print_field, IsField, AllPass, is_token_byte, is_value_byte}
use Rattle.httparse.proofs.GrammarLemmas.{cons-append}
use Rattle.http_frames.specs.Lines.{is_break, skip_breaks, skip_lines, begins_line, begins_line_there, begins_extra_line}

-- the bytes have no line feed
abbrev pub NoFeed : List ℕ → Type 0
NoFeed [] = Unit {0}
NoFeed (b ∷ bytes) = ((b == 10) ≡ false) × NoFeed bytes

no_feed_byte : (test : ℕ → Bool) (b : ℕ) → test 10 ≡ false → test b ≡ true → (b == 10) ≡ false
no_feed_byte test b ten passes = elim (eqb_tells b 10) [
  | inl w ↦ absurd (false≢true (sym (subst (λ (x : ℕ). test x ≡ false) (sym w.1) ten) ∙ passes))
  | inr w ↦ w.0
]

pub no_feed : (test : ℕ → Bool) → test 10 ≡ false → (bytes : List ℕ) → AllPass test bytes → NoFeed bytes
no_feed test ten [] all = tt
no_feed test ten (b ∷ bytes) all =
    let P : ℕ → Type 0 = λ x. test x ≡ true in
    (no_feed_byte test b ten (All-head P b bytes all), no_feed test ten bytes (All-tail P b bytes all))

-- ---- skipping lines

pub skip-append : (n : ℕ) (xs ys rest : List ℕ) → skip_lines n xs ≡ Some rest → skip_lines n (xs ++ ys) ≡ Some (rest ++ ys)
unfolding skip_lines
skip-append zero xs ys rest h = cc
skip-append (suc n) [] ys rest h = cc
skip-append (suc n) (b ∷ xs) ys rest h =
    let go : (if b == 10 then skip_lines n xs else skip_lines (suc n) xs) ≡ Some rest
    → (if b == 10 then skip_lines n (xs ++ ys) else skip_lines (suc n) (xs ++ ys)) ≡ Some (rest ++ ys) =
    elim (b == 10) as (λ t. (if t then skip_lines n xs else skip_lines (suc n) xs) ≡ Some rest
    → (if t then skip_lines n (xs ++ ys) else skip_lines (suc n) (xs ++ ys)) ≡ Some (rest ++ ys))
    [ true ↦ skip-append n xs ys rest | false ↦ skip-append (suc n) xs ys rest ] in
    go h

pub skip_split : (n : ℕ) (xs rest : List ℕ) → skip_lines n xs ≡ Some rest → (front : List ℕ) × (xs ≡ front ++ rest)
unfolding skip_lines
skip_split zero xs rest h = ([], cc)
skip_split (suc n) [] rest h = absurd (cc)
skip_split (suc n) (b ∷ xs) rest h =
    let go : (if b == 10 then skip_lines n xs else skip_lines (suc n) xs) ≡ Some rest
    → (front : List ℕ) × (xs ≡ front ++ rest) =
    elim (b == 10) as (λ t. (if t then skip_lines n xs else skip_lines (suc n) xs) ≡ Some rest
    → (front : List ℕ) × (xs ≡ front ++ rest))
    [ true ↦ skip_split n xs rest | false ↦ skip_split (suc n) xs rest ] in
    (b ∷ (go h).0, ap (λ (l : List ℕ). b ∷ l) (go h).1)

-- what has that many lines has fewer
pub skip_fewer : (n m : ℕ) (xs rest : List ℕ) → m ≤ n → skip_lines n xs ≡ Some rest
    → (front : List ℕ) × (skip_lines m xs ≡ Some front)
unfolding skip_lines
skip_fewer n zero xs rest few h = (xs, refl)
skip_fewer zero (suc m) xs rest few h = absurd (omega arith)
skip_fewer (suc n) (suc m) [] rest few h = absurd (cc)
skip_fewer (suc n) (suc m) (b ∷ xs) rest few h =
    let go : (if b == 10 then skip_lines n xs else skip_lines (suc n) xs) ≡ Some rest
    → (front : List ℕ) × ((if b == 10 then skip_lines m xs else skip_lines (suc m) xs) ≡ Some front) =
    elim (b == 10) as (λ t. (if t then skip_lines n xs else skip_lines (suc n) xs) ≡ Some rest
    → (front : List ℕ) × ((if t then skip_lines m xs else skip_lines (suc m) xs) ≡ Some front))
    [ true ↦ skip_fewer n m xs rest (omega arith) | false ↦ skip_fewer (suc n) (suc m) xs rest few ] in
    go h

skip_none : (rest : List ℕ) → skip_lines 0 rest ≡ Some rest
unfolding skip_lines
skip_none rest = refl

-- no line ends inside these bytes
pub skip_over : (n : ℕ) (xs rest : List ℕ) → NoFeed xs → skip_lines (suc n) (xs ++ rest) ≡ skip_lines (suc n) rest
unfolding skip_lines
skip_over n [] rest none = refl
skip_over n (b ∷ xs) rest none =
    ap (λ (t : Bool). if t then skip_lines n (xs ++ rest) else skip_lines (suc n) (xs ++ rest)) none.0
    ∙ skip_over n xs rest none.1

pub skip_byte : (n b : ℕ) (rest : List ℕ) → (b == 10) ≡ false → skip_lines (suc n) (b ∷ rest) ≡ skip_lines (suc n) rest
skip_byte n b rest not_feed = skip_over n (b ∷ []) rest (not_feed, tt)

pub skip_end : (n : ℕ) (e : LineEnd) (rest : List ℕ) → skip_lines (suc n) (print_end e ++ rest) ≡ skip_lines n rest
unfolding skip_lines
skip_end n crlf rest = refl
skip_end n lf rest = refl

pub token_feed : is_token_byte 10 ≡ false
unfolding is_token_byte
token_feed = refl

token_return : is_token_byte 13 ≡ false
unfolding is_token_byte
token_return = refl

pub skip_field : (n : ℕ) (f : Field) (rest : List ℕ) → IsField f → skip_lines (suc n) (print_field f ++ rest) ≡ skip_lines n rest
skip_field n f rest valid =
    ap (skip_lines (suc n)) (regroup f.name f.raw (print_end f.end) rest)
    ∙ skip_over n f.name _ (no_feed is_token_byte token_feed f.name valid.name.1)
    ∙ skip_byte n 58 _ refl
    ∙ skip_over n f.raw _ (no_feed is_value_byte refl f.raw valid.raw)
    ∙ skip_end n f.end rest
  where
    regroup : (a b c r : List ℕ) → (a ++ 58 ∷ b ++ c) ++ r ≡ a ++ (58 ∷ (b ++ (c ++ r)))
    regroup a b c r = simp (append_assoc, cons-append)

pub skip_fields : (n : ℕ) (fs : List Field) (rest : List ℕ) → All IsField fs
    → skip_lines (length fs + n) (flat_map print_field fs ++ rest) ≡ skip_lines n rest
skip_fields n [] rest all = ap (λ (k : ℕ). skip_lines k rest) (omega arith)
skip_fields n (f ∷ fs) rest all =
    ap (λ (k : ℕ). skip_lines k (flat_map print_field (f ∷ fs) ++ rest)) (omega arith)
    ∙ ap (skip_lines (suc (length fs + n))) (append_assoc (print_field f) (flat_map print_field fs) rest)
    ∙ skip_field (length fs + n) f (flat_map print_field fs ++ rest) (All-head IsField f fs all)
    ∙ skip_fields n fs rest (All-tail IsField f fs all)

-- ---- one front or the other is longer

pub longer_front : (a b c d : List ℕ) → a ++ b ≡ c ++ d
    → ((m : List ℕ) × (c ≡ a ++ m) × (b ≡ m ++ d)) ⊎ ((x : ℕ) × (m : List ℕ) × (a ≡ c ++ x ∷ m) × (d ≡ (x ∷ m) ++ b))
longer_front [] b c d e = inl (c, refl, e)
longer_front (x ∷ a) b [] d e = inr (x, a, refl, sym e)
longer_front (x ∷ a) b (y ∷ c) d e =
    let head : x ≡ y = cc in
    let tail : a ++ b ≡ c ++ d = cc in
    elim (longer_front a b c d tail) [
      | inl w ↦ inl (w.0, cc, w.2)
      | inr w ↦ inr (w.0, w.1, cc, w.3)
    ]

-- ---- a header line too many

-- a start line: skipping a line skips it
abbrev pub IsStartLine : List ℕ → Type 0
IsStartLine line = (n : ℕ) (rest : List ℕ) → skip_lines (suc n) (line ++ rest) ≡ skip_lines n rest

abbrev pub section_of : List ℕ → List Field → LineEnd → List ℕ → List ℕ
section_of line fs last rest = line ++ (flat_map print_field fs ++ (print_end last ++ rest))

skip_section : (line : List ℕ) (fs : List Field) (n : ℕ) (z : List ℕ) → IsStartLine line → All IsField fs
    → skip_lines (suc (length fs + n)) (line ++ (flat_map print_field fs ++ z)) ≡ skip_lines n z
skip_section line fs n z start all = start (length fs + n) _ ∙ skip_fields n fs z all

end_breaks : (last : LineEnd) (rest : List ℕ) → begins_line (print_end last ++ rest) ≡ false
end_breaks crlf rest = refl
end_breaks lf rest = refl

begins_longer : (r more : List ℕ) → begins_line r ≡ true → begins_line (r ++ more) ≡ true
begins_longer [] more h = absurd (false≢true h)
begins_longer (b ∷ r) more h = h

some_rest : (o : Option (List ℕ)) → begins_line_there o ≡ true → (r : List ℕ) × (o ≡ Some r) × (begins_line r ≡ true)
some_rest None h = absurd (false≢true h)
some_rest (Some r) h = (r, refl, h)

section_of-append : (line : List ℕ) (fs : List Field) (last : LineEnd) (z more : List ℕ)
    → section_of line fs last (z ++ more) ≡ section_of line fs last z ++ more
section_of-append line fs last z more = simp append_assoc

extra_full : (line : List ℕ) (fs : List Field) (last : LineEnd) (rest more y r : List ℕ) → IsStartLine line → All IsField fs
    → length fs ≡ 64 → y ++ more ≡ section_of line fs last rest → skip_lines 65 (y ++ more) ≡ Some (r ++ more)
    → begins_line r ≡ true → ⊥
unfolding skip_lines
extra_full line fs last rest more y r start all full is there begins =
    let whole : skip_lines 65 (section_of line fs last rest) ≡ Some (print_end last ++ rest) =
    (let count : 65 ≡ suc (length fs + 0) = omega (arith, full) in
    ap (λ (k : ℕ). skip_lines k (section_of line fs last rest)) count)
    ∙ skip_section line fs 0 (print_end last ++ rest) start all in
    let both : Some (r ++ more) ≡ Some (print_end last ++ rest) = sym there ∙ ap (skip_lines 65) is ∙ whole in
    let same : r ++ more ≡ print_end last ++ rest = cc in
    false≢true (sym (end_breaks last rest) ∙ sym (ap begins_line same) ∙ begins_longer r more begins)

extra_fewer : (line : List ℕ) (fs : List Field) (last : LineEnd) (rest more y r : List ℕ) → IsStartLine line → All IsField fs
    → length fs < 64 → y ++ more ≡ section_of line fs last rest → skip_lines 65 y ≡ Some r
    → (z : List ℕ) × (y ≡ section_of line fs last z)
extra_fewer line fs last rest more y r start all few is there =
    let z = skip_fewer 65 (suc (length fs + 1)) y r (omega (arith, few)) there in
    let long = skip-append (suc (length fs + 1)) y more z.0 z.1 in
    let whole : skip_lines (suc (length fs + 1)) (section_of line fs last rest) ≡ Some rest =
    skip_section line fs 1 (print_end last ++ rest) start all ∙ skip_end 0 last rest ∙ skip_none rest in
    let both : Some (z.0 ++ more) ≡ Some rest = sym long ∙ ap (skip_lines (suc (length fs + 1))) is ∙ whole in
    let same : rest ≡ z.0 ++ more = cc in (
      z.0,
      append_cancel_right y (section_of line fs last z.0) more
          (is ∙ ap (section_of line fs last) same ∙ section_of-append line fs last z.0 more),
    )

-- where one has begun, a head of fewer lines can only be whole already
pub extra_refuses : (line : List ℕ) (fs : List Field) (last : LineEnd) (rest more y : List ℕ) → IsStartLine line → All IsField fs
    → length fs ≤ 64 → y ++ more ≡ section_of line fs last rest → begins_line_there (skip_lines 65 y) ≡ true
    → (z : List ℕ) × (y ≡ section_of line fs last z)
extra_refuses line fs last rest more y start all few is extra =
    let r = some_rest (skip_lines 65 y) extra in
    elim (cases_lt (length fs) 64) [
      | inl w ↦ extra_fewer line fs last rest more y r.0 start all w is r.1
      | inr w ↦ absurd (extra_full line fs last rest more y r.0 start all (omega (arith, few, w)) is
          (skip-append 65 y more r.0 r.1) r.2)
    ]

-- ---- no header line too many

pub token_inside : (b : ℕ) → is_token_byte b ≡ true → is_break b ≡ false
token_inside b passes = elim (eqb_tells b 13) [
  | inl w ↦ absurd (false≢true (sym (ap is_token_byte w.1 ∙ token_return) ∙ passes))
  | inr w ↦ elim (eqb_tells b 10) [
    | inl v ↦ absurd (false≢true (sym (ap is_token_byte v.1 ∙ token_feed) ∙ passes))
    | inr v ↦ ap₂ (λ (s t : Bool). s || t) w.0 v.0
  ]
]

field_begins : (f : Field) (rest m more : List ℕ) (x : ℕ) → IsField f → (x ∷ m) ++ more ≡ print_field f ++ rest
    → is_break x ≡ false
field_begins f rest m more x valid is = go f.name valid.name.0 valid.name.1 refl
  where
    go : (name : List ℕ) → 0 < length name → AllPass is_token_byte name → f.name ≡ name → is_break x ≡ false
    go [] some all e = absurd (omega arith)
    go (b ∷ name) some all e =
        let P : ℕ → Type 0 = λ v. is_token_byte v ≡ true in
        let first : x ∷ (m ++ more) ≡ b ∷ (name ++ 58 ∷ f.raw ++ print_end f.end ++ rest) =
        is ∙ ap (λ (l : List ℕ). (l ++ 58 ∷ f.raw ++ print_end f.end) ++ rest) e in
        let same : x ≡ b = cc in
        subst (λ (v : ℕ). is_break v ≡ false) (sym same) (token_inside b (All-head P b name all))

fields_front : (gs hs : List Field) → All IsField (gs ++ hs) → All IsField gs
fields_front [] hs all = All-nil IsField
fields_front (g ∷ gs) hs all =
    All-cons IsField g gs (All-head IsField g (gs ++ hs) all) (fields_front gs hs (All-tail IsField g (gs ++ hs) all))

all_middle : (gs : List Field) (f : Field) (hs : List Field) → All IsField (gs ++ f ∷ hs) → IsField f
all_middle [] f hs all = All-head IsField f hs all
all_middle (g ∷ gs) f hs all = all_middle gs f hs (All-tail IsField g (gs ++ f ∷ hs) all)

split_at : (n : ℕ) (fs : List Field) → n < length fs
    → (gs : List Field) × (f : Field) × (hs : List Field) × (fs ≡ gs ++ f ∷ hs) × (length gs ≡ n)
split_at n [] few = absurd (omega arith)
split_at zero (f ∷ fs) few = ([], f, fs, refl, refl)
split_at (suc n) (f ∷ fs) few =
    let rest = split_at n fs (omega arith) in
    (f ∷ rest.0, rest.1, rest.2, ap (λ (l : List Field). f ∷ l) rest.3, omega (arith, rest.4))

no_extra_long : (line : List ℕ) (gs : List Field) (f : Field) (hs : List Field) (last : LineEnd) (more y : List ℕ)
    → IsStartLine line → All IsField (gs ++ f ∷ hs) → length gs ≡ 64
    → y ++ more ≡ section_of line (gs ++ f ∷ hs) last [] → begins_line_there (skip_lines 65 y) ≡ false
    → (next : List ℕ) × (y ++ next ≡ section_of line gs last [])
no_extra_long line gs f hs last more y start all full is none =
    let front = line ++ flat_map print_field gs in
    let rest = flat_map print_field hs ++ (print_end last ++ []) in
    let parts : y ++ more ≡ front ++ (print_field f ++ rest) = is
    ∙ ap (λ (l : List ℕ). line ++ (l ++ (print_end last ++ []))) (flat_map-append print_field gs (f ∷ hs))
    ∙ regroup line (flat_map print_field gs) (print_field f) (flat_map print_field hs) (print_end last ++ []) in
    elim (longer_front y more front (print_field f ++ rest) parts) [
      | inl w ↦ (
        w.0 ++ (print_end last ++ []),
        sym (append_assoc y w.0 (print_end last ++ []))
            ∙ ap (λ (l : List ℕ). l ++ (print_end last ++ [])) (sym w.1)
            ∙ append_assoc line (flat_map print_field gs) (print_end last ++ []),
      )
      | inr w ↦
          let inside : is_break w.0 ≡ false =
          field_begins f rest w.1 more w.0 (all_middle gs f hs all) (sym w.3) in
          let count : 65 ≡ suc (length gs + 0) = omega (arith, full) in
          let skipped : skip_lines 65 y ≡ Some (w.0 ∷ w.1) =
          ap (skip_lines 65) (w.2 ∙ append_assoc line (flat_map print_field gs) (w.0 ∷ w.1))
          ∙ ap (λ (k : ℕ). skip_lines k (line ++ (flat_map print_field gs ++ w.0 ∷ w.1))) count
          ∙ skip_section line gs 0 (w.0 ∷ w.1) start (fields_front gs (f ∷ hs) all)
          ∙ skip_none (w.0 ∷ w.1) in
          absurd (false≢true (sym none ∙ ap begins_line_there skipped ∙ ap not inside))
    ]
  where
    regroup : (a b c d e : List ℕ) → a ++ ((b ++ (c ++ d)) ++ e) ≡ (a ++ b) ++ (c ++ (d ++ e))
    regroup a b c d e = simp append_assoc

-- a text that some head continues, and in which no line too many has begun, is continued by a head of 64 lines
pub no_extra_fits : (line : List ℕ) (fs : List Field) (last : LineEnd) (more y : List ℕ) → IsStartLine line → All IsField fs
    → y ++ more ≡ section_of line fs last [] → begins_line_there (skip_lines 65 y) ≡ false
    → (gs : List Field) × (next : List ℕ) × All IsField gs × (length gs ≤ 64) × (y ++ next ≡ section_of line gs last [])
no_extra_fits line fs last more y start all is none = elim (cases_lt 64 (length fs)) [
  | inl w ↦
      let parts = split_at 64 fs w in
      let valid = subst (All IsField) parts.3 all in
      let long = no_extra_long line parts.0 parts.1 parts.2 last more y start valid parts.4
      (is ∙ ap (λ (l : List Field). section_of line l last []) parts.3) none in
      (parts.0, long.0, fields_front parts.0 (parts.1 ∷ parts.2) valid, omega (arith, parts.4), long.1)
  | inr w ↦ (fs, more, all, w, is)
]

-- ---- empty lines in front

abbrev pub Breaks : List ℕ → Type 0
Breaks [] = Unit {0}
Breaks (b ∷ bytes) = (is_break b ≡ true) × Breaks bytes

-- the bytes begin with one that ends no line
abbrev pub BeginsInside : List ℕ → Type 0
BeginsInside bytes = (b : ℕ) × (rest : List ℕ) × (bytes ≡ b ∷ rest) × (is_break b ≡ false)

pub blank_breaks : (ends : List LineEnd) → Breaks (print_blank ends)
blank_breaks [] = tt
blank_breaks (crlf ∷ ends) = (refl, (refl, blank_breaks ends))
blank_breaks (lf ∷ ends) = (refl, blank_breaks ends)

breaks_front : (xs ys : List ℕ) → Breaks (xs ++ ys) → Breaks xs
breaks_front [] ys all = tt
breaks_front (x ∷ xs) ys all = (all.0, breaks_front xs ys all.1)

pub skip_all : (xs ys : List ℕ) → Breaks xs → skip_breaks (xs ++ ys) ≡ skip_breaks ys
unfolding skip_breaks
skip_all [] ys all = refl
skip_all (x ∷ xs) ys all =
    ap (λ (t : Bool). if t then skip_breaks (xs ++ ys) else x ∷ (xs ++ ys)) all.0 ∙ skip_all xs ys all.1

pub skip_no_more : (x : ℕ) (xs : List ℕ) → is_break x ≡ false → skip_breaks (x ∷ xs) ≡ x ∷ xs
unfolding skip_breaks
skip_no_more x xs inside = ap (λ (t : Bool). if t then skip_breaks xs else x ∷ xs) inside

skip_nothing : skip_breaks [] ≡ []
unfolding skip_breaks
skip_nothing = refl

-- the bytes end among the empty lines, or after them
pub blank_cases : (blank text buf more : List ℕ) → Breaks blank → BeginsInside text → buf ++ more ≡ blank ++ text
    → ((m : List ℕ) × (blank ≡ buf ++ m) × (skip_breaks buf ≡ []))
    ⊎ ((y : List ℕ) × (buf ≡ blank ++ y) × (y ++ more ≡ text) × (skip_breaks buf ≡ y))
blank_cases blank text buf more breaks begins is = elim (longer_front buf more blank text is) [
  | inl w ↦ inl (
    w.0,
    w.1,
    ap skip_breaks (sym (append-nil buf))
        ∙ skip_all buf [] (breaks_front buf w.0 (subst Breaks w.1 breaks)) ∙ skip_nothing,
  )
  | inr w ↦
      let first : w.0 ∷ (w.1 ++ more) ≡ begins.0 ∷ begins.1 = sym w.3 ∙ begins.2 in
      let same : w.0 ≡ begins.0 = cc in
      inr (
        w.0 ∷ w.1,
        w.2,
        sym w.3,
        ap skip_breaks w.2 ∙ skip_all blank (w.0 ∷ w.1) breaks
            ∙ skip_no_more w.0 w.1 (ap is_break same ∙ begins.3),
      )
]

-- among the empty lines none has begun
pub not_extra : (buf : List ℕ) → skip_breaks buf ≡ [] → begins_extra_line buf ≡ true → ⊥
unfolding begins_extra_line skip_lines
not_extra buf none extra =
    let no : begins_extra_line buf ≡ false = ap (λ (l : List ℕ). begins_line_there (skip_lines 65 l)) none in
    false≢true (sym no ∙ extra)
