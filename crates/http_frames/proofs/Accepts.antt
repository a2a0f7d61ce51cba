-- The phases read the bodies in chunks: what each accepts, and that this is the grammar.
use Rattle.std.proofs.Common.{◌≡◌, ℕ, zero, suc, ◌+◌, ◌-◌, ◌*◌, ◌<◌, ◌≤◌, List, [], ◌∷◌, ◌++◌, length, refl, sym, ap, ap₂, ◌∙◌, subst, arith, zero-add, append_assoc, Bool, true, false, not, inl, inr}
use Rattle.std.specs.Prelude.{◌⊎◌, Option, Some, None, if◌then◌else◌, ◌==◌, ◌||◌, nat_lt}
use Rattle.std.specs.List.{AllPass}
use Rattle.std.specs.Char.{is_ascii_hexdigit, digit_value}
use Rattle.std.specs.Str.Parse.{digits_value, digits_value_after}
use Rattle.std.proofs.lemmas.Bool.{false≢true, cases_lt}
use Rattle.std.proofs.lemmas.Bool.Decides.{eqb_tells}
use Rattle.std.proofs.lemmas.List.Elements.{All-cons, All-nil}
use Rattle.httparse.specs.Grammar.{ChunkLine, IsChunkLine, print_chunk_line, crlf, lf, is_ows, is_extension_byte, print_extension, IsExtension}
use Rattle.http_frames.specs.declared.chunks.Phase.{Phase}
use Rattle.http_frames.specs.declared.chunks.Phase.TheVariants.{Line, Size, Pad, Extension, SizeReturn, Data, DataEnd, DataReturn, Trailer as TrailerStart, TrailerReturn, TrailerText, Done}
use Rattle.http_frames.specs.Phases.{next_phase, after_size, after_chunk_line, next_in_trailer, is_data, is_done}
use Rattle.http_frames.specs.Chunks.{is_trailer_byte, Trailer, ended, lined, Chunked, last_chunk, chunk}

abbrev pub OnSome : Option Phase → (Phase → Type 0) → Type 0
OnSome None P = ⊥
OnSome (Some phase) P = P phase

-- the content begins with the byte where it is data
abbrev pub Keeps : Bool → ℕ → (List ℕ → Type 0) → List ℕ → Type 0
Keeps true b P content = (rest : List ℕ) × (content ≡ b ∷ rest) × P rest
Keeps false b P content = P content

-- from the phase on the bytes complete the body, with this content
abbrev pub Accepts : Phase → List ℕ → List ℕ → Type 0
Accepts phase [] content = (is_done phase ≡ true) × (content ≡ [])
Accepts phase (b ∷ bytes) content = OnSome (next_phase phase b) (λ next. Keeps (is_data phase) b (Accepts next bytes) content)

-- ---- what each phase accepts, as the grammar says it

-- the rest of a chunk, and the body after it
abbrev pub DataThen : ℕ → List ℕ → List ℕ → Type 0
DataThen n bytes content =
    (part : List ℕ) × (rest : List ℕ) × (more : List ℕ) × (length part ≡ n)
    × (bytes ≡ part ++ (13 ∷ 10 ∷ rest)) × (content ≡ part ++ more) × Chunked rest more

-- after a chunk line
abbrev pub AfterLine : ℕ → List ℕ → List ℕ → Type 0
AfterLine size bytes content = ((size ≡ 0) × Trailer bytes × (content ≡ [])) ⊎ ((0 < size) × DataThen size bytes content)

-- after the digits
abbrev pub AfterSize : ℕ → List ℕ → List ℕ → Type 0
AfterSize size bytes content =
    (pad : List ℕ) × (text : Option (List ℕ)) × (rest : List ℕ) × AllPass is_ows pad × IsExtension text
    × (bytes ≡ pad ++ (print_extension text ++ (13 ∷ 10 ∷ rest))) × AfterLine size rest content

-- a line of the trailer that has begun
abbrev pub TrailerTail : List ℕ → List ℕ → Type 0
TrailerTail bytes content =
    (line : List ℕ) × (rest : List ℕ) × AllPass is_trailer_byte line × (bytes ≡ line ++ 10 ∷ rest) × Trailer rest × (content ≡ [])

abbrev pub PhaseMeans : Phase → List ℕ → List ℕ → Type 0
PhaseMeans Line bytes content = Chunked bytes content
PhaseMeans (Size digits size) bytes content =
    (ds : List ℕ) × (rest : List ℕ) × AllPass is_ascii_hexdigit ds × ((16 < digits) ⊎ (digits + length ds ≤ 16)) × (bytes ≡ ds ++ rest)
    × AfterSize (digits_value_after 16 size ds) rest content
PhaseMeans (Pad size) bytes content = AfterSize size bytes content
PhaseMeans (Extension size) bytes content =
    (text : List ℕ) × (rest : List ℕ) × AllPass is_extension_byte text × (bytes ≡ text ++ (13 ∷ 10 ∷ rest)) × AfterLine size rest content
PhaseMeans (SizeReturn size) bytes content = (rest : List ℕ) × (bytes ≡ 10 ∷ rest) × AfterLine size rest content
PhaseMeans (Data left) bytes content = DataThen left bytes content
PhaseMeans DataEnd bytes content = (rest : List ℕ) × (bytes ≡ 13 ∷ 10 ∷ rest) × Chunked rest content
PhaseMeans DataReturn bytes content = (rest : List ℕ) × (bytes ≡ 10 ∷ rest) × Chunked rest content
PhaseMeans TrailerStart bytes content = Trailer bytes × (content ≡ [])
PhaseMeans TrailerReturn bytes content = ((bytes ≡ 10 ∷ []) × (content ≡ [])) ⊎ ((b : ℕ) × (rest : List ℕ) × (bytes ≡ b ∷ rest) × ((b == 10) ≡ false) × TrailerTail rest content)
PhaseMeans TrailerText bytes content = TrailerTail bytes content
PhaseMeans Done bytes content = (bytes ≡ []) × (content ≡ [])

-- ---- each is read as the grammar has it

if_cases : (t : Bool) (x y : Option Phase) (P : Phase → Type 0) → OnSome (if t then x else y) P
    → ((t ≡ true) × OnSome x P) ⊎ ((t ≡ false) × OnSome y P)
if_cases true x y P h = inl (refl, h)
if_cases false x y P h = inr (refl, h)

same_byte : (b c : ℕ) → (b == c) ≡ true → b ≡ c
same_byte b c h = elim (eqb_tells b c) [ inl w ↦ w.1 | inr w ↦ absurd (false≢true (sym w.0 ∙ h)) ]

-- a chunk line begins with a digit
line_of_size : (b : ℕ) (bytes content : List ℕ) → is_ascii_hexdigit b ≡ true → PhaseMeans (Size 1 (digit_value b)) bytes content
    → Chunked (b ∷ bytes) content
unfolding print_chunk_line
line_of_size b bytes content hex m =
    let ds = m.0 in
    let rest = m.5 in
    let few : suc (length ds) ≤ 16 = elim m.3 [ inl w ↦ absurd (omega (arith, w)) | inr w ↦ omega (arith, w) ] in
    let value : digits_value 16 (b ∷ ds) ≡ digits_value_after 16 (digit_value b) ds =
    ap (λ (n : ℕ). digits_value_after 16 n ds) (zero-add (digit_value b)) in
    let line : ChunkLine = record { digits = b ∷ ds; pad = rest.0; extension = rest.1 } in
    let valid : IsChunkLine line = record {
      digits = (omega arith, few, All-cons (λ x. is_ascii_hexdigit x ≡ true) b ds hex m.2);
      pad = rest.3;
      extension = rest.4;
    } in
    let text : b ∷ bytes ≡ print_chunk_line line ++ rest.2 =
    ap (λ (l : List ℕ). b ∷ l) (m.4 ∙ ap (λ (l : List ℕ). ds ++ l) rest.5)
    ∙ regroup (b ∷ ds) rest.0 (print_extension rest.1) rest.2 in
    elim rest.6 [
      | inl w ↦ subst (Chunked (b ∷ bytes)) (sym w.2) (last_chunk (b ∷ bytes) line rest.2 valid (value ∙ w.0) text w.1)
      | inr w ↦
          let part = w.1 in
          chunk (b ∷ bytes) content line part.0 part.1 part.2 valid (value ∙ sym part.3) (subst (λ (n : ℕ). 0 < n) (sym part.3) w.0)
          (text ∙ ap (λ (l : List ℕ). print_chunk_line line ++ l) part.4) part.5 part.6
    ]
  where
    regroup : (a p e r : List ℕ) → a ++ (p ++ (e ++ (13 ∷ 10 ∷ r))) ≡ (a ++ p ++ e ++ 13 ∷ 10 ∷ []) ++ r
    regroup a p e r = sym (append_assoc (a ++ p ++ e) (13 ∷ 10 ∷ []) r ∙ append_assoc (a ++ p) e (13 ∷ 10 ∷ r) ∙ append_assoc a p (e ++ (13 ∷ 10 ∷ r)))

after_means : (size b : ℕ) (bytes content : List ℕ) → OnSome (after_size size b) (λ next. PhaseMeans next bytes content)
    → AfterSize size (b ∷ bytes) content
after_means size b bytes content h = elim (if_cases (is_ows b) _ _ (λ next. PhaseMeans next bytes content) h) [
  | inl w ↦
      let m = w.1 in
      (b ∷ m.0, m.1, m.2, All-cons (λ x. is_ows x ≡ true) b m.0 w.0 m.3, m.4, ap (λ (l : List ℕ). b ∷ l) m.5, m.6)
  | inr w ↦ elim (if_cases (b == 59) _ _ (λ next. PhaseMeans next bytes content) w.1) [
    | inl v ↦
        let m = v.1 in (
          [],
          Some m.0,
          m.1,
          All-nil (λ x. is_ows x ≡ true),
          m.2,
          ap₂ (λ (x : ℕ) (l : List ℕ). x ∷ l) (same_byte b 59 v.0) m.3,
          m.4,
        )
    | inr v ↦ elim (if_cases (b == 13) _ _ (λ next. PhaseMeans next bytes content) v.1) [
      | inl u ↦
          let m = u.1 in
          ([], None, m.0, All-nil (λ x. is_ows x ≡ true), tt, ap₂ (λ (x : ℕ) (l : List ℕ). x ∷ l) (same_byte b 13 u.0) m.1, m.2)
      | inr u ↦ absurd u.1
    ]
  ]
]

on_some_map : (o : Option Phase) (P Q : Phase → Type 0) → ((phase : Phase) → P phase → Q phase) → OnSome o P → OnSome o Q
on_some_map None P Q f h = h
on_some_map (Some phase) P Q f h = f phase h

if_means : (t : Bool) (x y : Phase) (bytes content : List ℕ) → PhaseMeans (if t then x else y) bytes content
    → ((t ≡ true) × PhaseMeans x bytes content) ⊎ ((t ≡ false) × PhaseMeans y bytes content)
if_means true x y bytes content m = inl (refl, m)
if_means false x y bytes content m = inr (refl, m)

pub positive : (n : ℕ) → (n == 0) ≡ false → 0 < n
positive n h = elim (eqb_tells n 0) [ inl w ↦ absurd (false≢true (sym h ∙ w.0)) | inr w ↦ omega (arith, w.1) ]

after_line : (size : ℕ) (bytes content : List ℕ) → PhaseMeans (after_chunk_line size) bytes content → AfterLine size bytes content
after_line size bytes content m = elim (if_means (size == 0) TrailerStart (Data size) bytes content m) [
  | inl w ↦ inl (same_byte size 0 w.0, w.1.0, w.1.1)
  | inr w ↦ inr (positive size w.0, w.1)
]

no_data_left : (bytes content : List ℕ) → Accepts (Data 0) bytes content → ⊥
unfolding next_phase
no_data_left [] content h = false≢true h.0
no_data_left (b ∷ bytes) content h = no_data_left bytes h.0 h.2

data_means : (n b : ℕ) (bytes rest : List ℕ) → PhaseMeans (if suc n == 1 then DataEnd else Data (suc n - 1)) bytes rest
    → DataThen (suc n) (b ∷ bytes) (b ∷ rest)
data_means n b bytes rest m = elim (if_means (suc n == 1) DataEnd (Data (suc n - 1)) bytes rest m) [
  | inl w ↦
      let one : suc n ≡ 1 = same_byte (suc n) 1 w.0 in
      (b ∷ [], w.1.0, rest, sym one, ap (λ (l : List ℕ). b ∷ l) w.1.1, refl, w.1.2)
  | inr w ↦
      let d = w.1 in
      (b ∷ d.0, d.1, d.2, omega (arith, d.3), ap (λ (l : List ℕ). b ∷ l) d.4, ap (λ (l : List ℕ). b ∷ l) d.5, d.6)
]

trailer_byte : (b : ℕ) → (b == 10) ≡ false → is_trailer_byte b ≡ true
trailer_byte b h = ap not h

trailer_means : (b : ℕ) (bytes content : List ℕ) → PhaseMeans (next_in_trailer b) bytes content → Trailer (b ∷ bytes) × (content ≡ [])
trailer_means b bytes content m =
    let P : ℕ → Type 0 = λ x. is_trailer_byte x ≡ true in
    elim (if_means (b == 10) Done _ bytes content m) [
      | inl w ↦ (ended (b ∷ bytes) lf (ap₂ (λ (x : ℕ) (l : List ℕ). x ∷ l) (same_byte b 10 w.0) w.1.0), w.1.1)
      | inr w ↦ elim (if_means (b == 13) TrailerReturn TrailerText bytes content w.1) [
        | inl v ↦ elim v.1 [
          | inl u ↦ (ended (b ∷ bytes) crlf (ap₂ (λ (x : ℕ) (l : List ℕ). x ∷ l) (same_byte b 13 v.0) u.0), u.1)
          | inr u ↦
              let tail = u.4 in (
                lined (b ∷ bytes) (b ∷ u.0 ∷ tail.0) tail.1
                    (record {
                      bytes = All-cons P b (u.0 ∷ tail.0) (trailer_byte b w.0) (All-cons P u.0 tail.0 (trailer_byte u.0 u.3) tail.2);
                      some = λ e. cc;
                      more = λ e. cc;
                    })
                    (ap (λ (l : List ℕ). b ∷ l) (u.2 ∙ ap (λ (l : List ℕ). u.0 ∷ l) tail.3)) tail.4,
                tail.5,
              )
        ]
        | inr v ↦
            let tail = v.1 in (
              lined (b ∷ bytes) (b ∷ tail.0) tail.1
                  (record {
                    bytes = All-cons P b tail.0 (trailer_byte b w.0) tail.2;
                    some = λ e. cc;
                    more = λ e. (let same : b ≡ 13 = cc in false≢true (sym v.0 ∙ ap (λ (x : ℕ). x == 13) same));
                  })
                  (ap (λ (l : List ℕ). b ∷ l) tail.3) tail.4,
              tail.5,
            )
      ]
    ]

-- what a phase accepts is what it means
pub sound : (bytes : List ℕ) (phase : Phase) (content : List ℕ) → Accepts phase bytes content → PhaseMeans phase bytes content
unfolding next_phase
sound [] Done content h = (refl, h.1)
sound [] Line content h = absurd (false≢true h.0)
sound [] (Size digits size) content h = absurd (false≢true h.0)
sound [] (Pad size) content h = absurd (false≢true h.0)
sound [] (Extension size) content h = absurd (false≢true h.0)
sound [] (SizeReturn size) content h = absurd (false≢true h.0)
sound [] (Data left) content h = absurd (false≢true h.0)
sound [] DataEnd content h = absurd (false≢true h.0)
sound [] DataReturn content h = absurd (false≢true h.0)
sound [] TrailerStart content h = absurd (false≢true h.0)
sound [] TrailerReturn content h = absurd (false≢true h.0)
sound [] TrailerText content h = absurd (false≢true h.0)
sound (b ∷ bytes) Done content h = absurd h
sound (b ∷ bytes) Line content h = elim (if_cases (is_ascii_hexdigit b) _ _ (λ next. Accepts next bytes content) h) [
  | inl w ↦ line_of_size b bytes content w.0 (sound bytes (Size 1 (digit_value b)) content w.1)
  | inr w ↦ absurd w.1
]
sound (b ∷ bytes) (Size digits size) content h = elim (if_cases (is_ascii_hexdigit b) _ _ (λ next. Accepts next bytes content) h) [
  | inl w ↦ elim (if_cases (nat_lt digits 16) _ _ (λ next. Accepts next bytes content) w.1) [
    | inl v ↦
        let m = sound bytes (Size (digits + 1) (size * 16 + digit_value b)) content v.1 in
        let few : digits < 16 = grind (arith, v.0) in
        let fits : digits + suc (length m.0) ≤ 16 = elim m.3 [ inl u ↦ absurd (omega (arith, u, few)) | inr u ↦ omega (arith, u) ] in
        (b ∷ m.0, m.1, All-cons (λ x. is_ascii_hexdigit x ≡ true) b m.0 w.0 m.2, inr fits, ap (λ (l : List ℕ). b ∷ l) m.4, m.5)
    | inr v ↦ absurd v.1
  ]
  | inr w ↦
      let fits : (16 < digits) ⊎ (digits + 0 ≤ 16) = elim (cases_lt 16 digits) [ inl u ↦ inl u | inr u ↦ inr (omega (arith, u)) ] in (
        [],
        b ∷ bytes,
        All-nil (λ x. is_ascii_hexdigit x ≡ true),
        fits,
        refl,
        after_means size b bytes content (on_some_map (after_size size b) _ _ (λ next. sound bytes next content) w.1),
      )
]
sound (b ∷ bytes) (Pad size) content h =
    after_means size b bytes content (on_some_map (after_size size b) _ _ (λ next. sound bytes next content) h)
sound (b ∷ bytes) (Extension size) content h = elim (if_cases (b == 13) _ _ (λ next. Accepts next bytes content) h) [
  | inl w ↦
      let m = sound bytes (SizeReturn size) content w.1 in
      ([], m.0, All-nil (λ x. is_extension_byte x ≡ true), ap₂ (λ (x : ℕ) (l : List ℕ). x ∷ l) (same_byte b 13 w.0) m.1, m.2)
  | inr w ↦ elim (if_cases (b == 10) _ _ (λ next. Accepts next bytes content) w.1) [
    | inl v ↦ absurd v.1
    | inr v ↦
        let m = sound bytes (Extension size) content v.1 in (
          b ∷ m.0,
          m.1,
          All-cons (λ x. is_extension_byte x ≡ true) b m.0 (ap₂ (λ (s t : Bool). not (s || t)) w.0 v.0) m.2,
          ap (λ (l : List ℕ). b ∷ l) m.3,
          m.4,
        )
  ]
]
sound (b ∷ bytes) (SizeReturn size) content h = elim (if_cases (b == 10) _ _ (λ next. Accepts next bytes content) h) [
  | inl w ↦ (bytes, ap (λ (x : ℕ). x ∷ bytes) (same_byte b 10 w.0), after_line size bytes content (sound bytes (after_chunk_line size) content w.1))
  | inr w ↦ absurd w.1
]
sound (b ∷ bytes) (Data zero) content h = absurd (no_data_left bytes h.0 h.2)
sound (b ∷ bytes) (Data (suc n)) content h =
    let m = data_means n b bytes h.0 (sound bytes (if suc n == 1 then DataEnd else Data (suc n - 1)) h.0 h.2) in
    (m.0, m.1, m.2, m.3, m.4, h.1 ∙ m.5, m.6)
sound (b ∷ bytes) DataEnd content h = elim (if_cases (b == 13) _ _ (λ next. Accepts next bytes content) h) [
  | inl w ↦
      let m = sound bytes DataReturn content w.1 in
      (m.0, ap₂ (λ (x : ℕ) (l : List ℕ). x ∷ l) (same_byte b 13 w.0) m.1, m.2)
  | inr w ↦ absurd w.1
]
sound (b ∷ bytes) DataReturn content h = elim (if_cases (b == 10) _ _ (λ next. Accepts next bytes content) h) [
  | inl w ↦ (bytes, ap (λ (x : ℕ). x ∷ bytes) (same_byte b 10 w.0), sound bytes Line content w.1)
  | inr w ↦ absurd w.1
]
sound (b ∷ bytes) TrailerStart content h = trailer_means b bytes content (sound bytes (next_in_trailer b) content h)
sound (b ∷ bytes) TrailerReturn content h =
    elim (if_means (b == 10) Done TrailerText bytes content (sound bytes (if b == 10 then Done else TrailerText) content h)) [
      | inl w ↦ inl (ap₂ (λ (x : ℕ) (l : List ℕ). x ∷ l) (same_byte b 10 w.0) w.1.0, w.1.1)
      | inr w ↦ inr (b, bytes, refl, w.0, w.1)
    ]
sound (b ∷ bytes) TrailerText content h =
    elim (if_means (b == 10) TrailerStart TrailerText bytes content (sound bytes (if b == 10 then TrailerStart else TrailerText) content h)) [
      | inl w ↦ ([], bytes, All-nil (λ x. is_trailer_byte x ≡ true), ap (λ (x : ℕ). x ∷ bytes) (same_byte b 10 w.0), w.1.0, w.1.1)
      | inr w ↦
          let m = w.1 in
          (b ∷ m.0, m.1, All-cons (λ x. is_trailer_byte x ≡ true) b m.0 (trailer_byte b w.0) m.2, ap (λ (l : List ℕ). b ∷ l) m.3, m.4, m.5)
    ]
