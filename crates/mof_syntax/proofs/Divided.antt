-- Bytes are characters, or go wrong somewhere.
use Rattle.std.proofs.Common.{◌≡◌, ◌≢◌, ◌<◌, ◌+◌, ◌⊎◌, inl, inr, ℕ, zero, suc, Bool, true, false, List, [], ◌∷◌, ◌++◌, length, take, drop, refl, sym, ap, subst, ◌∙◌, append_assoc, length-append, arith}
use Rattle.std.specs.Prelude.{nat_eq}
use Rattle.std.specs.List.{starts_with}
use Rattle.std.proofs.lemmas.Bool.{cases_lt}
use Rattle.std.proofs.lemmas.Bool.Decides.{Decides-eqb}
use Rattle.std.proofs.lemmas.List.{append-nil, take_at, drop_at}
use Rattle.std.proofs.lemmas.Slice.Eq.{starts_is}
use Rattle.std.specs.Char.{IsScalar}
use Rattle.std.specs.Str.{all_scalars}
use lib.Utf8.{scalar, scalar_cases}
use Rattle.mof_syntax.specs.declared.encoding.Encoding.{Encoding}
use Rattle.mof_syntax.specs.declared.encoding.Encoding.TheVariants.{Utf8Marked, Utf16}
use Rattle.mof_syntax.specs.declared.encoding.ByteOrder.TheVariants.{LittleEndian, BigEndian}
use Rattle.mof_syntax.specs.Encodings.{char_bytes, body_bytes, mark_of, encoding_of, Chars, IsTextFault, StartsNoChar}
use Rattle.mof_syntax.specs.Decoding.{StartsChar, IsBodyFault}
use Rattle.mof_syntax.proofs.Bodies.{and_both, Chars-from_body, fault_after}
use Rattle.mof_syntax.proofs.Decoded.{some_bytes}

test : (b : Bool) → (b ≡ true) ⊎ (b ≡ false)
test true = inl refl
test false = inr refl

clash : {b : Bool} → b ≡ true → b ≡ false → ⊥
clash e f = cc

-- a list begins with another, or does not
begins : (bytes front : List ℕ) → ((rest : List ℕ) × (bytes ≡ front ++ rest)) ⊎ ((rest : List ℕ) → bytes ≢ front ++ rest)
begins bytes front =
    let told = starts_is Decides-eqb bytes front (starts_with nat_eq bytes front) refl in
    elim (test (starts_with nat_eq bytes front)) [
      | inl so ↦ inl (drop (length front) bytes, told.0 so)
      | inr not_so ↦ inr (λ rest e. clash (told.1 rest e) not_so)
    ]

-- a character below the bound begins the bytes, or none does
abbrev Below : Encoding → List ℕ → ℕ → Type 0
Below e bytes n = ((c : ℕ) × (rest : List ℕ) × StartsChar e bytes c rest) ⊎ ((c : ℕ) (rest : List ℕ) → c < n → IsScalar c → bytes ≢ char_bytes e c ++ rest)

no_more : (e : Encoding) (bytes : List ℕ) (n : ℕ) → ((c : ℕ) (rest : List ℕ) → c < n → IsScalar c → bytes ≢ char_bytes e c ++ rest)
    → ((rest : List ℕ) → IsScalar n → bytes ≢ char_bytes e n ++ rest) → (c : ℕ) (rest : List ℕ) → c < suc n → IsScalar c → bytes ≢ char_bytes e c ++ rest
no_more e bytes n before here c rest lt one is = elim (cases_lt c n) [
  | inl less ↦ before c rest less one is
  | inr more ↦
      let same : c ≡ n = omega (arith, lt, more) in
      here rest (subst IsScalar same one) (subst (λ (d : ℕ). bytes ≡ char_bytes e d ++ rest) same is)
]

below : (e : Encoding) (bytes : List ℕ) (n : ℕ) → Below e bytes n
below e bytes zero = inr (λ c rest lt one is. omega (arith, lt))
below e bytes (suc n) = elim (below e bytes n) [
  | inl found ↦ inl found
  | inr before ↦ elim (test (scalar n)) [
    | inl one ↦ elim (begins bytes (char_bytes e n)) [
      | inl there ↦ inl (n, there.0, record { scalar = one; spelled = there.1 })
      | inr absent ↦ inr (no_more e bytes n before (λ rest s. absent rest))
    ]
    | inr not_so ↦ inr (no_more e bytes n before (λ rest s is. clash s not_so))
  ]
]

scalar_below : (c : ℕ) → IsScalar c → c < 0x11_0000
scalar_below c one = elim (scalar_cases c one) [ inl low ↦ omega (arith, low) | inr high ↦ high.1 ]

-- a character begins the bytes, or none does
starts : (e : Encoding) (bytes : List ℕ) → ((c : ℕ) × (rest : List ℕ) × StartsChar e bytes c rest) ⊎ StartsNoChar e bytes
starts e bytes = elim (below e bytes 0x11_0000) [
  | inl found ↦ inl found
  | inr none ↦ inr (λ c rest one. none c rest (scalar_below c one) one)
]

-- the bytes are characters and then a rest that no character begins
record Divided (e : Encoding) (body : List ℕ) : Type 0 where
  chars : List ℕ
  rest : List ℕ
  scalars : all_scalars chars ≡ true
  split : body ≡ body_bytes e chars ++ rest
  ends : StartsNoChar e rest

divided : (k : ℕ) (e : Encoding) (body : List ℕ) → length body < k → Divided e body
divided zero e body lt = absurd (omega (arith, lt))
divided (suc k) e body lt = elim (starts e body) [
  | inl found ↦
      let c = found.0 in
      let left = found.1 in
      let lengths : length body ≡ length (char_bytes e c) + length left = ap length found.2.spelled ∙ length-append (char_bytes e c) left in
      let d = divided k e left (omega (arith, lt, lengths, some_bytes e c)) in
      record {
        chars = c ∷ d.chars;
        rest = d.rest;
        scalars = and_both (scalar c) (all_scalars d.chars) found.2.scalar d.scalars;
        split = found.2.spelled ∙ ap (λ bs. char_bytes e c ++ bs) d.split ∙ sym (append_assoc (char_bytes e c) (body_bytes e d.chars) d.rest);
        ends = d.ends;
      }
  | inr none ↦ record { chars = []; rest = body; scalars = refl; split = refl; ends = none }
]

-- so the body goes wrong there
fault_from : (e : Encoding) (body chars rest : List ℕ) → all_scalars chars ≡ true → body ≡ body_bytes e chars ++ rest → StartsNoChar e rest → 0 < length rest
    → (n : ℕ) × IsBodyFault e body n
fault_from e body chars rest scalars split ends some =
    let spelled = body_bytes e chars in
    let lengths : length body ≡ length spelled + length rest = ap length split ∙ length-append spelled rest in (
      length spelled,
      record {
        before = chars;
        is = record { scalars = scalars; spelled = ap (take (length spelled)) split ∙ take_at spelled rest (length spelled) refl };
        within = omega (arith, lengths, some);
        no_char = subst (StartsNoChar e) (sym (ap (drop (length spelled)) split ∙ drop_at spelled rest (length spelled) refl)) ends;
      },
    )

-- the mark of the bytes, and what is after it
after_mark : (bytes : List ℕ) → (body : List ℕ) × (bytes ≡ mark_of (encoding_of bytes) ++ body)
after_mark bytes = elim (test (starts_with nat_eq bytes (mark_of Utf8Marked))) [
  | inl so ↦ rw so (drop 3 bytes, (starts_is Decides-eqb bytes (mark_of Utf8Marked) _ refl).0 so)
  | inr not_so ↦ elim (test (starts_with nat_eq bytes (mark_of (Utf16 LittleEndian)))) [
    | inl so ↦ rw (not_so, so) (drop 2 bytes, (starts_is Decides-eqb bytes (mark_of (Utf16 LittleEndian)) _ refl).0 so)
    | inr nor ↦ elim (test (starts_with nat_eq bytes (mark_of (Utf16 BigEndian)))) [
      | inl so ↦ rw (not_so, nor, so) (drop 2 bytes, (starts_is Decides-eqb bytes (mark_of (Utf16 BigEndian)) _ refl).0 so)
      | inr none ↦ rw (not_so, nor, none) (bytes, refl)
    ]
  ]
]

-- bytes are characters, or go wrong at a place
pub chars_or_fault : (bytes : List ℕ) → ((text : List ℕ) × Chars bytes text) ⊎ ((at : ℕ) × IsTextFault bytes at)
chars_or_fault bytes =
    let e = encoding_of bytes in
    let b = after_mark bytes in
    let d = divided (suc (length b.0)) e b.0 (omega arith) in
    from b.0 b.1 d.chars d.rest d.scalars d.split d.ends
  where
    from : (body : List ℕ) → bytes ≡ mark_of (encoding_of bytes) ++ body → (chars rest : List ℕ) → all_scalars chars ≡ true
        → body ≡ body_bytes (encoding_of bytes) chars ++ rest → StartsNoChar (encoding_of bytes) rest
        → ((text : List ℕ) × Chars bytes text) ⊎ ((at : ℕ) × IsTextFault bytes at)
    from body is chars [] scalars split ends =
        let whole : body ≡ body_bytes (encoding_of bytes) chars = split ∙ append-nil (body_bytes (encoding_of bytes) chars) in
        inl (chars, Chars-from_body bytes body chars (encoding_of bytes) refl is (record { scalars = scalars; spelled = whole }))
    from body is chars (x ∷ rest) scalars split ends =
        let fault = fault_from (encoding_of bytes) body chars (x ∷ rest) scalars split ends (omega arith) in
        inr (length (mark_of (encoding_of bytes)) + fault.0, fault_after bytes body fault.0 (encoding_of bytes) refl is fault.1)
