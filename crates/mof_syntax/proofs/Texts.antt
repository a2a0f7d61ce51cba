-- A text, and what it ends with, as bytes and as characters.
use Rattle.std.proofs.Common.{◌≡◌, ◌≤◌, ◌+◌, ◌-◌, ℕ, List, [], ◌∷◌, ◌++◌, length, take, drop, refl, sym, ap, subst, ◌∙◌, length-append, arith}
use Rattle.std.proofs.lemmas.List.{take-append-drop, drop_at, drop-drop}
use Rattle.std.proofs.lemmas.Str.{encodes-append, encodes-chars, length-le-encodes, chars-nil, chars-append, IsUtf8-take, IsCharBoundary-at_seam}
use Rattle.std.specs.Prelude.{encode_utf8_all, IsUtf8, slice_range}
use Rattle.std.specs.Str.{chars, IsCharBoundary}
use Rattle.mof_syntax.specs.Characters.{EndsWith}

-- the bytes of a text end with those of its rest
pub seam : (text rest : List ℕ) → IsUtf8 text → IsUtf8 rest → (e : EndsWith (chars text) (chars rest)) → text ≡ encode_utf8_all e.0 ++ rest
seam text rest u v e =
    sym (encodes-chars text u) ∙ ap encode_utf8_all e.1 ∙ encodes-append e.0 (chars rest) ∙ ap (λ bs. encode_utf8_all e.0 ++ bs) (encodes-chars rest v)

pub rest_shorter : (text rest : List ℕ) → IsUtf8 text → IsUtf8 rest → EndsWith (chars text) (chars rest) → length rest ≤ length text
rest_shorter text rest u v e =
    let sum : length text ≡ length (encode_utf8_all e.0) + length rest = ap length (seam text rest u v e) ∙ length-append (encode_utf8_all e.0) rest in
    omega arith

-- how many bytes stand before the rest
count_before : (text rest : List ℕ) → IsUtf8 text → IsUtf8 rest → (e : EndsWith (chars text) (chars rest)) → length (encode_utf8_all e.0) ≡ length text - length rest
count_before text rest u v e =
    let sum : length text ≡ length (encode_utf8_all e.0) + length rest = ap length (seam text rest u v e) ∙ length-append (encode_utf8_all e.0) rest in
    omega arith

pub boundary_before : (text rest : List ℕ) → IsUtf8 text → IsUtf8 rest → EndsWith (chars text) (chars rest) → IsCharBoundary text (length text - length rest)
boundary_before text rest u v e = subst (IsCharBoundary text) (count_before text rest u v e) (IsCharBoundary-at_seam text (encode_utf8_all e.0) rest (seam text rest u v e) v)

pub chars_before : (text rest : List ℕ) → IsUtf8 text → IsUtf8 rest → EndsWith (chars text) (chars rest)
    → chars text ≡ chars (slice_range text 0 (length text - length rest)) ++ chars rest
chars_before text rest u v e =
    let at = length text - length rest in
    let rest_is : drop at text ≡ rest = ap (drop at) (seam text rest u v e) ∙ drop_at (encode_utf8_all e.0) rest at (count_before text rest u v e) in
    let whole : text ≡ take at text ++ rest = sym (take-append-drop at text) ∙ ap (λ bs. take at text ++ bs) rest_is in
    let same : take at text ≡ slice_range text 0 at = ap (λ n. take n text) (from_start at) in
    ap chars whole ∙ chars-append (take at text) rest (IsUtf8-take text at u (boundary_before text rest u v e)) ∙ ap (λ bs. chars bs ++ chars rest) same
  where
    from_start : (n : ℕ) → n ≡ n - 0
    from_start n = omega arith

-- the end after that many characters
pub ends_after : (cs : List ℕ) (n : ℕ) → EndsWith cs (drop n cs)
ends_after cs n = (take n cs, sym (take-append-drop n cs))

pub drop_next : (cs left rest : List ℕ) (n : ℕ) → left ≡ drop n cs → rest ≡ drop 1 left → rest ≡ drop (n + 1) cs
drop_next cs left rest n is next = next ∙ ap (drop 1) is ∙ drop-drop 1 n cs

pub place_is : (cs front rest : List ℕ) → cs ≡ front ++ rest → length front ≡ length cs - length rest
place_is cs front rest split = omega (arith, ap length split ∙ length-append front rest)

pub chars_shorter : (bs : List ℕ) → IsUtf8 bs → length (chars bs) ≤ length bs
chars_shorter bs u = subst (λ xs. length (chars bs) ≤ length xs) (encodes-chars bs u) (length-le-encodes (chars bs))

-- a text has no character where it has no byte, and one where it has a byte
pub none_left : (bs : List ℕ) → length bs ≡ 0 → length (chars bs) ≡ 0
none_left [] h = ap length chars-nil
none_left (b ∷ bs) h = absurd (omega arith)

pub some_left : (bs : List ℕ) → IsUtf8 bs → (length bs ≡ 0 → ⊥) → length (chars bs) ≡ 0 → ⊥
some_left bs u some none = some (ap length (sym (encodes-chars bs u) ∙ ap encode_utf8_all (nothing (chars bs) none)))
  where
    nothing : (cs : List ℕ) → length cs ≡ 0 → cs ≡ []
    nothing [] h = refl
    nothing (c ∷ cs) h = absurd (omega arith)
