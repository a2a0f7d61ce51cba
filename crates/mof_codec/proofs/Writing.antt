-- What was written, as far as a list was gone over.
use Rattle.std.proofs.Common.{◌≡◌, ◌≤◌, ◌<◌, ◌-◌, ℕ, true, nat_lt, List, [], ◌∷◌, ◌++◌, length, take, drop, get_or, encode_utf8_all, refl, sym, ap, ap₂, subst, ◌∙◌, arith, append_assoc, append-nil, ltb-true, suc, ◌^◌, ℤ, pos, negsuc, codes}
use Rattle.std.specs.Prelude.{encode_utf8}
use Rattle.std.specs.List.{flat_map, list_all, AllByRecursion}
use Rattle.std.proofs.Math.Seq.{take-length}
use Rattle.std.proofs.lemmas.Bool.{and_parts}
use Rattle.std.proofs.lemmas.Str.{encodes-append, encode_ascii}
use lib.Signed.{mag}
use Rattle.std.proofs.Common.{FitsSigned, to_z, of_z}
use mir.Syntax.{w128}
use Rattle.std.proofs.lemmas.Int.{ints, to_z-of_z}
use Rattle.std.specs.Fmt.{decimal, signed_decimal}
use Rattle.std.proofs.lemmas.Fmt.{IsAscii-decimal_wide}
use Rattle.std.proofs.lemmas.Str.Ascii.{encodes-IsAscii}
use Rattle.mof_values.specs.declared.value.Scalar.{Scalar}
use Rattle.mof_syntax.specs.Canonical.{canonical_scalar, canonical_elements}
use Rattle.mof_syntax.specs.Numerals.{signed_numeral}
use Rattle.mof_syntax.proofs.Numerals.{signed_numeral_decimal}
use Rattle.mof_codec.specs.Written.{Adds, further_element}

-- one piece after another

pub adds_join : (before between after a b : List ℕ) → Adds before between a → Adds between after b → Adds before after (a ++ b)
adds_join before between after a b e f = record {
  bytes = f.bytes ∙ ap (λ (xs : List ℕ). xs ++ encode_utf8_all b) e.bytes ∙ append_assoc before (encode_utf8_all a) (encode_utf8_all b)
      ∙ ap (λ (xs : List ℕ). before ++ xs) (sym (encodes-append a b));
}

ascii_bytes : (text : List ℕ) → list_all (λ c. nat_lt c 128) text ≡ true → encode_utf8_all text ≡ text
ascii_bytes [] e = refl
ascii_bytes (c ∷ cs) e =
    let p = and_parts (nat_lt c 128) (list_all (λ d. nat_lt d 128) cs) e in
    ap₂ (λ (xs ys : List ℕ). xs ++ ys) (encode_ascii c (ltb-true c 128 p.0)) (ascii_bytes cs p.1)

-- the bytes of ASCII characters are these
pub adds_ascii : (before after text : List ℕ) → list_all (λ c. nat_lt c 128) text ≡ true → after ≡ before ++ text → Adds before after text
adds_ascii before after text e f = record { bytes = f ∙ ap (λ (xs : List ℕ). before ++ xs) (sym (ascii_bytes text e)) }

pub adds_char : (before after : List ℕ) (c : ℕ) → after ≡ before ++ encode_utf8 c → Adds before after (c ∷ [])
adds_char before after c f = record { bytes = f ∙ ap (λ (xs : List ℕ). before ++ xs) (sym (append-nil (encode_utf8 c))) }

-- lists

item_and_rest : {A : Type 0} (xs : List A) (x : A) → 1 ≤ length xs → x ≡ get_or xs 0 x → xs ≡ x ∷ take (length xs - 1) (drop 1 xs)
item_and_rest {A} [] x some is = absurd (omega arith)
item_and_rest {A} (y ∷ ys) x some is =
    let count : length (y ∷ ys) - 1 ≡ length ys = omega arith in
    ap (λ (z : A). z ∷ ys) (sym is) ∙ ap (λ (zs : List A). x ∷ zs) (sym (ap (λ (n : ℕ). take n ys) count ∙ take-length ys))

none_left : {A : Type 0} (xs : List A) → length xs < 1 → xs ≡ []
none_left [] few = refl
none_left (x ∷ xs) few = absurd (omega arith)

-- what the left ones add to the bytes now makes what all add to those before, and all are valid where the left ones are
pub record WrittenUpTo {A : Type 0} (spelling : A → List ℕ) (IsValid : A → Type 0) (before now : List ℕ) (all left : List A) : Type 0 where
  pub text : now ++ encode_utf8_all (flat_map spelling left) ≡ before ++ encode_utf8_all (flat_map spelling all)
  pub valid : AllByRecursion IsValid left → AllByRecursion IsValid all

written_on : {A : Type 0} (spelling : A → List ℕ) (IsValid : A → Type 0) (before now after : List ℕ) (all left rest : List A) (x : A)
    → WrittenUpTo spelling IsValid before now all left → left ≡ x ∷ rest → Adds now after (spelling x) → IsValid x → WrittenUpTo spelling IsValid before after all rest
written_on {A} spelling IsValid before now after all left rest x w e a v = record {
  text = ap (λ (xs : List ℕ). xs ++ encode_utf8_all (flat_map spelling rest)) a.bytes
      ∙ append_assoc now (encode_utf8_all (spelling x)) (encode_utf8_all (flat_map spelling rest))
      ∙ ap (λ (xs : List ℕ). now ++ xs) (sym (encodes-append (spelling x) (flat_map spelling rest)))
      ∙ ap (λ (xs : List A). now ++ encode_utf8_all (flat_map spelling xs)) (sym e)
      ∙ w.text;
  valid = λ vs. w.valid (rw e (v, vs));
}

pub written_next : {A : Type 0} (spelling : A → List ℕ) (IsValid : A → Type 0) (before now after : List ℕ) (all left : List A) (x : A)
    → WrittenUpTo spelling IsValid before now all left → 1 ≤ length left → x ≡ get_or left 0 x → Adds now after (spelling x) → IsValid x
    → WrittenUpTo spelling IsValid before after all (take (length left - 1) (drop 1 left))
written_next spelling IsValid before now after all left x w some is a v =
    written_on spelling IsValid before now after all left (take (length left - 1) (drop 1 left)) x w (item_and_rest left x some is) a v

-- integers

decimal_bytes : (n : ℕ) → n < 10 ^ 64 → encode_utf8_all (decimal n) ≡ decimal n
decimal_bytes n h = encodes-IsAscii (decimal n) (IsAscii-decimal_wide n h)

signed_bytes : (z : ℤ) → mag z < 2 ^ 128 → encode_utf8_all (signed_decimal z) ≡ signed_decimal z
signed_bytes (pos n) h = decimal_bytes n (omega arith)
signed_bytes (negsuc n) h = ap₂ (λ (xs ys : List ℕ). xs ++ ys) (encode_ascii 45 (omega arith)) (decimal_bytes (suc n) (omega arith))

pub adds_integer : (before after : List ℕ) (z : ℤ) → FitsSigned w128 z → after ≡ before ++ signed_decimal (to_z w128 (of_z w128 z)) → Adds before after (signed_numeral z)
adds_integer before after z fits f =
    let small : mag z < 2 ^ 128 = omega (arith, ints, fits) in
    subst (λ (xs : List ℕ). Adds before after xs) (sym (signed_numeral_decimal z small))
    record { bytes = f ∙ ap (λ (x : ℤ). before ++ signed_decimal x) (to_z-of_z w128 z fits) ∙ ap (λ (xs : List ℕ). before ++ xs) (sym (signed_bytes z small)) }

-- elements

elements_split : (s : Scalar) (ss : List Scalar) → canonical_elements (s ∷ ss) ≡ canonical_scalar s ++ flat_map further_element ss
elements_split s [] = sym (append-nil (canonical_scalar s))
elements_split s (t ∷ ss) =
    append_assoc (canonical_scalar s) (codes ", ") (canonical_elements (t ∷ ss))
    ∙ ap (λ (xs : List ℕ). canonical_scalar s ++ (codes ", " ++ xs)) (elements_split t ss)
    ∙ ap (λ (xs : List ℕ). canonical_scalar s ++ xs) (sym (append_assoc (codes ", ") (canonical_scalar t) (flat_map further_element ss)))

pub adds_elements : (before between after : List ℕ) (all : List Scalar) (s : Scalar) → 1 ≤ length all → s ≡ get_or all 0 s
    → Adds before between (canonical_scalar s) → Adds between after (flat_map further_element (take (length all - 1) (drop 1 all))) → Adds before after (canonical_elements all)
adds_elements before between after all s some is a b =
    let split = item_and_rest all s some is in
    subst (λ (xs : List ℕ). Adds before after xs)
    (sym (ap canonical_elements split ∙ elements_split s (take (length all - 1) (drop 1 all))))
    (adds_join _ _ _ _ _ a b)
