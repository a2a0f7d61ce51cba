-- Bytes are characters in one way, and go wrong at one place.
use Rattle.std.proofs.Common.{◌≡◌, ◌≢◌, ◌<◌, ◌≤◌, ◌+◌, ◌-◌, ◌/◌, ◌%◌, ℕ, Bool, true, false, cond, nat_lt, ◌⊎◌, Result, Ok, Err, IfErr, List, [], ◌∷◌, ◌++◌, length, drop, refl, sym, ap, ◌∙◌, append_assoc, length-append, length-drop, arith}
use Rattle.std.proofs.lemmas.Bool.Decides.{nat_tests}
use Rattle.std.proofs.lemmas.List.{append_cancel_left, append-nil, take-append-drop}
use Rattle.std.proofs.lemmas.Str.{encode_same, length-encode, len_utf8_bounds}
use Rattle.std.specs.Char.{IsScalar}
use Rattle.std.specs.Str.{all_scalars}
use Rattle.std.specs.List.{flat_map}
use lib.Utf8.{scalar, scalar_cases}
use Rattle.mof_syntax.specs.declared.encoding.Encoding.{Encoding}
use Rattle.mof_syntax.specs.declared.encoding.Encoding.TheVariants.{Utf8, Utf8Marked, Utf16}
use Rattle.mof_syntax.specs.declared.encoding.ByteOrder.{ByteOrder}
use Rattle.mof_syntax.specs.declared.encoding.ByteOrder.TheVariants.{LittleEndian, BigEndian}
use Rattle.mof_syntax.specs.Encodings.{unit_bytes, char_bytes, body_bytes, mark_of, encoding_of, Chars, IsTextFault, StartsNoChar, RefusesBytes}
use Rattle.mof_syntax.specs.declared.text_error.TextError.{TextError}
use Rattle.mof_syntax.specs.declared.text_error.TextError.TheVariants.{TextFault, Memory}
use Rattle.mof_syntax.proofs.Lists.{tail_same}
use Rattle.mof_syntax.proofs.Bodies.{some_units, and_left, and_right}

-- units of UTF-16

head_same : (u v : ℕ) (r s : List ℕ) → (u ∷ r) ≡ (v ∷ s) → u ≡ v
head_same u v r s e = cc

two_parts : (u v : ℕ) → u % 256 ≡ v % 256 → u / 256 ≡ v / 256 → u ≡ v
two_parts u v e f = omega arith

unit_same : (order : ByteOrder) (u v : ℕ) (r s : List ℕ)
    → unit_bytes order u ++ r ≡ unit_bytes order v ++ s → (u ≡ v) × (r ≡ s)
unit_same LittleEndian u v r s e =
    let least : u % 256 ≡ v % 256 = head_same (u % 256) (v % 256) (u / 256 ∷ r) (v / 256 ∷ s) e in
    let others : (u / 256 ∷ r) ≡ (v / 256 ∷ s) = tail_same (u % 256) (v % 256) (u / 256 ∷ r) (v / 256 ∷ s) e in
    (two_parts u v least (head_same (u / 256) (v / 256) r s others), tail_same (u / 256) (v / 256) r s others)
unit_same BigEndian u v r s e =
    let greatest : u / 256 ≡ v / 256 = head_same (u / 256) (v / 256) (u % 256 ∷ r) (v % 256 ∷ s) e in
    let others : (u % 256 ∷ r) ≡ (v % 256 ∷ s) = tail_same (u / 256) (v / 256) (u % 256 ∷ r) (v % 256 ∷ s) e in
    (two_parts u v (head_same (u % 256) (v % 256) r s others) greatest, tail_same (u % 256) (v % 256) r s others)

pair_same : (order : ByteOrder) (u v x y : ℕ) (r s : List ℕ)
    → flat_map (unit_bytes order) (u ∷ v ∷ []) ++ r ≡ flat_map (unit_bytes order) (x ∷ y ∷ []) ++ s
    → (u ≡ x) × (v ≡ y) × (r ≡ s)
pair_same LittleEndian u v x y r s e =
    let first = unit_same LittleEndian u x (unit_bytes LittleEndian v ++ r) (unit_bytes LittleEndian y ++ s) e in
    let second = unit_same LittleEndian v y r s first.1 in
    (first.0, second.0, second.1)
pair_same BigEndian u v x y r s e =
    let first = unit_same BigEndian u x (unit_bytes BigEndian v ++ r) (unit_bytes BigEndian y ++ s) e in
    let second = unit_same BigEndian v y r s first.1 in
    (first.0, second.0, second.1)

-- the first unit alone
lead_same : (order : ByteOrder) (u x y : ℕ) (r s : List ℕ)
    → flat_map (unit_bytes order) (u ∷ []) ++ r ≡ flat_map (unit_bytes order) (x ∷ y ∷ []) ++ s → u ≡ x
lead_same LittleEndian u x y r s e = (unit_same LittleEndian u x r (unit_bytes LittleEndian y ++ s) e).0
lead_same BigEndian u x y r s e = (unit_same BigEndian u x r (unit_bytes BigEndian y ++ s) e).0

one_same : (order : ByteOrder) (u x : ℕ) (r s : List ℕ)
    → flat_map (unit_bytes order) (u ∷ []) ++ r ≡ flat_map (unit_bytes order) (x ∷ []) ++ s → (u ≡ x) × (r ≡ s)
one_same LittleEndian u x r s e = unit_same LittleEndian u x r s e
one_same BigEndian u x r s e = unit_same BigEndian u x r s e

-- the two units of a character past the 65,536 of one unit
abbrev high_of : ℕ → ℕ
high_of c = 0xD800 + (c - 0x1_0000) / 0x400

abbrev low_of : ℕ → ℕ
low_of c = 0xDC00 + (c - 0x1_0000) % 0x400

-- a character that is one unit is no surrogate, and the first unit of a pair is one
no_lead : (c d : ℕ) → IsScalar c → IsScalar d → c ≡ high_of d → ⊥
no_lead c d one other e =
    let small : (c < 0xD800) ⊎ ((0xE000 ≤ c) × (c < 0x11_0000)) = scalar_cases c one in
    let bounded : (d < 0xD800) ⊎ ((0xE000 ≤ d) × (d < 0x11_0000)) = scalar_cases d other in
    grind arith

pairs_whole : (c d : ℕ) → 0x1_0000 ≤ c → 0x1_0000 ≤ d → high_of c ≡ high_of d → low_of c ≡ low_of d → c ≡ d
pairs_whole c d h k e f = omega arith

large : (c : ℕ) → nat_lt c 0x1_0000 ≡ false → 0x1_0000 ≤ c
large c h = grind (arith, nat_tests)

-- characters

-- the units, where the test of the character's size gave so
units_of : Bool → ℕ → List ℕ
units_of b c = cond b (c ∷ []) (high_of c ∷ low_of c ∷ [])

units_same : (order : ByteOrder) (a b : Bool) (c d : ℕ) (r s : List ℕ)
    → nat_lt c 0x1_0000 ≡ a → nat_lt d 0x1_0000 ≡ b → IsScalar c → IsScalar d
    → flat_map (unit_bytes order) (units_of a c) ++ r ≡ flat_map (unit_bytes order) (units_of b d) ++ s
    → (c ≡ d) × (r ≡ s)
unfolding units_of
units_same order true true c d r s f g one other e = one_same order c d r s e
units_same order true false c d r s f g one other e =
    absurd (no_lead c d one other (lead_same order c (high_of d) (low_of d) r s e))
units_same order false true c d r s f g one other e =
    absurd (no_lead d c other one (lead_same order d (high_of c) (low_of c) s r (sym e)))
units_same order false false c d r s f g one other e =
    let same = pair_same order (high_of c) (low_of c) (high_of d) (low_of d) r s e in
    (pairs_whole c d (large c f) (large d g) same.0 same.1, same.2)

char_same : (encoding : Encoding) (c d : ℕ) (r s : List ℕ)
    → IsScalar c → IsScalar d → char_bytes encoding c ++ r ≡ char_bytes encoding d ++ s → (c ≡ d) × (r ≡ s)
unfolding units_of
char_same Utf8 c d r s one other e = encode_same c d r s e
char_same Utf8Marked c d r s one other e = encode_same c d r s e
char_same (Utf16 order) c d r s one other e =
    units_same order (nat_lt c 0x1_0000) (nat_lt d 0x1_0000) c d r s refl refl one other e

pub some_bytes : (encoding : Encoding) (c : ℕ) → 0 < length (char_bytes encoding c)
some_bytes Utf8 c = rw length-encode (omega (arith, len_utf8_bounds c))
some_bytes Utf8Marked c = rw length-encode (omega (arith, len_utf8_bounds c))
some_bytes (Utf16 order) c = some_units order (nat_lt c 0x1_0000) c (high_of c) (low_of c)

-- no character begins where nothing is left
nothing_starts : (encoding : Encoding) → StartsNoChar encoding []
nothing_starts encoding c rest one e =
    let lengths : length (char_bytes encoding c) + length rest ≡ 0 =
    sym (ap length e ∙ length-append (char_bytes encoding c) rest) in
    omega (arith, some_bytes encoding c)

-- characters that no further one follows are one list, with one rest
runs_same : (e : Encoding) (a b r s : List ℕ) → all_scalars a ≡ true → all_scalars b ≡ true
    → StartsNoChar e r → StartsNoChar e s → body_bytes e a ++ r ≡ body_bytes e b ++ s → (a ≡ b) × (r ≡ s)
runs_same e [] [] r s one other ends stops is = (refl, is)
runs_same e [] (d ∷ ds) r s one other ends stops is =
    absurd (ends d (body_bytes e ds ++ s) (and_left (scalar d) (all_scalars ds) other)
    (is ∙ append_assoc (char_bytes e d) (body_bytes e ds) s))
runs_same e (c ∷ cs) [] r s one other ends stops is =
    absurd (stops c (body_bytes e cs ++ r) (and_left (scalar c) (all_scalars cs) one)
    (sym is ∙ append_assoc (char_bytes e c) (body_bytes e cs) r))
runs_same e (c ∷ cs) (d ∷ ds) r s one other ends stops is =
    let first = char_same e c d (body_bytes e cs ++ r) (body_bytes e ds ++ s)
    (and_left (scalar c) (all_scalars cs) one) (and_left (scalar d) (all_scalars ds) other)
    (sym (append_assoc (char_bytes e c) (body_bytes e cs) r) ∙ is
    ∙ append_assoc (char_bytes e d) (body_bytes e ds) s) in
    let others = runs_same e cs ds r s (and_right (scalar c) (all_scalars cs) one)
    (and_right (scalar d) (all_scalars ds) other) ends stops first.1 in
    (cons_same c d cs ds first.0 others.0, others.1)
  where
    cons_same : (c d : ℕ) (cs ds : List ℕ) → c ≡ d → cs ≡ ds → (c ∷ cs) ≡ (d ∷ ds)
    cons_same c d cs ds e f = cc

-- texts

-- the bytes are the mark, these characters, and a rest that no character begins
record Divides (bytes chars rest : List ℕ) : Type 0 where
  scalars : all_scalars chars ≡ true
  ends : StartsNoChar (encoding_of bytes) rest
  split : bytes ≡ mark_of (encoding_of bytes) ++ (body_bytes (encoding_of bytes) chars ++ rest)

divides_same : (bytes a b r s : List ℕ) → Divides bytes a r → Divides bytes b s → (a ≡ b) × (r ≡ s)
divides_same bytes a b r s f g =
    let e = encoding_of bytes in
    runs_same e a b r s f.scalars g.scalars f.ends g.ends
    (append_cancel_left (mark_of e) (body_bytes e a ++ r) (body_bytes e b ++ s) (sym f.split ∙ g.split))

whole_divides : (bytes text : List ℕ) → Chars bytes text → Divides bytes text []
whole_divides bytes text c =
    let e = encoding_of bytes in
    record {
      scalars = c.scalars;
      ends = nothing_starts e;
      split = c.spelled ∙ ap (λ bs. mark_of e ++ bs) (sym (append-nil (body_bytes e text)));
    }

fault_divides : (bytes : List ℕ) (at : ℕ) → (f : IsTextFault bytes at) → Divides bytes f.before (drop at bytes)
fault_divides bytes at f =
    let e = encoding_of bytes in
    record {
      scalars = f.scalars;
      ends = f.no_char;
      split = sym (take-append-drop at bytes) ∙ ap (λ bs. bs ++ drop at bytes) f.spelled
          ∙ append_assoc (mark_of e) (body_bytes e f.before) (drop at bytes);
    }

pub one_text : (bytes a b : List ℕ) → Chars bytes a → Chars bytes b → a ≡ b
one_text bytes a b c d = (divides_same bytes a b [] [] (whole_divides bytes a c) (whole_divides bytes b d)).0

pub no_fault : (bytes text : List ℕ) (at : ℕ) → Chars bytes text → IsTextFault bytes at → ⊥
no_fault bytes text at c f =
    let rests = (divides_same bytes text f.before [] (drop at bytes)
    (whole_divides bytes text c) (fault_divides bytes at f)).1 in
    let lengths : 0 ≡ length bytes - at = ap length rests ∙ length-drop at bytes in
    omega (arith, f.within)

pub one_fault : (bytes : List ℕ) (m n : ℕ) → IsTextFault bytes m → IsTextFault bytes n → m ≡ n
one_fault bytes m n f g =
    let rests = (divides_same bytes f.before g.before (drop m bytes) (drop n bytes)
    (fault_divides bytes m f) (fault_divides bytes n g)).1 in
    let lengths : length bytes - m ≡ length bytes - n =
    sym (length-drop m bytes) ∙ ap length rests ∙ length-drop n bytes in
    omega (arith, f.within, g.within)

-- bytes that are refused, out of memory aside, are no characters
pub only_refused : {T : Type 0} (bytes : List ℕ) (r : Result T TextError) → IfErr r (λ e. RefusesBytes bytes e)
    → IfErr r (λ e. e ≢ Memory → (chars : List ℕ) → Chars bytes chars → ⊥)
only_refused bytes (Ok t) h = tt
only_refused bytes (Err (TextFault at)) h = λ other chars c. no_fault bytes chars at c h
only_refused bytes (Err Memory) h = λ other chars c. other refl
