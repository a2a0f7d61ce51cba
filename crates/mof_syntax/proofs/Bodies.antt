-- Facts on encoded characters.
use Rattle.std.proofs.Common.{◌≡◌, ◌<◌, ◌+◌, ◌-◌, ℕ, Bool, true, false, ◌&&◌, List, [], ◌∷◌, ◌++◌, length, take, drop, nat_lt, cond, ◌/◌, ◌%◌, refl, sym, ap, subst, ◌∙◌, ◌⊎◌, inl, inr, IfOk, IfErr, Result, Ok, Err, append_assoc, length-append, arith}
use Rattle.std.proofs.lemmas.List.{take_at, drop_at, append-nil}
use Rattle.std.proofs.Math.Seq.{take-append-add, drop-append-add}
use Rattle.std.proofs.lemmas.Grind.{flat_map-append, common_steps}
use Rattle.std.proofs.Math.Seq.{take-add}
use Rattle.std.proofs.lemmas.Str.{encode_ascii, encodes_same, encodes-chars, chars-nil, chars-append, chars_past_char, IsUtf8-append, IsUtf8-encode, length-encode, len_utf8_bounds}
use Rattle.std.specs.Prelude.{encode_utf8, encode_utf8_all, IsUtf8}
use Rattle.std.specs.Char.{IsScalar}
use Rattle.std.specs.Str.{all_scalars, chars, IsValidUpTo}
use Rattle.std.specs.List.{flat_map}
use lib.Utf8.{scalar}
use Rattle.mof_syntax.specs.declared.text_error.TextError.{TextError}
use Rattle.mof_syntax.specs.declared.text_error.TextError.TheVariants.{TextFault, Memory}
use Rattle.mof_syntax.specs.declared.encoding.Encoding.{Encoding}
use Rattle.mof_syntax.specs.declared.encoding.Encoding.TheVariants.{Utf8, Utf8Marked, Utf16}
use Rattle.mof_syntax.specs.declared.encoding.ByteOrder.{ByteOrder}
use Rattle.mof_syntax.specs.declared.encoding.ByteOrder.TheVariants.{LittleEndian, BigEndian}
use Rattle.mof_syntax.specs.Encodings.{unit_bytes, char_bytes, body_bytes, mark_of, encoding_of, encoded, Chars, IsTextFault, StartsNoChar, RefusesBytes, HasUtf16Mark, IsRestOf}
use Rattle.mof_syntax.specs.Decoding.{RefusesBody, IsBody, StartsChar, IsBodyFault}

-- UTF-8

pub body_bytes-utf8 : (cs : List ℕ) → body_bytes Utf8 cs ≡ encode_utf8_all cs
body_bytes-utf8 [] = refl
body_bytes-utf8 (c ∷ cs) = ap (λ bs. encode_utf8 c ++ bs) (body_bytes-utf8 cs)

pub IsBody-from_utf8 : (body chars : List ℕ) → IsUtf8 body → encode_utf8_all chars ≡ body → IsBody Utf8 body chars
IsBody-from_utf8 body chars u e =
    let same : chars ≡ u.0 = encodes_same chars u.0 (e ∙ sym u.1.1) in
    record {
      scalars = rw same u.1.0;
      spelled = sym e ∙ sym (body_bytes-utf8 chars);
    }

pub IsBody-from_str : (body text : List ℕ) → text ≡ body → IsUtf8 body → IsBody Utf8 body (chars text)
IsBody-from_str body text is u = IsBody-from_utf8 body (chars text) u (encodes-chars text (subst IsUtf8 (sym is) u) ∙ is)

no_char-after : (body : List ℕ) (n c : ℕ) (rest : List ℕ) → IsValidUpTo body n → IsScalar c → drop n body ≡ encode_utf8 c ++ rest → ⊥
no_char-after body n c rest v s e =
    let len : length (encode_utf8 c) ≡ length (encode_utf8 c) = refl in
    let more : take (length (encode_utf8 c)) (drop n body) ≡ encode_utf8 c = rw e (take_at (encode_utf8 c) rest (length (encode_utf8 c)) refl) in
    let whole : take (n + length (encode_utf8 c)) body ≡ take n body ++ encode_utf8 c = take-add n (length (encode_utf8 c)) body ∙ ap (λ bs. take n body ++ bs) more in
    let some : n < n + length (encode_utf8 c) = rw length-encode (omega (arith, len_utf8_bounds c)) in
    v.longest (n + length (encode_utf8 c)) some (rw whole (IsUtf8-append (take n body) (encode_utf8 c) v.front (IsUtf8-encode c s)))

pub IsBodyFault-from_utf8 : (body : List ℕ) (n : ℕ) → IsValidUpTo body n → IsBodyFault Utf8 body n
IsBodyFault-from_utf8 body n v = record {
  before = v.front.0;
  is = record { scalars = v.front.1.0; spelled = sym v.front.1.1 ∙ sym (body_bytes-utf8 v.front.0) };
  within = v.short;
  no_char = λ c rest s e. no_char-after body n c rest v s e;
}

-- UTF-16

pub and_left : (x y : Bool) → (x && y) ≡ true → x ≡ true
and_left true y h = refl
and_left false y h = h

pub and_right : (x y : Bool) → (x && y) ≡ true → y ≡ true
and_right true y h = h
and_right false y h = absurd cc

pub and_both : (x y : Bool) → x ≡ true → y ≡ true → (x && y) ≡ true
and_both x y h k = rw (h, k)

pub all_scalars-push : (cs : List ℕ) (c : ℕ) → all_scalars cs ≡ true → IsScalar c → all_scalars (cs ++ c ∷ []) ≡ true
all_scalars-push [] c a s = grind (arith, common_steps)
all_scalars-push (d ∷ cs) c a s = and_both (scalar d) (all_scalars (cs ++ c ∷ [])) (and_left (scalar d) (all_scalars cs) a) (all_scalars-push cs c (and_right (scalar d) (all_scalars cs) a) s)

-- what was read, and what is left, make the body
pub record ReadsBody (order : ByteOrder) (body chars left : List ℕ) : Type 0 where
  pub scalars : all_scalars chars ≡ true
  pub split : body ≡ body_bytes (Utf16 order) chars ++ left

pub ReadsBody-next : (order : ByteOrder) (body chars left rest : List ℕ) (c : ℕ) → ReadsBody order body chars left
    → StartsChar (Utf16 order) left c rest → ReadsBody order body (chars ++ c ∷ []) rest
ReadsBody-next order body chars left rest c r s = record {
  scalars = all_scalars-push chars c r.scalars s.scalar;
  split = r.split ∙ ap (λ bs. body_bytes (Utf16 order) chars ++ bs) s.spelled ∙ sym (append_assoc (body_bytes (Utf16 order) chars) (char_bytes (Utf16 order) c) rest)
      ∙ ap (λ bs. bs ++ rest) (sym (flat_map-append (char_bytes (Utf16 order)) chars (c ∷ []) ∙ ap (λ bs. body_bytes (Utf16 order) chars ++ bs) (append-nil (char_bytes (Utf16 order) c))));
}

-- a text and one more character
pub chars-push : (bytes : List ℕ) (c : ℕ) → IsUtf8 bytes → IsScalar c → chars (bytes ++ encode_utf8 c) ≡ chars bytes ++ c ∷ []
chars-push bytes c u s =
    let one : chars (encode_utf8 c) ≡ c ∷ [] = chars_past_char (encode_utf8 c) [] c (IsUtf8-encode c s) (sym (append-nil (encode_utf8 c))) ∙ ap (λ cs. c ∷ cs) chars-nil in
    chars-append bytes (encode_utf8 c) u ∙ ap (λ cs. chars bytes ++ cs) one

pub some_units : (order : ByteOrder) (b : Bool) (u v w : ℕ) → 0 < length (flat_map (unit_bytes order) (cond b (u ∷ []) (v ∷ w ∷ [])))
some_units LittleEndian true u v w = omega arith
some_units LittleEndian false u v w = omega arith
some_units BigEndian true u v w = omega arith
some_units BigEndian false u v w = omega arith

pub StartsChar-shorter : (order : ByteOrder) (bytes rest : List ℕ) (c : ℕ) → StartsChar (Utf16 order) bytes c rest → length rest < length bytes
StartsChar-shorter order bytes rest c s =
    let some : 0 < length (char_bytes (Utf16 order) c) = some_units order (nat_lt c 0x1_0000) c (0xD800 + (c - 0x1_0000) / 0x400) (0xDC00 + (c - 0x1_0000) % 0x400) in
    rw s.spelled (omega (arith, length-append (char_bytes (Utf16 order) c) rest))

pub IsBody-from_whole : (order : ByteOrder) (body chars left : List ℕ) → ReadsBody order body chars left → length left ≡ 0 → IsBody (Utf16 order) body chars
IsBody-from_whole order body chars [] r e = record { scalars = r.scalars; spelled = r.split ∙ append-nil (body_bytes (Utf16 order) chars) }
IsBody-from_whole order body chars (b ∷ left) r e = absurd (omega arith)

pub IsBodyFault-from_left : (order : ByteOrder) (body chars left : List ℕ) → ReadsBody order body chars left → 0 < length left
    → StartsNoChar (Utf16 order) left → IsBodyFault (Utf16 order) body (length body - length left)
IsBodyFault-from_left order body chars left r some none =
    let spelled = body_bytes (Utf16 order) chars in
    let sum : length body ≡ length spelled + length left = ap length r.split ∙ length-append spelled left in
    let at : length spelled ≡ length body - length left = omega arith in
    record {
      before = chars;
      is = record { scalars = r.scalars; spelled = rw r.split (take_at spelled left (length (spelled ++ left) - length left) (omega (arith, length-append spelled left))) };
      within = omega arith;
      no_char = subst (StartsNoChar (Utf16 order)) (sym (rw r.split (drop_at spelled left (length (spelled ++ left) - length left) (omega (arith, length-append spelled left))))) none;
    }

-- the mark and the body

pub Chars-from_body : (bytes body chars : List ℕ) (e : Encoding) → e ≡ encoding_of bytes → bytes ≡ mark_of e ++ body → IsBody e body chars → Chars bytes chars
Chars-from_body bytes body chars e is split b = record {
  scalars = b.scalars;
  spelled = subst (λ (f : Encoding). bytes ≡ encoded f chars) is (split ∙ ap (λ bs. mark_of e ++ bs) b.spelled);
}

pub fault_after : (bytes body : List ℕ) (n : ℕ) (e : Encoding) → e ≡ encoding_of bytes → bytes ≡ mark_of e ++ body → IsBodyFault e body n
    → IsTextFault bytes (length (mark_of e) + n)
fault_after bytes body n e is split f =
    let length_is : length bytes ≡ length (mark_of e) + length body = ap length split ∙ length-append (mark_of e) body in
    record {
      before = f.before;
      scalars = f.is.scalars;
      spelled = subst (λ (g : Encoding). take (length (mark_of e) + n) bytes ≡ encoded g f.before) is
          (ap (take (length (mark_of e) + n)) split ∙ take-append-add (mark_of e) body n ∙ ap (λ bs. mark_of e ++ bs) f.is.spelled);
      within = rw length_is (omega (arith, f.within));
      no_char = subst (λ (g : Encoding). StartsNoChar g (drop (length (mark_of e) + n) bytes)) is
          (subst (StartsNoChar e) (sym (ap (drop (length (mark_of e) + n)) split ∙ drop-append-add (mark_of e) body n)) f.no_char);
    }

pub RefusesBytes-from_body : (bytes body : List ℕ) (marked : ℕ) (e : Encoding) (error : TextError) → e ≡ encoding_of bytes → bytes ≡ mark_of e ++ body
    → marked ≡ length bytes - length body → RefusesBody e body marked error → RefusesBytes bytes error
RefusesBytes-from_body bytes body marked e (TextFault at) is split m r =
    let length_is : length bytes ≡ length (mark_of e) + length body = ap length split ∙ length-append (mark_of e) body in
    let place : length (mark_of e) + r.0 ≡ at = omega (arith, r.1) in
    subst (IsTextFault bytes) place (fault_after bytes body r.0 e is split r.2)
RefusesBytes-from_body bytes body marked e Memory is split m r = tt

-- the answers of the two readers of bodies

pub refused_after_utf16 : {T : Type 0} (bytes body : List ℕ) (marked : ℕ) (order : ByteOrder) (e : Encoding) (r : Result T TextError) → e ≡ Utf16 order → e ≡ encoding_of bytes
    → bytes ≡ mark_of e ++ body → marked ≡ length bytes - length body → IfErr r (λ error. RefusesBody (Utf16 order) body marked error) → IfErr r (λ error. RefusesBytes bytes error)
refused_after_utf16 bytes body marked order e (Ok chars) one is split m h = tt
refused_after_utf16 bytes body marked order e (Err error) one is split m h =
    RefusesBytes-from_body bytes body marked e error is split m (subst (λ (f : Encoding). RefusesBody f body marked error) (sym one) h)

-- UTF-8 with a mark is UTF-8 after it

marked_body : (body chars : List ℕ) → IsBody Utf8 body chars → IsBody Utf8Marked body chars
marked_body body chars b = record { scalars = b.scalars; spelled = b.spelled }

marked_refusal : (body : List ℕ) (marked : ℕ) (error : TextError) → RefusesBody Utf8 body marked error → RefusesBody Utf8Marked body marked error
marked_refusal body marked (TextFault at) r = (r.0, r.1, record { before = r.2.before; is = marked_body _ _ r.2.is; within = r.2.within; no_char = r.2.no_char })
marked_refusal body marked Memory r = r

pub ok_after_utf8 : {T : Type 0} (view : T → List ℕ) (bytes body : List ℕ) (e : Encoding) (r : Result T TextError) → (e ≡ Utf8) ⊎ (e ≡ Utf8Marked) → e ≡ encoding_of bytes
    → bytes ≡ mark_of e ++ body → IfOk r (λ t. IsBody Utf8 body (view t)) → IfOk r (λ t. Chars bytes (view t))
ok_after_utf8 view bytes body e (Err error) one is split h = tt
ok_after_utf8 view bytes body e (Ok t) one is split h = Chars-from_body bytes body (view t) e is split (either one)
  where
    either : (e ≡ Utf8) ⊎ (e ≡ Utf8Marked) → IsBody e body (view t)
    either (inl u) = subst (λ (f : Encoding). IsBody f body (view t)) (sym u) h
    either (inr m) = subst (λ (f : Encoding). IsBody f body (view t)) (sym m) (marked_body body (view t) h)

pub refused_after_utf8 : {T : Type 0} (bytes body : List ℕ) (marked : ℕ) (e : Encoding) (r : Result T TextError) → (e ≡ Utf8) ⊎ (e ≡ Utf8Marked) → e ≡ encoding_of bytes
    → bytes ≡ mark_of e ++ body → marked ≡ length bytes - length body → IfErr r (λ error. RefusesBody Utf8 body marked error) → IfErr r (λ error. RefusesBytes bytes error)
refused_after_utf8 bytes body marked e (Ok chars) one is split m h = tt
refused_after_utf8 bytes body marked e (Err error) one is split m h = RefusesBytes-from_body bytes body marked e error is split m (either one)
  where
    either : (e ≡ Utf8) ⊎ (e ≡ Utf8Marked) → RefusesBody e body marked error
    either (inl u) = subst (λ (f : Encoding). RefusesBody f body marked error) (sym u) h
    either (inr n) = subst (λ (f : Encoding). RefusesBody f body marked error) (sym n) (marked_refusal body marked error h)

-- memory runs out only where UTF-16 is rewritten, and UTF-8 is borrowed

pub never_memory : {T : Type 0} (body : List ℕ) (marked : ℕ) (r : Result T TextError) → IfErr r (λ error. RefusesBody Utf8 body marked error) → r ≡ Err Memory → ⊥
never_memory {T} body marked r h e = subst (λ (x : Result T TextError). IfErr x (λ error. RefusesBody Utf8 body marked error)) e h

pub has_utf16_mark : (bytes body : List ℕ) (order : ByteOrder) (e : Encoding) → e ≡ Utf16 order → bytes ≡ mark_of e ++ body → HasUtf16Mark bytes
has_utf16_mark bytes body order e one split = (order, body, subst (λ (f : Encoding). bytes ≡ mark_of f ++ body) one split)

pub rest_of_bytes : {T : Type 0} (borrowed : T → Type 0) (view : T → List ℕ) (bytes body : List ℕ) (e : Encoding) (r : Result T TextError) → e ≡ encoding_of bytes
    → bytes ≡ mark_of e ++ body → IfOk r (λ text. view text ≡ body) → IfOk r (λ text. borrowed text → IsRestOf bytes (view text))
rest_of_bytes borrowed view bytes body e (Err error) is split h = tt
rest_of_bytes borrowed view bytes body e (Ok text) is split h = λ _. subst (λ (f : Encoding). bytes ≡ mark_of f ++ view text) is (split ∙ ap (λ bs. mark_of e ++ bs) (sym h))

pub no_case : {T : Type 0} (case : T → Type 0) (then : T → Type 0) (r : Result T TextError) → IfOk r (λ text. case text → ⊥) → IfOk r (λ text. case text → then text)
no_case case then (Err error) h = tt
no_case case then (Ok text) h = λ is. absurd (h is)

pub each_case : {T : Type 0} (case : T → Type 0) (fact : Type 0) (r : Result T TextError) → fact → IfOk r (λ text. case text → fact)
each_case case fact (Err error) is = tt
each_case case fact (Ok text) is = λ _. is

-- characters in UTF-8 without a mark

pub Chars-nothing : Chars [] []
Chars-nothing = record { scalars = refl; spelled = refl }

-- a text that begins with `i` has no mark
unmarked : (cs : List ℕ) → encoding_of (encode_utf8_all (105 ∷ cs)) ≡ Utf8
unmarked cs = ap (λ bs. encoding_of (bs ++ encode_utf8_all cs)) (encode_ascii 105 (omega arith))

pub Chars-from_i : (cs : List ℕ) → all_scalars (105 ∷ cs) ≡ true → Chars (encode_utf8_all (105 ∷ cs)) (105 ∷ cs)
Chars-from_i cs e = record {
  scalars = e;
  spelled = subst (λ (f : Encoding). encode_utf8_all (105 ∷ cs) ≡ encoded f (105 ∷ cs)) (sym (unmarked cs)) (sym (body_bytes-utf8 (105 ∷ cs)));
}
