-- Truth values, texts and bytes.
use Rattle.std.proofs.Common.{◌≡◌, ℕ, ◌+◌, ◌^◌, ◌<◌, ◌≤◌, ◌*◌, Bool, true, false, List, [], ◌∷◌, ◌++◌, length, take, drop, Result, Ok, Err, refl, sym, ap, ap₂, subst, ◌∙◌, arith, length-append, append_assoc}
use Rattle.std.specs.Prelude.{encode_utf8_all, IfOk, IfErr}
use Rattle.std.specs.Int.{w16, w32, w64, w128}
use Rattle.std.specs.Str.{IsUtf8, all_scalars}
use Rattle.std.proofs.lemmas.Str.{encodes_same}
use Rattle.std.proofs.lemmas.List.{take-append-drop}
use Rattle.std.proofs.lemmas.List.Elements.{All-head, All-tail}
use Rattle.std.specs.Char.{IsScalar}
use Rattle.std.specs.Prelude.{All, ◌&&◌}
use Rattle.store_fields.specs.declared.error.FieldError.{FieldError}
use Rattle.store_fields.specs.declared.error.FieldError.TheVariants.{Wrong, Memory}
use Rattle.store_fields.specs.Fields.{bytes_of_number, bytes_of_byte, bytes_of_flag, bytes_of_text, bytes_of_blob, IsNumber, IsByte, IsFlag, IsText, IsBlob}
use Rattle.store_fields.specs.Reading.{Reads, IsUnique}
use Rattle.store_fields.specs.declared.limits.TheConstants.{MAX_TEXT}
use Rattle.store_fields.proofs.Numbers.{same_halves as after_front, wide16, wide32, wide64, number_unique}
use Rattle.store_fields.proofs.Composing.{taken, wrong, refused, out_of_memory}

pub byte_unique : IsUnique bytes_of_byte IsByte
byte_unique x y r s small less e = grind (arith, e)

pub flag_unique : IsUnique bytes_of_flag IsFlag
flag_unique true true r s _ _ e = grind (arith, e)
flag_unique true false r s _ _ e = grind (arith, e)
flag_unique false true r s _ _ e = grind (arith, e)
flag_unique false false r s _ _ e = grind (arith, e)

-- where no byte stands, no truth value does
pub flag_missing : (before after end : List ℕ) (e : FieldError) → Reads bytes_of_byte IsByte before end (Err e) → Reads bytes_of_flag IsFlag before after (Err e)
flag_missing before after end e reads = refused bytes_of_flag IsFlag bytes_of_byte IsByte before after before end e reads stands
  where
    stands : (flag : Bool) (rest : List ℕ) → IsFlag flag → before ≡ bytes_of_flag flag ++ rest → (x : ℕ) × ((more : List ℕ) × (IsByte x × (before ≡ bytes_of_byte x ++ more)))
    stands true rest range is = (1, (rest, (omega arith, is)))
    stands false rest range is = (0, (rest, (omega arith, is)))

pub blob_unique : IsUnique bytes_of_blob IsBlob
blob_unique x y r s small less e =
    let long = number_unique w32 wide32 (length x) (length y) (x ++ r) (y ++ s) small less (sym (append_assoc (bytes_of_number w32 (length x)) x r) ∙ e ∙ append_assoc (bytes_of_number w32 (length y)) y s) in
    after_front x y r s long.0 long.1

pub text_unique : (limit : ℕ) → limit ≤ MAX_TEXT → IsUnique bytes_of_text (IsText limit)
text_unique limit most x y r s range other e =
    let a = encode_utf8_all x in
    let b = encode_utf8_all y in
    let long = number_unique w16 wide16 (length a) (length b) (a ++ r) (b ++ s) (omega (arith, range.fits)) (omega (arith, other.fits)) (sym (append_assoc (bytes_of_number w16 (length a)) a r) ∙ e ∙ append_assoc (bytes_of_number w16 (length b)) b s) in
    let both = after_front a b r s long.0 long.1 in
    (encodes_same x y both.0, both.1)

-- the bytes that were decoded are those after the length
pub text_read : (limit n : ℕ) (before same_halves front after : List ℕ) (result : Result (List ℕ) FieldError) → limit ≤ MAX_TEXT → n ≤ limit → Reads (bytes_of_number w16) (IsNumber w16) before same_halves (Ok n)
    → n ≤ length same_halves → front ≡ take n same_halves → after ≡ drop n same_halves → length front ≡ n
    → IfOk result (λ text. (all_scalars text ≡ true) × (encode_utf8_all text ≡ front)) → IfErr result (λ e. e ≡ Wrong → IsUtf8 front → ⊥)
    → Reads bytes_of_text (IsText limit) before after result
text_read limit n before same_halves front after (Ok text) most fits number within is rest long ok refuses =
    let parts : same_halves ≡ encode_utf8_all text ++ after = sym (take-append-drop n same_halves) ∙ ap (λ (l : List ℕ). l ++ drop n same_halves) (sym (ok.1 ∙ is)) ∙ ap (λ (l : List ℕ). encode_utf8_all text ++ l) (sym rest) in
    let size : length (encode_utf8_all text) ≡ n = ap length ok.1 ∙ long in
    let spelled : before ≡ bytes_of_text text ++ after =
    number.found.1 ∙ ap (λ (l : List ℕ). bytes_of_number w16 n ++ l) parts ∙ sym (append_assoc (bytes_of_number w16 n) (encode_utf8_all text) after)
    ∙ ap (λ (k : ℕ). (bytes_of_number w16 k ++ encode_utf8_all text) ++ after) (sym size) in
    taken bytes_of_text (IsText limit) before after text (text_unique limit most) (record { scalars = ok.0; fits = omega (arith, size, fits) }) spelled
text_read limit n before same_halves front after (Err Memory) most fits number within is rest long ok refuses = out_of_memory bytes_of_text (IsText limit) before after
text_read limit n before same_halves front after (Err Wrong) most fits number within is rest long ok refuses =
    wrong bytes_of_text (IsText limit) before after (λ text more range stands.
    let bytes = encode_utf8_all text in
    let read = number.only (length bytes) (bytes ++ more) (omega (arith, range.fits, most)) (stands ∙ append_assoc (bytes_of_number w16 (length bytes)) bytes more) in
    let same : front ≡ bytes = (after_front front bytes after more (long ∙ read.0) (sym (ap₂ (λ (a b : List ℕ). a ++ b) (sym is) (sym rest)) ∙ take-append-drop n same_halves ∙ read.1)).0 in
    refuses refl (text, (range.scalars, sym same)))

pub scalars_of : (chars : List ℕ) → All IsScalar chars → all_scalars chars ≡ true
scalars_of [] all = refl
scalars_of (c ∷ chars) all =
    ap (λ (b : Bool). b && all_scalars chars) (All-head IsScalar c chars all) ∙ scalars_of chars (All-tail IsScalar c chars all)
