-- Header lines that are written read back, and say how long the body is.
use Rattle.std.proofs.Common.{◌≡◌, ℕ, ◌+◌, ◌<◌, ◌≤◌, ◌^◌, List, [], ◌∷◌, ◌++◌, length, reverse, map, refl, ap, ap₂, ◌∙◌, arith, append_assoc, append-nil, Bool, true, false, not, ◌&&◌, ◌||◌, codes}
use Rattle.std.specs.Prelude.{Option, Some, Result, Ok, Err, All, if◌then◌else◌, nat_le, cond, count_by}
use Rattle.std.specs.List.{list_all, list_any, find, flat_map, fold}
use Rattle.std.specs.Fmt.{decimal}
use Rattle.std.specs.Char.{is_ascii_digit, digit_value}
use Rattle.std.specs.Str.Parse.{AllDigits, digits_value}
use Rattle.std.proofs.lemmas.Str.Parse.{IsNumeralModel}
use Rattle.std.proofs.lemmas.Fmt.{digits_value-decimal, digits_decimal, decimal_nonempty, length-decimal-le}
use Rattle.std.proofs.lemmas.List.Sums.{AllPass-from_list_all}
use Rattle.std.proofs.lemmas.List.Elements.{All-head, All-tail, All-cons, All-nil, All-weaker}
use Rattle.httparse.specs.Grammar.{Field, IsField, crlf, print_field, IsToken, is_token_byte, is_value_byte, is_ows, skip_ows, AllPass}
use Rattle.httparse.proofs.TrimLemmas.{trim_ows_space, AllPass-reverse}
use Rattle.http_frames.specs.declared.message.Header.{Header}
use Rattle.http_frames.specs.declared.framing.Framing.{Framing}
use Rattle.http_frames.specs.declared.framing.Framing.TheVariants.{Sized, Chunked}
use Rattle.http_frames.specs.declared.frame_error.FrameError.TheVariants.{Coding, Length, BodyTooLong}
use Rattle.http_frames.specs.declared.frame_error.FrameError.{FrameError}
use Rattle.http_frames.specs.Heads.{header_of}
use Rattle.http_frames.specs.Framing.{are_codings_known, are_lengths_sound, is_length, length_framing, sound_framing, stated_framing}
use Rattle.http_frames.specs.Headers.{is_same, is_named, has_named, count_named, all_named}
use Rattle.http_frames.specs.Writing.{header_text, length_line}
use Rattle.http_frames.specs.Sending.{IsPlainValue, IsPlainHeader, close_header, length_header}

-- ---- lines

abbrev pub field_of : Header → Field
field_of header = record { name = header.name; raw = 32 ∷ header.value; end = crlf }

pub fields_print : (headers : List Header) → flat_map print_field (map field_of headers) ≡ flat_map header_text headers
fields_print [] = refl
fields_print (h ∷ headers) = ap₂ (λ (a b : List ℕ). a ++ b) (regroup h.name h.value) (fields_print headers)
  where
    regroup : (a b : List ℕ) → a ++ 58 ∷ (32 ∷ b) ++ (13 ∷ 10 ∷ []) ≡ a ++ (58 ∷ 32 ∷ (b ++ (13 ∷ 10 ∷ [])))
    regroup a b = append_assoc a (58 ∷ 32 ∷ b) (13 ∷ 10 ∷ [])

field_back : (h : Header) → IsPlainHeader h → header_of (field_of h) ≡ h
field_back h plain = λ i. record { name = h.name; value = trim_ows_space h.value plain.value.front plain.value.back i }

pub fields_back : (headers : List Header) → All IsPlainHeader headers → map header_of (map field_of headers) ≡ headers
fields_back [] all = refl
fields_back (h ∷ headers) all =
    ap₂ (λ (a : Header) (b : List Header). a ∷ b) (field_back h (All-head IsPlainHeader h headers all))
    (fields_back headers (All-tail IsPlainHeader h headers all))

pub fields_valid : (headers : List Header) → All IsPlainHeader headers → All IsField (map field_of headers)
fields_valid [] all = All-nil IsField
fields_valid (h ∷ headers) all =
    let plain = All-head IsPlainHeader h headers all in
    All-cons IsField (field_of h) (map field_of headers)
    (record { name = plain.name; raw = All-cons (λ x. is_value_byte x ≡ true) 32 h.value refl plain.value.bytes })
    (fields_valid headers (All-tail IsPlainHeader h headers all))

-- ---- the framing that the lines say

pub own : IsNumeralModel (AllDigits 10) (digits_value 10)
own = record { to = λ ds h. h; from = λ ds h. h; same = λ ds h. refl }

digit_range : (c : ℕ) → digit_value c < 10 → is_ascii_digit c ≡ true
digit_range c small = grind (arith, small)

pub digits_pass : (ds : List ℕ) → AllDigits 10 ds → list_all is_ascii_digit ds ≡ true
digits_pass [] all = refl
digits_pass (c ∷ ds) all = ap₂ (λ (a b : Bool). a && b) (digit_range c all.0) (digits_pass ds all.1)

pub three : (a b c : Bool) → a ≡ true → b ≡ true → c ≡ true → (a && b && c) ≡ true
three a b c x y z = grind arith

decimal_length : (n : ℕ) → n < 10 ^ 10 → is_length (decimal n) ≡ true
decimal_length n few =
    let word : n < 2 ^ 64 = omega (arith, few) in
    let nonempty = decimal_nonempty n word in
    let some : nat_le 1 (length (decimal n)) ≡ true = grind (arith, nonempty) in
    let ten = length-decimal-le 10 n (omega arith) (omega (arith, few)) word in
    let short : nat_le (length (decimal n)) 10 ≡ true = grind (arith, ten) in
    three _ _ _ some short (digits_pass (decimal n) (digits_decimal own n word))

neither : (a b : Bool) → (a || b) ≡ false → (a ≡ false) × (b ≡ false)
neither a b e = grind arith

-- lines of other names in front do not count
count_front : (p : Header → Bool) (xs ys : List Header) → list_any p xs ≡ false → count_by p (xs ++ ys) ≡ count_by p ys
count_front p [] ys h = refl
count_front p (x ∷ xs) ys h =
    let parts = neither (p x) (list_any p xs) h in
    ap (λ (t : Bool). fold (λ (a : ℕ) (h : Header). a + cond (p h) 1 0) (0 + cond t 1 0) (xs ++ ys)) parts.0 ∙ count_front p xs ys parts.1

find_front : (p : Header → Bool) (xs ys : List Header) → list_any p xs ≡ false → find p (xs ++ ys) ≡ find p ys
find_front p [] ys h = refl
find_front p (x ∷ xs) ys h =
    let parts = neither (p x) (list_any p xs) h in
    ap (λ (t : Bool). cond t (Some x) (find p (xs ++ ys))) parts.0 ∙ find_front p xs ys parts.1

any_front : (p : Header → Bool) (xs ys : List Header) → list_any p xs ≡ false → list_any p (xs ++ ys) ≡ list_any p ys
any_front p [] ys h = refl
any_front p (x ∷ xs) ys h =
    let parts = neither (p x) (list_any p xs) h in
    ap (λ (t : Bool). t || list_any p (xs ++ ys)) parts.0 ∙ any_front p xs ys parts.1

unnamed_front : (p q : Header → Bool) (xs ys : List Header) → list_any p xs ≡ false
    → list_all (λ h. not (p h) || q h) (xs ++ ys) ≡ list_all (λ h. not (p h) || q h) ys
unnamed_front p q [] ys h = refl
unnamed_front p q (x ∷ xs) ys h =
    let parts = neither (p x) (list_any p xs) h in
    ap (λ (t : Bool). (not t || q x) && list_all (λ h. not (p h) || q h) (xs ++ ys)) parts.0 ∙ unnamed_front p q xs ys parts.1

-- the line that gives the length, where it is written
abbrev pub added_length : Bool → ℕ → List Header
added_length told n = if told then length_header n ∷ [] else []

-- the lines say nothing of the framing
pub record IsSilent (lines : List Header) : Type 0 where
  pub no_length : has_named (codes "content-length") lines ≡ false
  pub no_transfer : has_named (codes "transfer-encoding") lines ≡ false
  pub no_content : has_named (codes "content-encoding") lines ≡ false

codings_sent : (lines : List Header) (told : Bool) (n : ℕ) → IsSilent lines → are_codings_known (lines ++ added_length told n) ≡ true
unfolding are_codings_known
codings_sent lines told n silent = three _ _ _ (ap (λ (k : ℕ). nat_le k 1) (counted told)) (first told) (second told)
  where
    counted : (t : Bool) → count_named (codes "transfer-encoding") (lines ++ added_length t n) ≡ 0
    counted true = count_front (is_named (codes "transfer-encoding")) lines (added_length true n) silent.no_transfer
    counted false = count_front (is_named (codes "transfer-encoding")) lines (added_length false n) silent.no_transfer

    first : (t : Bool) → all_named (codes "transfer-encoding") (λ v. is_same v (codes "chunked")) (lines ++ added_length t n) ≡ true
    first true = unnamed_front (is_named (codes "transfer-encoding")) _ lines (added_length true n) silent.no_transfer
    first false = unnamed_front (is_named (codes "transfer-encoding")) _ lines (added_length false n) silent.no_transfer

    second : (t : Bool) → all_named (codes "content-encoding") (λ v. is_same v (codes "identity")) (lines ++ added_length t n) ≡ true
    second true = unnamed_front (is_named (codes "content-encoding")) _ lines (added_length true n) silent.no_content
    second false = unnamed_front (is_named (codes "content-encoding")) _ lines (added_length false n) silent.no_content

lengths_sent : (lines : List Header) (told : Bool) (n : ℕ) → IsSilent lines → n < 10 ^ 10
    → are_lengths_sound (lines ++ added_length told n) ≡ true
unfolding are_lengths_sound
lengths_sent lines told n silent few = three _ _ _ (counted told) (both told) (lengths told)
  where
    counted : (t : Bool) → nat_le (count_named (codes "content-length") (lines ++ added_length t n)) 1 ≡ true
    counted true = ap (λ (k : ℕ). nat_le k 1) (count_front (is_named (codes "content-length")) lines (added_length true n) silent.no_length)
    counted false = ap (λ (k : ℕ). nat_le k 1) (count_front (is_named (codes "content-length")) lines (added_length false n) silent.no_length)

    both : (t : Bool)
        → not (has_named (codes "content-length") (lines ++ added_length t n) && has_named (codes "transfer-encoding") (lines ++ added_length t n)) ≡ true
    both true =
        ap₂ (λ (a b : Bool). not (a && b))
        (any_front (is_named (codes "content-length")) lines (added_length true n) silent.no_length)
        (any_front (is_named (codes "transfer-encoding")) lines (added_length true n) silent.no_transfer)
    both false =
        ap₂ (λ (a b : Bool). not (a && b))
        (any_front (is_named (codes "content-length")) lines (added_length false n) silent.no_length)
        (any_front (is_named (codes "transfer-encoding")) lines (added_length false n) silent.no_transfer)

    lengths : (t : Bool) → all_named (codes "content-length") is_length (lines ++ added_length t n) ≡ true
    lengths true =
        unnamed_front (is_named (codes "content-length")) (λ h. is_length h.value) lines (added_length true n) silent.no_length
        ∙ ap (λ (b : Bool). b && true) (decimal_length n few)
    lengths false = unnamed_front (is_named (codes "content-length")) (λ h. is_length h.value) lines (added_length false n) silent.no_length

-- no rule is broken
pub sound_sent : (lines : List Header) (told : Bool) (n : ℕ) (framing : Result Framing FrameError) → IsSilent lines → n < 10 ^ 10
    → sound_framing (lines ++ added_length told n) framing ≡ framing
sound_sent lines told n framing silent few =
    ap₂ (λ (c l : Bool). if not c then Err Coding else (if not l then Err Length else framing))
    (codings_sent lines told n silent) (lengths_sent lines told n silent few)

-- the length that is given is the framing
pub stated_sent : (limit : ℕ) (without : Result Framing FrameError) (lines : List Header) (told : Bool) (n : ℕ) → IsSilent lines
    → n ≤ limit → n < 10 ^ 10
    → stated_framing limit without (lines ++ added_length told n) ≡ (if told then Ok (Sized n) else without)
stated_sent limit without lines told n silent fits few =
    ap₂ (λ (h : Bool) (o : Option Header). if h then Ok Chunked else length_framing limit without o)
    (any_front (is_named (codes "transfer-encoding")) lines (added_length told n) silent.no_transfer)
    (find_front (is_named (codes "content-length")) lines (added_length told n) silent.no_length)
    ∙ last told
  where
    last : (t : Bool)
        → (if has_named (codes "transfer-encoding") (added_length t n) then Ok Chunked
        else length_framing limit without (find (is_named (codes "content-length")) (added_length t n)))
        ≡ (if t then Ok (Sized n) else without)
    last true =
        let word : n < 2 ^ 64 = omega (arith, few) in
        let small : nat_le n limit ≡ true = grind (arith, fits) in
        ap (λ (m : ℕ). if nat_le m limit then Ok (Sized m) else Err BodyTooLong) (digits_value-decimal own n word)
        ∙ ap (λ (b : Bool). if b then Ok (Sized n) else Err BodyTooLong) small
    last false = refl

-- ---- plain lines

pub token_by : (bytes : List ℕ) → 0 < length bytes → list_all is_token_byte bytes ≡ true → IsToken bytes
token_by bytes some all = (some, AllPass-from_list_all is_token_byte bytes all)

connection_token : IsToken (codes "Connection")
unfolding is_token_byte
connection_token = token_by (codes "Connection") (omega arith) refl

length_token : IsToken (codes "Content-Length")
unfolding is_token_byte
length_token = token_by (codes "Content-Length") (omega arith) refl

close_plain : IsPlainValue (codes "close")
close_plain = record { bytes = AllPass-from_list_all is_value_byte (codes "close") refl; front = refl; back = refl }

digit_value_byte : (c : ℕ) → is_ascii_digit c ≡ true → is_value_byte c ≡ true
digit_value_byte c h = grind (arith, h)

digit_no_blank : (c : ℕ) → is_ascii_digit c ≡ true → is_ows c ≡ false
digit_no_blank c h = grind (arith, h)

digits_unskipped : (v : List ℕ) → AllPass is_ascii_digit v → skip_ows v ≡ v
digits_unskipped [] all = refl
digits_unskipped (c ∷ v) all =
    ap (λ (t : Bool). if t then skip_ows v else c ∷ v) (digit_no_blank c (All-head (λ x. is_ascii_digit x ≡ true) c v all))

digits_plain : (v : List ℕ) → AllPass is_ascii_digit v → IsPlainValue v
digits_plain v all = record {
  bytes = All-weaker (λ x. is_ascii_digit x ≡ true) (λ x. is_value_byte x ≡ true) digit_value_byte v all;
  front = digits_unskipped v all;
  back = digits_unskipped (reverse v) (AllPass-reverse is_ascii_digit v all);
}

pub added_plain : (told : Bool) (n : ℕ) → n < 10 ^ 10 → All IsPlainHeader (added_length told n)
added_plain true n few =
    let word : n < 2 ^ 64 = omega (arith, few) in
    All-cons IsPlainHeader (length_header n) [] (record {
      name = length_token;
      value = digits_plain (decimal n) (AllPass-from_list_all is_ascii_digit (decimal n) (digits_pass (decimal n) (digits_decimal own n word)));
    })
    (All-nil IsPlainHeader)
added_plain false n few = All-nil IsPlainHeader

pub close_is_plain : IsPlainHeader close_header
close_is_plain = record { name = connection_token; value = close_plain }

-- the text of the line that gives the length
pub added_text : (told : Bool) (n : ℕ) → flat_map header_text (added_length told n) ≡ (if told then length_line n else [])
added_text true n = append-nil (length_line n)
added_text false n = refl
