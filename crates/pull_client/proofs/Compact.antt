-- Compact JSON: that it is UTF-8 and has no control characters, and how long it is.
use Rattle.std.proofs.Common.{◌≡◌, ℕ, zero, suc, pos, negsuc, ◌+◌, ◌/◌, ◌%◌, ◌<◌, ◌≤◌, Bool, true, false, cond, ◌==◌, nat_lt, List, [], ◌∷◌, ◌++◌, length, IsUtf8, decimal, subst, arith}
use Rattle.std.proofs.lemmas.List.{length-append}
use Rattle.std.proofs.lemmas.Str.{IsUtf8-append, IsUtf8-nil, IsUtf8-encode, encode_ascii}
use Rattle.std.proofs.Math.Utf8.{low_scalar}
use Rattle.std.specs.Fmt.{digits, digits_onto, digit_glyph}
use Rattle.std.specs.Prelude.{⊤}
use Rattle.json.specs.Print.{escape, quoted}
use Rattle.json.proofs.Printed.Utf8.{IsUtf8-quoted}
use Rattle.serde_json.specs.Data.{Num, unsigned, negative, float, Data, null, boolean, number, string, array, object, Items, no_items, item, Members, no_members, member}
use Rattle.serde_json.specs.Written.{comma_if, compact_text, items_text, members_text, number_text}
use Rattle.pull_client.proofs.Escaped.{AreShown, escape_shown, glyph_shown, shown-append, shown-either}

-- ---- decimals

decimal_digits_shown : (k n : ℕ) (rest : List ℕ) → AreShown rest → AreShown (digits_onto k 10 false n rest)
decimal_digits_shown zero n rest h = h
decimal_digits_shown (suc k) n rest h =
    let more : AreShown (digit_glyph false (n % 10) ∷ rest) = (glyph_shown (nat_lt (n % 10) 10) (n % 10), h) in
    shown-either (n / 10 == 0) (digit_glyph false (n % 10) ∷ rest) (digits_onto k 10 false (n / 10) (digit_glyph false (n % 10) ∷ rest)) more
    (decimal_digits_shown k (n / 10) (digit_glyph false (n % 10) ∷ rest) more)

decimal_shown : (n : ℕ) → AreShown (decimal n)
unfolding digits
decimal_shown n = decimal_digits_shown 64 n [] tt

either_size : (b : Bool) (xs ys : List ℕ) (n : ℕ) → length xs ≤ n → length ys ≤ n → length (cond b xs ys) ≤ n
either_size true xs ys n h k = h
either_size false xs ys n h k = k

digits_size : (k n : ℕ) (rest : List ℕ) → length (digits_onto k 10 false n rest) ≤ k + length rest
digits_size zero n rest = omega arith
digits_size (suc k) n rest =
    either_size (n / 10 == 0) (digit_glyph false (n % 10) ∷ rest) (digits_onto k 10 false (n / 10) (digit_glyph false (n % 10) ∷ rest)) (suc k + length rest)
    (omega arith) (omega (arith, digits_size k (n / 10) (digit_glyph false (n % 10) ∷ rest)))

-- of any number: the text of a decimal is cut to 64 digits
pub decimal_size : (n : ℕ) → length (decimal n) ≤ 64
unfolding digits
decimal_size n = omega (arith, digits_size 64 n [])

pub ascii_then : (x : ℕ) (xs : List ℕ) → x < 128 → IsUtf8 xs → IsUtf8 (x ∷ xs)
ascii_then x xs small u = IsUtf8-append (x ∷ []) xs (subst IsUtf8 (encode_ascii x small) (IsUtf8-encode x (low_scalar x (omega arith)))) u

either_utf8 : (b : Bool) (xs ys : List ℕ) → IsUtf8 xs → IsUtf8 ys → IsUtf8 (cond b xs ys)
either_utf8 true xs ys h k = h
either_utf8 false xs ys h k = k

glyph_small : (b : Bool) (d : ℕ) → d < 10 → cond b (48 + d) (87 + d) < 128
glyph_small true d h = omega arith
glyph_small false d h = omega arith

digits_utf8 : (k n : ℕ) (rest : List ℕ) → IsUtf8 rest → IsUtf8 (digits_onto k 10 false n rest)
digits_utf8 zero n rest h = h
digits_utf8 (suc k) n rest h =
    let more : IsUtf8 (digit_glyph false (n % 10) ∷ rest) = ascii_then (digit_glyph false (n % 10)) rest (glyph_small (nat_lt (n % 10) 10) (n % 10) (omega arith)) h in
    either_utf8 (n / 10 == 0) (digit_glyph false (n % 10) ∷ rest) (digits_onto k 10 false (n / 10) (digit_glyph false (n % 10) ∷ rest)) more
    (digits_utf8 k (n / 10) (digit_glyph false (n % 10) ∷ rest) more)

decimal_utf8 : (n : ℕ) → IsUtf8 (decimal n)
unfolding digits
decimal_utf8 n = digits_utf8 64 n [] IsUtf8-nil

-- ---- no control characters

quoted_shown : (s : List ℕ) → AreShown (quoted s)
quoted_shown s = (omega arith, shown-append (escape s) (34 ∷ []) (escape_shown s) (omega arith, tt))

comma_shown : (later : Bool) → AreShown (comma_if later)
comma_shown true = (omega arith, tt)
comma_shown false = tt

number_shown : (n : Num) → AreShown (number_text n)
number_shown (unsigned n) = decimal_shown n
number_shown (negative (pos n)) = decimal_shown n
number_shown (negative (negsuc n)) = (omega arith, decimal_shown (suc n))
number_shown (float x) = tt

mutual
  pub value_shown : (d : Data) → AreShown (compact_text d)
  value_shown null = (omega arith, (omega arith, (omega arith, (omega arith, tt))))
  value_shown (boolean true) = (omega arith, (omega arith, (omega arith, (omega arith, tt))))
  value_shown (boolean false) = (omega arith, (omega arith, (omega arith, (omega arith, (omega arith, tt)))))
  value_shown (number n) = number_shown n
  value_shown (string s) = quoted_shown s
  value_shown (array ds) = (omega arith, items_shown false ds)
  value_shown (object ms) = (omega arith, members_shown false ms)

  items_shown : (later : Bool) (ds : Items) → AreShown (items_text later ds)
  items_shown later no_items = (omega arith, tt)
  items_shown later (item d ds) =
      shown-append (comma_if later) (compact_text d ++ items_text true ds) (comma_shown later)
      (shown-append (compact_text d) (items_text true ds) (value_shown d) (items_shown true ds))

  members_shown : (later : Bool) (ms : Members) → AreShown (members_text later ms)
  members_shown later no_members = (omega arith, tt)
  members_shown later (member k d ms) =
      shown-append (comma_if later) (quoted k ++ 58 ∷ (compact_text d ++ members_text true ms)) (comma_shown later)
      (shown-append (quoted k) (58 ∷ (compact_text d ++ members_text true ms)) (quoted_shown k)
      (omega arith, shown-append (compact_text d) (members_text true ms) (value_shown d) (members_shown true ms)))

-- ---- UTF-8

-- its strings are UTF-8, names of members too
abbrev mutual
  pub AreTexts : Data → Type 0
  AreTexts null = ⊤
  AreTexts (boolean b) = ⊤
  AreTexts (number n) = ⊤
  AreTexts (string s) = IsUtf8 s
  AreTexts (array ds) = ItemsAreTexts ds
  AreTexts (object ms) = MembersAreTexts ms

  pub ItemsAreTexts : Items → Type 0
  ItemsAreTexts no_items = ⊤
  ItemsAreTexts (item d ds) = AreTexts d × ItemsAreTexts ds

  pub MembersAreTexts : Members → Type 0
  MembersAreTexts no_members = ⊤
  MembersAreTexts (member k d ms) = IsUtf8 k × (AreTexts d × MembersAreTexts ms)

comma_utf8 : (later : Bool) → IsUtf8 (comma_if later)
comma_utf8 true = ascii_then 44 [] (omega arith) IsUtf8-nil
comma_utf8 false = IsUtf8-nil

number_utf8 : (n : Num) → IsUtf8 (number_text n)
number_utf8 (unsigned n) = decimal_utf8 n
number_utf8 (negative (pos n)) = decimal_utf8 n
number_utf8 (negative (negsuc n)) = ascii_then 45 (decimal (suc n)) (omega arith) (decimal_utf8 (suc n))
number_utf8 (float x) = IsUtf8-nil

boolean_utf8 : (b : Bool) → IsUtf8 (compact_text (boolean b))
boolean_utf8 true = ascii_then 116 _ (omega arith) (ascii_then 114 _ (omega arith) (ascii_then 117 _ (omega arith) (ascii_then 101 _ (omega arith) IsUtf8-nil)))
boolean_utf8 false =
    ascii_then 102 _ (omega arith) (ascii_then 97 _ (omega arith) (ascii_then 108 _ (omega arith) (ascii_then 115 _ (omega arith) (ascii_then 101 _ (omega arith) IsUtf8-nil))))

mutual
  pub value_utf8 : (d : Data) → AreTexts d → IsUtf8 (compact_text d)
  value_utf8 null h = ascii_then 110 _ (omega arith) (ascii_then 117 _ (omega arith) (ascii_then 108 _ (omega arith) (ascii_then 108 _ (omega arith) IsUtf8-nil)))
  value_utf8 (boolean b) h = boolean_utf8 b
  value_utf8 (number n) h = number_utf8 n
  value_utf8 (string s) h = IsUtf8-quoted s h
  value_utf8 (array ds) h = ascii_then 91 (items_text false ds) (omega arith) (items_utf8 false ds h)
  value_utf8 (object ms) h = ascii_then 123 (members_text false ms) (omega arith) (members_utf8 false ms h)

  items_utf8 : (later : Bool) (ds : Items) → ItemsAreTexts ds → IsUtf8 (items_text later ds)
  items_utf8 later no_items h = ascii_then 93 [] (omega arith) IsUtf8-nil
  items_utf8 later (item d ds) h =
      IsUtf8-append (comma_if later) (compact_text d ++ items_text true ds) (comma_utf8 later)
      (IsUtf8-append (compact_text d) (items_text true ds) (value_utf8 d h.0) (items_utf8 true ds h.1))

  members_utf8 : (later : Bool) (ms : Members) → MembersAreTexts ms → IsUtf8 (members_text later ms)
  members_utf8 later no_members h = ascii_then 125 [] (omega arith) IsUtf8-nil
  members_utf8 later (member k d ms) h =
      IsUtf8-append (comma_if later) (quoted k ++ 58 ∷ (compact_text d ++ members_text true ms)) (comma_utf8 later)
      (IsUtf8-append (quoted k) (58 ∷ (compact_text d ++ members_text true ms)) (IsUtf8-quoted k h.0)
      (ascii_then 58 (compact_text d ++ members_text true ms) (omega arith)
      (IsUtf8-append (compact_text d) (members_text true ms) (value_utf8 d h.1.0) (members_utf8 true ms h.1.1))))

-- ---- lengths

pub quoted_size : (s : List ℕ) → length (quoted s) ≡ 2 + length (escape s)
quoted_size s = omega (arith, length-append (escape s) (34 ∷ []))

comma_size : (later : Bool) → length (comma_if later) ≤ 1
comma_size true = omega arith
comma_size false = omega arith

-- an item with its comma, and the others
pub item_size : (later : Bool) (d : Data) (ds : Items) → length (items_text later (item d ds)) ≤ 1 + length (compact_text d) + length (items_text true ds)
item_size later d ds = omega (
  arith,
  comma_size later,
  length-append (comma_if later) (compact_text d ++ items_text true ds),
  length-append (compact_text d) (items_text true ds),
)

-- a member with its comma, the quotes of its name and its colon, and the others
pub member_size : (later : Bool) (k : List ℕ) (d : Data) (ms : Members)
    → length (members_text later (member k d ms)) ≤ 4 + length (escape k) + length (compact_text d) + length (members_text true ms)
member_size later k d ms = omega (
  arith,
  comma_size later,
  quoted_size k,
  length-append (comma_if later) (quoted k ++ 58 ∷ (compact_text d ++ members_text true ms)),
  length-append (quoted k) (58 ∷ (compact_text d ++ members_text true ms)),
  length-append (compact_text d) (members_text true ms),
)
