-- The text of a checksum is a value of a header.
use Rattle.std.proofs.Common.{◌≡◌, ℕ, zero, suc, ◌/◌, ◌%◌, ◌^◌, ◌<◌, ◌&&◌, nat_le, nat_lt, Bool, true, false, List, [], ◌∷◌, length, reverse, refl, arith}
use Rattle.std.proofs.lemmas.Bool.{ltb-true}
use Rattle.std.proofs.lemmas.List.Elements.{All-append, All-cons, All-head, All-nil, All-tail, All-weaker}
use Rattle.std.proofs.lemmas.List.Sums.{AllPass-from_list_all}
use Rattle.std.specs.Int.{byte_at, bytes_high_first, w32, to_be_bytes}
use Rattle.std.specs.Prelude.{IsTrue, slice_index}
use Rattle.hex.specs.Hex.{encode_with, upper_digits}
use Rattle.hex.proofs.HexLemmas.{length-encode_with}
use Rattle.httparse.specs.Grammar.{AllPass, is_ows, is_value_byte, skip_ows}
use Rattle.httparse.proofs.TrimLemmas.{AllPass-reverse}
use Rattle.sha2.specs.Sha256.{digest_bytes, sha256}
use Rattle.sha2.proofs.Facts256.{length-sha256}
use Rattle.http_frames.specs.Sending.{IsPlainValue}
use Rattle.shared_key.specs.Checksum.{checksum_of}

-- ---- values without white space

abbrev is_graphic : ℕ → Bool
is_graphic b = nat_le 33 b && nat_le b 126

graphic_value : (b : ℕ) → is_graphic b ≡ true → is_value_byte b ≡ true
graphic_value b h = grind (arith, h)

graphic_black : (b : ℕ) → is_graphic b ≡ true → is_ows b ≡ false
graphic_black b h = grind (arith, h)

nothing_skipped : (v : List ℕ) → AllPass is_graphic v → skip_ows v ≡ v
nothing_skipped [] pass = refl
nothing_skipped (b ∷ bs) pass = rw (graphic_black b (All-head (λ x. IsTrue (is_graphic x)) b bs pass)) refl

graphic_is_plain : (v : List ℕ) → AllPass is_graphic v → IsPlainValue v
graphic_is_plain v pass = record {
  bytes = All-weaker (λ x. IsTrue (is_graphic x)) (λ x. IsTrue (is_value_byte x)) graphic_value v pass;
  front = nothing_skipped v pass;
  back = nothing_skipped (reverse v) (AllPass-reverse is_graphic v pass);
}

-- ---- the bytes of a digest

abbrev is_byte : ℕ → Bool
is_byte b = nat_lt b 256

byte_of_number : (i n : ℕ) → is_byte (byte_at i n) ≡ true
byte_of_number zero n = grind arith
byte_of_number (suc i) n = remainder (n / 256 ^ suc i)
  where
    remainder : (m : ℕ) → is_byte (m % 256) ≡ true
    remainder m = grind arith

number_bytes : (k n : ℕ) → AllPass is_byte (bytes_high_first k n)
number_bytes zero n = All-nil (λ x. IsTrue (is_byte x))
number_bytes (suc k) n = All-cons (λ x. IsTrue (is_byte x)) (byte_at k n) (bytes_high_first k n) (byte_of_number k n) (number_bytes k n)

words_bytes : (h : List ℕ) (n : ℕ) → AllPass is_byte (digest_bytes h n)
unfolding digest_bytes
words_bytes h zero = All-nil (λ x. IsTrue (is_byte x))
words_bytes h (suc n) =
    All-append (λ x. IsTrue (is_byte x)) (digest_bytes h n) (to_be_bytes w32 (slice_index h n)) (words_bytes h n) (number_bytes 4 (slice_index h n))

sha256_bytes : (m : List ℕ) → AllPass is_byte (sha256 m)
unfolding sha256
sha256_bytes m = words_bytes _ 8

-- ---- its text

digit_graphic : (d : ℕ) → d < 16 → is_graphic (slice_index upper_digits d) ≡ true
digit_graphic d small = AllPass-from_list_all is_graphic upper_digits refl d 0 (omega (arith, small))

encoded_graphic : (digest : List ℕ) → AllPass is_byte digest → AllPass is_graphic (encode_with upper_digits digest)
unfolding encode_with
encoded_graphic [] pass = All-nil (λ x. IsTrue (is_graphic x))
encoded_graphic (b ∷ digest) pass =
    let Graphic : ℕ → Type 0 = λ x. IsTrue (is_graphic x) in
    let small : b < 256 = ltb-true b 256 (All-head (λ x. IsTrue (is_byte x)) b digest pass) in
    let low = slice_index upper_digits (b % 16) in
    let rest = encode_with upper_digits digest in
    All-cons Graphic (slice_index upper_digits (b / 16)) (low ∷ rest) (digit_graphic (b / 16) (omega (arith, small)))
    (All-cons Graphic low rest (digit_graphic (b % 16) (omega arith)) (encoded_graphic digest (All-tail (λ x. IsTrue (is_byte x)) b digest pass)))

pub checksum_is_plain : (content : List ℕ) → IsPlainValue (checksum_of (sha256 content))
unfolding checksum_of
checksum_is_plain content = graphic_is_plain (encode_with upper_digits (sha256 content)) (encoded_graphic (sha256 content) (sha256_bytes content))

pub length-checksum : (content : List ℕ) → length (checksum_of (sha256 content)) ≡ 64
unfolding checksum_of
length-checksum content = omega (arith, length-encode_with upper_digits (sha256 content), length-sha256 content)
