-- How long the counts and the parts of a report are as JSON, and as JSON once more.
use Rattle.std.proofs.Common.{◌≡◌, ℕ, suc, ◌+◌, ◌*◌, ◌/◌, ◌%◌, ◌<◌, ◌≤◌, ◌&&◌, nat_le, nat_lt, Bool, true, false, List, [], ◌∷◌, map, length, get_or, IsUtf8, refl, sym, subst, arith}
use Rattle.std.proofs.lemmas.Bool.{leb-true, ltb-true}
use Rattle.std.proofs.lemmas.List.Elements.{All-head, All-tail, recursion_from_All}
use Rattle.std.proofs.lemmas.List.Sums.{AllPass-from_list_all}
use Rattle.std.proofs.lemmas.Str.{IsUtf8-from_ascii, encodes-IsAscii, encodes-chars}
use Rattle.std.proofs.lemmas.Str.Ascii.{IsAscii-from_all}
use Rattle.std.proofs.Math.Utf8.{scalar, scalars}
use Rattle.std.specs.Char.{IsScalar}
use Rattle.std.specs.List.{All, AllByRecursion}
use Rattle.std.specs.Prelude.{codes, encode_utf8_all, slice_index}
use Rattle.std.specs.Str.{IsAscii}
use Rattle.hex.specs.Hex.{IsBytes, encode_with, upper_digits}
use Rattle.hex.proofs.HexLemmas.{IsAscii-encode_with, length-encode_with}
use Rattle.json.specs.Print.{escape, escape_byte}
use Rattle.json.proofs.Printed.Utf8.{IsUtf8-are_ascii}
use Rattle.mof_values.specs.declared.limits.TheConstants.{MAX_NAME_BYTES}
use Rattle.serde_json.specs.Data.{Data, string, array, object, number, unsigned, Members, no_members, member}
use Rattle.serde_json.specs.View.{items_of}
use Rattle.serde_json.specs.Written.{compact_text, items_text}
use Rattle.shared_key.specs.Checksum.{checksum_of}
use Rattle.report_log.specs.declared.report.PartMark.{PartMark}
use Rattle.report_log.specs.declared.report.Report.{Report}
use Rattle.dsc_document.specs.Sizes.{Fits}
use Rattle.report_log.specs.Sizes.{ReportInSize}
use Rattle.pull_messages.specs.Writing.{text_data}
use Rattle.pull_client.specs.Fitting.{IsMark}
use Rattle.pull_client.specs.Reports.{counts_data, counts_text, part_data}
use Rattle.pull_client.proofs.Escaped.{AreShown, shown_size}
use Rattle.pull_client.proofs.Compact.{AreTexts, ItemsAreTexts, decimal_size, item_size, member_size, quoted_size, value_shown, value_utf8}
use Rattle.pull_client.proofs.TextSizes.{bytes_size, text_size}

-- ---- checksums

upper_ascii : IsAscii upper_digits
upper_ascii =
    IsAscii-from_all upper_digits
    (λ k d within. ltb-true (get_or upper_digits k d) 128 (AllPass-from_list_all (λ x. nat_lt x 128) upper_digits refl k d within))

digit_shown : (i : ℕ) → i < 16 → 32 ≤ slice_index upper_digits i
digit_shown i small = leb-true 32 (slice_index upper_digits i) (AllPass-from_list_all (nat_le 32) upper_digits refl i 0 (omega (arith, small)))

digest_shown : (digest : List ℕ) → IsBytes digest → AreShown (encode_with upper_digits digest)
unfolding encode_with
digest_shown [] h = tt
digest_shown (b ∷ digest) h =
    (digit_shown (b / 16) (omega (arith, h 0)), (digit_shown (b % 16) (omega arith), digest_shown digest (λ i. h (suc i))))

checksum_ascii : (digest : List ℕ) → IsAscii (checksum_of digest)
unfolding checksum_of
checksum_ascii digest = IsAscii-encode_with upper_digits digest upper_ascii

checksum_same : (digest : List ℕ) → encode_utf8_all (checksum_of digest) ≡ checksum_of digest
checksum_same digest = encodes-IsAscii (checksum_of digest) (checksum_ascii digest)

checksum_bytes : (digest : List ℕ) → IsBytes digest → length digest ≡ 32 → length (escape (checksum_of digest)) ≤ 128
unfolding checksum_of
checksum_bytes digest bytes size =
    omega (arith, size, length-encode_with upper_digits digest, shown_size (encode_with upper_digits digest) (digest_shown digest bytes))

checksum_size : (digest : List ℕ) → IsBytes digest → length digest ≡ 32 → text_size (checksum_of digest) ≤ 130
checksum_size digest bytes size =
    subst (λ (s : List ℕ). length (compact_text (string s)) ≤ 130) (sym (checksum_same digest))
    (omega (arith, quoted_size (checksum_of digest), checksum_bytes digest bytes size))

checksum_utf8 : (digest : List ℕ) → IsUtf8 (encode_utf8_all (checksum_of digest))
checksum_utf8 digest = subst IsUtf8 (sym (checksum_same digest)) (IsUtf8-from_ascii (checksum_of digest) (checksum_ascii digest))

-- ---- parts

both_hold : (a b : Bool) → a ≡ true → b ≡ true → a && b ≡ true
both_hold true b h k = k
both_hold false b h k = h

scalars_of : (text : List ℕ) → All IsScalar text → scalars text ≡ true
scalars_of [] h = refl
scalars_of (c ∷ text) h = both_hold (scalar c) (scalars text) (All-head IsScalar c text h) (scalars_of text (All-tail IsScalar c text h))

part_texts : (part : PartMark) → IsMark part → AreTexts (part_data part)
part_texts part is = (
  IsUtf8-are_ascii (codes "Checksum") refl,
  (checksum_utf8 part.digest, (IsUtf8-are_ascii (codes "ConfigurationName") refl, ((part.name, (scalars_of part.name is.name, refl)), tt))),
)

parts_texts : (parts : List PartMark) → AllByRecursion IsMark parts → ItemsAreTexts (items_of (map part_data parts))
parts_texts [] h = tt
parts_texts (part ∷ parts) h = (part_texts part h.0, parts_texts parts h.1)

checksum_key : length (escape (codes "Checksum")) ≡ 8
unfolding escape_byte
checksum_key = refl

name_key : length (escape (codes "ConfigurationName")) ≡ 17
unfolding escape_byte
name_key = refl

part_size : (part : PartMark) → IsMark part → Fits MAX_NAME_BYTES part.name → length (compact_text (part_data part)) ≤ 1697
part_size part is fits =
    let name : Members = member (codes "ConfigurationName") (text_data part.name) no_members in
    omega (
      arith,
      checksum_key,
      name_key,
      checksum_size part.digest is.bytes is.size,
      bytes_size part.name MAX_NAME_BYTES fits,
      member_size false (codes "Checksum") (text_data (checksum_of part.digest)) name,
      member_size true (codes "ConfigurationName") (text_data part.name) no_members,
    )

parts_size : (later : Bool) (parts : List PartMark) → AllByRecursion IsMark parts → AllByRecursion (λ part. Fits MAX_NAME_BYTES part.name) parts
    → length (items_text later (items_of (map part_data parts))) ≤ 1 + 1698 * length parts
parts_size later [] is fits = omega arith
parts_size later (part ∷ parts) is fits = omega (
  arith,
  part_size part is.0 fits.0,
  item_size later (part_data part) (items_of (map part_data parts)),
  parts_size true parts is.1 fits.1,
)

-- ---- counts

counts_texts : (report : Report) → AllByRecursion IsMark report.parts → AreTexts (counts_data report)
counts_texts report is = (
  IsUtf8-are_ascii (codes "NumberNotInDesiredState") refl,
  (
    tt,
    (
      IsUtf8-are_ascii (codes "NumberOfResources") refl,
      (tt, (IsUtf8-are_ascii (codes "Parts") refl, (parts_texts report.parts is, tt))),
    ),
  ),
)

missed_key : length (escape (codes "NumberNotInDesiredState")) ≡ 23
unfolding escape_byte
missed_key = refl

total_key : length (escape (codes "NumberOfResources")) ≡ 17
unfolding escape_byte
total_key = refl

parts_key : length (escape (codes "Parts")) ≡ 5
unfolding escape_byte
parts_key = refl

three_size : (missed total parts : Data) → length (compact_text missed) ≤ 64 → length (compact_text total) ≤ 64 → length (compact_text parts) ≤ 13586
    → length (compact_text (object (member (codes "NumberNotInDesiredState") missed
    (member (codes "NumberOfResources") total (member (codes "Parts") parts no_members))))) ≤ 13773
three_size missed total parts h k l =
    let third : Members = member (codes "Parts") parts no_members in
    let second : Members = member (codes "NumberOfResources") total third in
    omega (
      arith,
      h,
      k,
      l,
      missed_key,
      total_key,
      parts_key,
      member_size false (codes "NumberNotInDesiredState") missed second,
      member_size true (codes "NumberOfResources") total third,
      member_size true (codes "Parts") parts no_members,
    )

counts_size : (report : Report) → All IsMark report.parts → ReportInSize report → length (compact_text (counts_data report)) ≤ 13773
counts_size report is sized =
    three_size (number (unsigned report.missed)) (number (unsigned report.total)) (array (items_of (map part_data report.parts)))
    (decimal_size report.missed) (decimal_size report.total)
    (omega (
      arith,
      sized.parts.count,
      parts_size false report.parts (recursion_from_All IsMark report.parts is)
          (recursion_from_All (λ part. Fits MAX_NAME_BYTES part.name) report.parts sized.parts.names),
    ))

-- the text of the counts is escaped once more, and has no control character
pub counts_text_size : (report : Report) → All IsMark report.parts → ReportInSize report → text_size (counts_text report) ≤ 27548
counts_text_size report is sized =
    let same : encode_utf8_all (counts_text report) ≡ compact_text (counts_data report) =
    encodes-chars (compact_text (counts_data report)) (value_utf8 (counts_data report) (counts_texts report (recursion_from_All IsMark report.parts is))) in
    subst (λ (s : List ℕ). length (compact_text (string s)) ≤ 27548) (sym same)
    (omega (
      arith,
      counts_size report is sized,
      quoted_size (compact_text (counts_data report)),
      shown_size (compact_text (counts_data report)) (value_shown (counts_data report)),
    ))
