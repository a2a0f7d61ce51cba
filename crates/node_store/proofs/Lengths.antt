-- How long the texts of a report are.
use Rattle.std.proofs.Common.{◌≡◌, ℕ, ◌+◌, ◌*◌, ◌≤◌, ◌<◌, ◌^◌, List, [], ◌∷◌, length, sym, subst, arith, length-append}
use Rattle.std.specs.Prelude.{encode_utf8_all, encode_utf8}
use Rattle.std.specs.List.{AllByRecursion}
use Rattle.std.proofs.lemmas.Str.{length-encode, len_utf8_bounds}
use Rattle.std.proofs.lemmas.List.Sums.{sum_by-cons}
use Rattle.std.proofs.lemmas.List.Elements.{recursion_from_All}
use Rattle.std.specs.Prelude.{All}
use Rattle.dsc_document.specs.Sizes.{Fits}
use Rattle.mof_values.specs.declared.limits.TheConstants.{MAX_NAME_BYTES}
use Rattle.store_fields.specs.Fields.{IsBlob}
use Rattle.partial_merge.specs.declared.part.Part.{Part}
use Rattle.node_state.specs.Lists.{bytes_of, IsStaged}
use Rattle.node_state.specs.declared.limits.TheConstants.{MAX_BYTES}
use Rattle.store_fields.specs.declared.limits.TheConstants.{MAX_TEXT}

-- a character has at most 4 bytes in UTF-8
pub utf8_most : (text : List ℕ) → length (encode_utf8_all text) ≤ 4 * length text
utf8_most [] = omega arith
utf8_most (c ∷ text) = omega (arith, utf8_most text, length-append (encode_utf8 c) (encode_utf8_all text), length-encode c, len_utf8_bounds c)

weaker : {X : Type 0} (name : X → List ℕ) (n m : ℕ) (xs : List X) → n ≤ m → AllByRecursion (λ x. Fits n (name x)) xs → AllByRecursion (λ x. Fits m (name x)) xs
weaker name n m [] le all = tt
weaker name n m (x ∷ xs) le all = (omega (arith, le, all.0), weaker name n m xs le all.1)

pub all_fit : {X : Type 0} (name : X → List ℕ) (n m : ℕ) (xs ys : List X) → ys ≡ xs → n ≤ m → All (λ x. Fits n (name x)) xs → AllByRecursion (λ x. Fits m (name x)) ys
all_fit name n m xs ys same le all = subst (λ l. AllByRecursion (λ x. Fits m (name x)) l) (sym same) (weaker name n m xs le (recursion_from_All (λ x. Fits n (name x)) xs all))

parts_fit : (parts : List Part) (total : ℕ) → bytes_of parts ≤ total → total < 2 ^ 32 → AllByRecursion (λ part. Fits MAX_NAME_BYTES part.name) parts → AllByRecursion (λ (part : Part). (length (encode_utf8_all part.name) ≤ MAX_TEXT) × IsBlob part.bytes) parts
parts_fit [] total long less named = tt
parts_fit (part ∷ parts) total long less named =
    ((omega (arith, named.0), omega (arith, long, less, part_first part parts)), parts_fit parts total (omega (arith, long, part_first part parts)) less named.1)
  where
    part_first : (part : Part) (parts : List Part) → bytes_of (part ∷ parts) ≡ length part.bytes + bytes_of parts
    part_first part parts = sum_by-cons (λ (p : Part). length p.bytes) part parts

pub staged_fit : (parts : List Part) → IsStaged parts → AllByRecursion (λ (part : Part). (length (encode_utf8_all part.name) ≤ MAX_TEXT) × IsBlob part.bytes) parts
staged_fit parts staged = parts_fit parts MAX_BYTES staged.long (omega arith) (recursion_from_All (λ part. Fits MAX_NAME_BYTES part.name) parts staged.named.names)

are_blobs : (parts : List Part) → AllByRecursion (λ (part : Part). (length (encode_utf8_all part.name) ≤ MAX_TEXT) × IsBlob part.bytes) parts → AllByRecursion (λ (part : Part). IsBlob part.bytes) parts
are_blobs [] all = tt
are_blobs (part ∷ parts) all = (all.0.1, are_blobs parts all.1)

pub staged_blobs : (parts : List Part) → IsStaged parts → AllByRecursion (λ (part : Part). IsBlob part.bytes) parts
staged_blobs parts staged = are_blobs parts (staged_fit parts staged)
