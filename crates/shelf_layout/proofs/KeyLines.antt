-- The lines of a text are its keys.
use Rattle.std.proofs.Common.{◌≡◌, ◌≤◌, ◌<◌, ◌+◌, ◌∙◌, cond, ℕ, List, [], ◌∷◌, Some, None, ap, refl, length, take, drop, arith}
use Rattle.std.proofs.lemmas.Bool.{ne_eqb}
use Rattle.std.proofs.lemmas.Grind.{common_steps}
use Rattle.std.proofs.lemmas.List.Quantifiers.{position-Some}
use Rattle.std.proofs.lemmas.List.Splits.{length-slice_split, slice_split_first, slice_split_none}
use Rattle.std.proofs.lemmas.List.Sums.{fails_before_first, position_or_len_is}
use Rattle.std.specs.List.{position, position_or_len, slice_split}
use Rattle.std.specs.Str.Lines.{lines_of_parts, strip_carriage_return}
use Rattle.shelf_layout.specs.Keys.{is_line_feed, keys_in, keys_of, with_line}

-- where a part stands after it, a part is a line that ends with a line feed
lines_before : (line : List ℕ) (parts : List (List ℕ)) → 0 < length parts → lines_of_parts (line ∷ parts) ≡ strip_carriage_return line ∷ lines_of_parts parts
lines_before line [] some = absurd (omega arith)
lines_before line (part ∷ parts) some = refl

-- the first line is what stands before the first line feed
pub keys_at : (text : List ℕ) (end : ℕ) → position is_line_feed text ≡ Some end
    → keys_in text ≡ with_line (strip_carriage_return (take end text)) (keys_in (drop (end + 1) text))
keys_at text end found =
    let at = position-Some is_line_feed text end 0 found in
    let first : position_or_len is_line_feed text ≡ end = position_or_len_is is_line_feed text end 0 (omega (arith, at.0)) at.2 (λ inside. at.1) in
    let parts : List (List ℕ) = slice_split is_line_feed (drop (position_or_len is_line_feed text + 1) text) in
    ap keys_of (ap lines_of_parts (slice_split_first is_line_feed text 0 (omega (arith, at.0, first)))
    ∙ lines_before _ parts (omega (arith, length-slice_split is_line_feed (drop (position_or_len is_line_feed text + 1) text))))
    ∙ ap (λ n. with_line (strip_carriage_return (take n text)) (keys_in (drop (n + 1) text))) first

one_line : (text : List ℕ) → keys_of (lines_of_parts (text ∷ [])) ≡ with_line text []
one_line [] = refl
one_line (b ∷ bs) = ap (λ empty. keys_of (cond empty [] ((b ∷ bs) ∷ []))) (ne_eqb (length (b ∷ bs)) 0 (λ e. omega arith))

-- without a line feed the text is one line
pub keys_of_line : (text : List ℕ) → position is_line_feed text ≡ None → keys_in text ≡ with_line text (keys_in [])
keys_of_line text none =
    let past : length text ≤ position_or_len is_line_feed text = grind (arith, common_steps) in
    ap (λ parts. keys_of (lines_of_parts parts)) (slice_split_none is_line_feed text (λ k d inside. fails_before_first is_line_feed text k d (omega (arith, past, inside))))
    ∙ one_line text
