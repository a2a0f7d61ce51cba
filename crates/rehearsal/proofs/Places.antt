-- What stands after a place of a script.
use Rattle.std.proofs.Common.{◌≡◌, ◌≢◌, ℕ, ◌+◌, ◌-◌, ◌<◌, ◌≤◌, List, [], ◌∷◌, ◌++◌, length, take, drop, codes, refl, sym, ap, ◌∙◌, subst, arith, append_assoc, length-append, length-drop}
use Rattle.std.proofs.lemmas.List.{drop-drop, drop_all, take_all, append-nil}
use Rattle.std.proofs.lemmas.Grind.{common_steps, flat_map-append}
use Rattle.std.proofs.Math.Seq.{take-add}
use Rattle.std.specs.List.{AllByRecursion}
use Rattle.std.specs.Str.{IsUtf8}
use Rattle.rehearsal.specs.Reading.{IsInText, IsTextEnd}
use Rattle.rehearsal.specs.Script.{BreaksOff, IsOpen, IsTextLine, line_length, lines, text_of}
use Rattle.rehearsal.proofs.ScriptLines.{first_line}

-- the bytes after a place, as the slice of them is
abbrev pub sliced : List ℕ → ℕ → List ℕ
sliced bs at = take (length bs - at) (drop at bs)

pub rest_is : (bs : List ℕ) (at : ℕ) → sliced bs at ≡ drop at bs
rest_is bs at = take_all (length bs - at) (drop at bs) (omega (arith, length-drop at bs))

-- the line at a place, and those after it
pub line_at : (bs : List ℕ) (at n past : ℕ) → at < length bs → n ≡ line_length (drop at bs) → drop past bs ≡ drop (at + n + 1) bs
    → lines (drop at bs) ≡ take n (drop at bs) ∷ lines (drop past bs)
line_at bs at n past more is same =
    let first = subst (λ k. lines (drop at bs) ≡ take k (drop at bs) ∷ lines (drop (k + 1) (drop at bs))) (sym is)
    (first_line (drop at bs) (omega (arith, length-drop at bs, more))) in
    let sum : at + (n + 1) ≡ at + n + 1 = omega arith in
    first ∙ ap (λ l. take n (drop at bs) ∷ lines l) (drop-drop (n + 1) at bs ∙ ap (λ k. drop k bs) sum ∙ sym same)

-- one more of which it holds
pub all_push : {X : Type 0} (P : X → Type 0) (xs : List X) (x : X) → AllByRecursion P xs → P x → AllByRecursion P (xs ++ x ∷ [])
all_push P [] x all is = (is, tt)
all_push P (y ∷ ys) x all is = (all.0, all_push P ys x all.1 is)

-- a line that is not the end of a text is one more of it
pub in_text : (bs : List ℕ) (used count n past : ℕ) → IsInText bs used count → used < length bs → n ≡ line_length (drop used bs) → n ≤ length (drop used bs)
    → IsUtf8 (take n (drop used bs)) → take n (drop used bs) ≢ codes "." → drop past bs ≡ drop (used + n + 1) bs
    → (used + n < length bs → past ≡ used + n + 1) → (length bs ≤ used + n → past ≡ length bs)
    → (n < length (drop used bs) → take (n + 1) (drop used bs) ≡ take n (drop used bs) ++ 10 ∷ [])
    → IsInText bs past (count + 1)
in_text bs used count n past t more is most utf8 other same feed last byte =
    let line = take n (drop used bs) in
    record {
      body = t.body ++ line ∷ [];
      is = t.is ∙ ap (λ l. t.body ++ l) (line_at bs used n past more is same) ∙ sym (append_assoc t.body (line ∷ []) (lines (drop past bs)));
      own = all_push IsTextLine t.body line t.own (utf8, other);
      text = λ past_more.
          let less : used + n < length bs = grind (arith, feed, last, past_more) in
          let short : n < length (drop used bs) = omega (arith, less, length-drop used bs) in
          let front = t.text (omega (arith, more)) in
          let sum : past ≡ used + (n + 1) = omega (arith, feed less) in
          ap (λ k. take k bs) sum ∙ take-add used (n + 1) bs ∙ ap (λ l. l ++ take (n + 1) (drop used bs)) front ∙ ap (λ l. text_of t.body ++ l) (byte short)
          ∙ ap (λ l. text_of t.body ++ l) (sym (append-nil (line ++ 10 ∷ []))) ∙ sym (flat_map-append (λ l. l ++ 10 ∷ []) t.body (line ∷ []));
      counts = omega (arith, t.counts, length-append t.body (line ∷ []));
      within = grind (arith, feed, last, more);
      few = grind (arith, feed, last, more, t.few);
    }

-- the line `.` ends the text
pub text_ends : (bs : List ℕ) (used count n past : ℕ) → IsInText bs used count → used < length bs → n ≡ line_length (drop used bs)
    → take n (drop used bs) ≡ codes "." → drop past bs ≡ drop (used + n + 1) bs → past ≤ length bs
    → (used + n < length bs → past ≡ used + n + 1) → (length bs ≤ used + n → past ≡ length bs) → IsTextEnd bs used past (count + 1)
text_ends bs used count n past t more is dot same within feed last =
    let first : lines (drop used bs) ≡ codes "." ∷ lines (drop past bs) = line_at bs used n past more is same ∙ ap (λ l. l ∷ lines (drop past bs)) dot in
    record {
      body = t.body;
      is = t.is ∙ ap (λ l. t.body ++ l) first;
      own = t.own;
      text = t.text (omega (arith, more));
      counts = ap (λ k. k + 1) t.counts;
      used_within = t.within;
      past_within = within;
      few = grind (arith, feed, last, more, t.few);
    }

-- at a line that is not in UTF-8 it breaks off
pub text_breaks : (bs : List ℕ) (used count n : ℕ) → IsInText bs used count → used < length bs → n ≡ line_length (drop used bs)
    → (IsUtf8 (take n (drop used bs)) → ⊥) → IsOpen (lines bs) count
text_breaks bs used count n t more is bad = record {
  body = t.body;
  rest = lines (drop used bs);
  is = t.is;
  own = t.own;
  breaks = subst BreaksOff (sym (line_at bs used n (used + n + 1) more is refl)) bad;
  counts = t.counts;
}

-- at the end of the bytes too
pub text_runs_out : (bs : List ℕ) (used count : ℕ) → IsInText bs used count → length bs ≤ used → IsOpen (lines bs) count
text_runs_out bs used count t out = record {
  body = t.body;
  rest = lines (drop used bs);
  is = t.is;
  own = t.own;
  breaks = subst (λ (l : List ℕ). BreaksOff (lines l)) (sym (drop_all used bs out)) tt;
  counts = t.counts;
}
