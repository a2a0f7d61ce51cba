-- The phases accept every body in chunks.
use Rattle.std.proofs.Common.{◌≡◌, ◌≢◌, ℕ, zero, suc, ◌+◌, ◌-◌, ◌*◌, ◌<◌, ◌≤◌, List, [], ◌∷◌, ◌++◌, length, refl, sym, ap, ap₂, ◌∙◌, subst, arith, zero-add, append_assoc, Bool, true, false, not, inl, inr}
use Rattle.std.specs.Prelude.{Option, Some, None, if◌then◌else◌, ◌==◌, ◌||◌, nat_lt}
use Rattle.std.specs.List.{AllPass}
use Rattle.std.specs.Char.{is_ascii_hexdigit, digit_value}
use Rattle.std.specs.Str.Parse.{digits_value, digits_value_after}
use Rattle.std.proofs.lemmas.Bool.{false≢true}
use Rattle.std.proofs.lemmas.Bool.Decides.{eqb_tells}
use Rattle.std.proofs.lemmas.List.Elements.{All-head, All-tail}
use Rattle.httparse.specs.Grammar.{ChunkLine, IsChunkLine, print_chunk_line, chunk_size, LineEnd, crlf, lf, print_end, is_ows, is_extension_byte, print_extension, IsExtension}
use Rattle.http_frames.specs.declared.chunks.Phase.{Phase}
use Rattle.http_frames.specs.declared.chunks.Phase.TheVariants.{Line, Size, Pad, Extension, SizeReturn, Data, DataEnd, DataReturn, Trailer as TrailerStart, TrailerReturn, TrailerText, Done}
use Rattle.http_frames.specs.Phases.{next_phase, after_size, after_chunk_line, is_data}
use Rattle.http_frames.specs.Chunks.{is_trailer_byte, IsTrailerLine, Trailer, ended, lined, Chunked, last_chunk, chunk}
use Rattle.http_frames.proofs.Accepts.{OnSome, Keeps, Accepts}

pub accept : (p q : Phase) (b : ℕ) (bytes content : List ℕ) → next_phase p b ≡ Some q → is_data p ≡ false → Accepts q bytes content
    → Accepts p (b ∷ bytes) content
accept p q b bytes content step no_data h =
    subst (λ (o : Option Phase). OnSome o (λ next. Keeps (is_data p) b (Accepts next bytes) content)) (sym step)
    (subst (λ (t : Bool). Keeps t b (Accepts q bytes) content) (sym no_data) h)

pub accept_data : (n b : ℕ) (q : Phase) (bytes content : List ℕ) → next_phase (Data n) b ≡ Some q → Accepts q bytes content
    → Accepts (Data n) (b ∷ bytes) (b ∷ content)
accept_data n b q bytes content step h =
    subst (λ (o : Option Phase). OnSome o (λ next. Keeps true b (Accepts next bytes) (b ∷ content))) (sym step)
    (content, refl, h)

not_same : (b c : ℕ) → b ≢ c → (b == c) ≡ false
not_same b c h = elim (eqb_tells b c) [ inl w ↦ absurd (h w.1) | inr w ↦ w.0 ]

-- ---- the trailer

step_text : (b : ℕ) → (b == 10) ≡ false → next_phase TrailerText b ≡ Some TrailerText
unfolding next_phase
step_text b h = ap (λ (t : Bool). Some (if t then TrailerStart else TrailerText)) h

step_text_end : next_phase TrailerText 10 ≡ Some TrailerStart
unfolding next_phase
step_text_end = refl

step_return : (b : ℕ) → (b == 10) ≡ false → next_phase TrailerReturn b ≡ Some TrailerText
unfolding next_phase
step_return b h = ap (λ (t : Bool). Some (if t then Done else TrailerText)) h

step_return_end : next_phase TrailerReturn 10 ≡ Some Done
unfolding next_phase
step_return_end = refl

step_trailer : (b : ℕ) → (b == 10) ≡ false → (b == 13) ≡ false → next_phase TrailerStart b ≡ Some TrailerText
unfolding next_phase
step_trailer b h k = ap₂ (λ (s t : Bool). Some (if s then Done else (if t then TrailerReturn else TrailerText))) h k

step_trailer_return : next_phase TrailerStart 13 ≡ Some TrailerReturn
unfolding next_phase
step_trailer_return = refl

step_trailer_end : next_phase TrailerStart 10 ≡ Some Done
unfolding next_phase
step_trailer_end = refl

not_feed : (b : ℕ) → is_trailer_byte b ≡ true → (b == 10) ≡ false
not_feed b h = elim (eqb_tells b 10) [ inl w ↦ absurd (false≢true (sym (ap not w.0) ∙ h)) | inr w ↦ w.0 ]

text_accepted : (line rest : List ℕ) → AllPass is_trailer_byte line → Accepts TrailerStart rest [] → Accepts TrailerText (line ++ 10 ∷ rest) []
text_accepted [] rest all h = accept TrailerText TrailerStart 10 rest [] step_text_end refl h
text_accepted (b ∷ line) rest all h =
    let P : ℕ → Type 0 = λ x. is_trailer_byte x ≡ true in
    accept TrailerText TrailerText b (line ++ 10 ∷ rest) [] (step_text b (not_feed b (All-head P b line all))) refl
    (text_accepted line rest (All-tail P b line all) h)

return_accepted : (b : ℕ) (line rest : List ℕ) → b ≡ 13 → IsTrailerLine (b ∷ line) → Accepts TrailerStart rest []
    → Accepts TrailerReturn (line ++ 10 ∷ rest) []
return_accepted b [] rest same valid h = absurd (valid.more (ap (λ (x : ℕ). x ∷ []) same))
return_accepted b (c ∷ line) rest same valid h =
    let P : ℕ → Type 0 = λ x. is_trailer_byte x ≡ true in
    let after = All-tail P b (c ∷ line) valid.bytes in
    accept TrailerReturn TrailerText c (line ++ 10 ∷ rest) [] (step_return c (not_feed c (All-head P c line after))) refl
    (text_accepted line rest (All-tail P c line after) h)

line_accepted : (line rest : List ℕ) → IsTrailerLine line → Accepts TrailerStart rest [] → Accepts TrailerStart (line ++ 10 ∷ rest) []
line_accepted [] rest valid h = absurd (valid.some refl)
line_accepted (b ∷ line) rest valid h =
    let P : ℕ → Type 0 = λ x. is_trailer_byte x ≡ true in
    elim (eqb_tells b 13) [
      | inl w ↦ accept TrailerStart TrailerReturn b (line ++ 10 ∷ rest) [] (ap (next_phase TrailerStart) w.1 ∙ step_trailer_return) refl
          (return_accepted b line rest w.1 valid h)
      | inr w ↦ accept TrailerStart TrailerText b (line ++ 10 ∷ rest) []
          (step_trailer b (not_feed b (All-head P b line valid.bytes)) w.0) refl
          (text_accepted line rest (All-tail P b line valid.bytes) h)
    ]

end_accepted : (last : LineEnd) → Accepts TrailerStart (print_end last) []
end_accepted crlf =
    accept TrailerStart TrailerReturn 13 (10 ∷ []) [] step_trailer_return refl
    (accept TrailerReturn Done 10 [] [] step_return_end refl (refl, refl))
end_accepted lf = accept TrailerStart Done 10 [] [] step_trailer_end refl (refl, refl)

pub trailer_accepted : (bytes : List ℕ) → Trailer bytes → Accepts TrailerStart bytes []
trailer_accepted _ (ended bytes last is) = subst (λ (l : List ℕ). Accepts TrailerStart l []) (sym is) (end_accepted last)
trailer_accepted _ (lined bytes line rest valid is more) =
    subst (λ (l : List ℕ). Accepts TrailerStart l []) (sym is) (line_accepted line rest valid (trailer_accepted rest more))

-- ---- a chunk

step_end : next_phase DataEnd 13 ≡ Some DataReturn
unfolding next_phase
step_end = refl

step_end_return : next_phase DataReturn 10 ≡ Some Line
unfolding next_phase
step_end_return = refl

step_data_last : (b : ℕ) → next_phase (Data 1) b ≡ Some DataEnd
unfolding next_phase
step_data_last b = refl

step_data : (n b : ℕ) → next_phase (Data (suc (suc n))) b ≡ Some (Data (suc n))
unfolding next_phase
step_data n b =
    ap₂ (λ (t : Bool) (m : ℕ). Some (if t then DataEnd else Data m)) (not_same (suc (suc n)) 1 (λ e. omega (arith, e)))
    (let e : suc (suc n) - 1 ≡ suc n = omega arith in e)

pub data_accepted : (n b : ℕ) (part rest more : List ℕ) → length part ≡ n → Accepts Line rest more
    → Accepts (Data (suc n)) ((b ∷ part) ++ (13 ∷ 10 ∷ rest)) ((b ∷ part) ++ more)
data_accepted n b [] rest more len h =
    let one : suc n ≡ 1 = omega (arith, len) in
    subst (λ (m : ℕ). Accepts (Data m) (b ∷ 13 ∷ 10 ∷ rest) (b ∷ more)) (sym one)
    (accept_data 1 b DataEnd (13 ∷ 10 ∷ rest) more (step_data_last b)
    (accept DataEnd DataReturn 13 (10 ∷ rest) more step_end refl (accept DataReturn Line 10 rest more step_end_return refl h)))
data_accepted zero b (c ∷ part) rest more len h = absurd (omega (arith, len))
data_accepted (suc n) b (c ∷ part) rest more len h =
    accept_data (suc (suc n)) b (Data (suc n)) ((c ∷ part) ++ (13 ∷ 10 ∷ rest)) ((c ∷ part) ++ more) (step_data n b)
    (data_accepted n c part rest more (omega (arith, len)) h)

-- ---- a chunk line

-- the phase reads what stands after a size
abbrev pub ReadsAfter : Phase → ℕ → Type 0
ReadsAfter p size = (is_data p ≡ false) × ((b : ℕ) → is_ascii_hexdigit b ≡ false → next_phase p b ≡ after_size size b)

pub pad_reads : (size : ℕ) → ReadsAfter (Pad size) size
unfolding next_phase
pad_reads size = (refl, λ b h. refl)

pub size_reads : (digits size : ℕ) → ReadsAfter (Size digits size) size
unfolding next_phase
size_reads digits size = (
  refl,
  λ b h.
      ap (λ (t : Bool). if t then (if nat_lt digits 16 then Some (Size (digits + 1) (size * 16 + digit_value b)) else None) else after_size size b) h,
)

step_line_end : (size : ℕ) → next_phase (SizeReturn size) 10 ≡ Some (after_chunk_line size)
unfolding next_phase
step_line_end size = refl

step_extension_end : (size : ℕ) → next_phase (Extension size) 13 ≡ Some (SizeReturn size)
unfolding next_phase
step_extension_end size = refl

step_extension : (size b : ℕ) → is_extension_byte b ≡ true → next_phase (Extension size) b ≡ Some (Extension size)
unfolding next_phase
step_extension size b h = elim (eqb_tells b 13) [
  | inl w ↦ absurd (false≢true (sym (ap (λ (x : ℕ). is_extension_byte x) w.1) ∙ h))
  | inr w ↦ elim (eqb_tells b 10) [
    | inl v ↦ absurd (false≢true (sym (ap (λ (x : ℕ). is_extension_byte x) v.1) ∙ h))
    | inr v ↦ ap₂ (λ (s t : Bool). if s then Some (SizeReturn size) else (if t then None else Some (Extension size))) w.0 v.0
  ]
]

pub end_of_line : (size : ℕ) (rest content : List ℕ) → Accepts (after_chunk_line size) rest content → Accepts (SizeReturn size) (10 ∷ rest) content
end_of_line size rest content h = accept (SizeReturn size) (after_chunk_line size) 10 rest content (step_line_end size) refl h

pub extension_accepted : (size : ℕ) (text rest content : List ℕ) → AllPass is_extension_byte text → Accepts (after_chunk_line size) rest content
    → Accepts (Extension size) (text ++ (13 ∷ 10 ∷ rest)) content
extension_accepted size [] rest content all h =
    accept (Extension size) (SizeReturn size) 13 (10 ∷ rest) content (step_extension_end size) refl (end_of_line size rest content h)
extension_accepted size (b ∷ text) rest content all h =
    let P : ℕ → Type 0 = λ x. is_extension_byte x ≡ true in
    accept (Extension size) (Extension size) b (text ++ (13 ∷ 10 ∷ rest)) content (step_extension size b (All-head P b text all)) refl
    (extension_accepted size text rest content (All-tail P b text all) h)

pub text_after : (p : Phase) (size : ℕ) (text : Option (List ℕ)) (rest content : List ℕ) → ReadsAfter p size → IsExtension text
    → Accepts (after_chunk_line size) rest content → Accepts p (print_extension text ++ (13 ∷ 10 ∷ rest)) content
text_after p size None rest content reads valid h =
    accept p (SizeReturn size) 13 (10 ∷ rest) content (reads.1 13 refl) reads.0 (end_of_line size rest content h)
text_after p size (Some text) rest content reads valid h =
    accept p (Extension size) 59 (text ++ (13 ∷ 10 ∷ rest)) content (reads.1 59 refl) reads.0 (extension_accepted size text rest content valid h)

ows_no_digit : (b : ℕ) → is_ows b ≡ true → is_ascii_hexdigit b ≡ false
ows_no_digit b h = elim (eqb_tells b 32) [
  | inl w ↦ ap is_ascii_hexdigit w.1
  | inr w ↦ elim (eqb_tells b 9) [
    | inl v ↦ ap is_ascii_hexdigit v.1
    | inr v ↦ absurd (false≢true (sym (ap₂ (λ (s t : Bool). s || t) w.0 v.0) ∙ h))
  ]
]

step_pad : (size b : ℕ) → is_ows b ≡ true → after_size size b ≡ Some (Pad size)
step_pad size b h =
    ap (λ (t : Bool). if t then Some (Pad size) else (if b == 59 then Some (Extension size) else (if b == 13 then Some (SizeReturn size) else None))) h

pub size_after : (pad : List ℕ) (p : Phase) (size : ℕ) (text : Option (List ℕ)) (rest content : List ℕ) → ReadsAfter p size
    → AllPass is_ows pad → IsExtension text → Accepts (after_chunk_line size) rest content
    → Accepts p (pad ++ (print_extension text ++ (13 ∷ 10 ∷ rest))) content
size_after [] p size text rest content reads all valid h = text_after p size text rest content reads valid h
size_after (b ∷ pad) p size text rest content reads all valid h =
    let P : ℕ → Type 0 = λ x. is_ows x ≡ true in
    let blank = All-head P b pad all in
    accept p (Pad size) b _ content (reads.1 b (ows_no_digit b blank) ∙ step_pad size b blank) reads.0
    (size_after pad (Pad size) size text rest content (pad_reads size) (All-tail P b pad all) valid h)

step_digit : (digits size b : ℕ) → is_ascii_hexdigit b ≡ true → digits < 16
    → next_phase (Size digits size) b ≡ Some (Size (digits + 1) (size * 16 + digit_value b))
unfolding next_phase
step_digit digits size b hex few =
    let less : nat_lt digits 16 ≡ true = grind (arith, few) in
    ap₂ (λ (s t : Bool). if s then (if t then Some (Size (digits + 1) (size * 16 + digit_value b)) else None) else after_size size b) hex less

pub step_first : (b : ℕ) → is_ascii_hexdigit b ≡ true → next_phase Line b ≡ Some (Size 1 (digit_value b))
unfolding next_phase
step_first b hex = ap (λ (t : Bool). if t then Some (Size 1 (digit_value b)) else None) hex

pub digits_accepted : (ds : List ℕ) (digits size : ℕ) (pad : List ℕ) (text : Option (List ℕ)) (rest content : List ℕ)
    → AllPass is_ascii_hexdigit ds → digits + length ds ≤ 16 → AllPass is_ows pad → IsExtension text
    → Accepts (after_chunk_line (digits_value_after 16 size ds)) rest content
    → Accepts (Size digits size) (ds ++ (pad ++ (print_extension text ++ (13 ∷ 10 ∷ rest)))) content
digits_accepted [] digits size pad text rest content hex few blanks valid h =
    size_after pad (Size digits size) size text rest content (size_reads digits size) blanks valid h
digits_accepted (b ∷ ds) digits size pad text rest content hex few blanks valid h =
    let P : ℕ → Type 0 = λ x. is_ascii_hexdigit x ≡ true in
    accept (Size digits size) (Size (digits + 1) (size * 16 + digit_value b)) b _ content
    (step_digit digits size b (All-head P b ds hex) (omega (arith, few))) refl
    (digits_accepted ds (digits + 1) (size * 16 + digit_value b) pad text rest content (All-tail P b ds hex) (omega (arith, few)) blanks valid h)

line_accepted_at : (ds pad : List ℕ) (text : Option (List ℕ)) (rest content : List ℕ) → 0 < length ds → length ds ≤ 16
    → AllPass is_ascii_hexdigit ds → AllPass is_ows pad → IsExtension text → Accepts (after_chunk_line (digits_value 16 ds)) rest content
    → Accepts Line (ds ++ (pad ++ (print_extension text ++ (13 ∷ 10 ∷ rest)))) content
line_accepted_at [] pad text rest content some few hex blanks valid h = absurd (omega arith)
line_accepted_at (b ∷ ds) pad text rest content some few hex blanks valid h =
    let P : ℕ → Type 0 = λ x. is_ascii_hexdigit x ≡ true in
    let value : digits_value 16 (b ∷ ds) ≡ digits_value_after 16 (digit_value b) ds =
    ap (λ (n : ℕ). digits_value_after 16 n ds) (zero-add (digit_value b)) in
    accept Line (Size 1 (digit_value b)) b _ content (step_first b (All-head P b ds hex)) refl
    (digits_accepted ds 1 (digit_value b) pad text rest content (All-tail P b ds hex) (omega (arith, few)) blanks valid
    (subst (λ (n : ℕ). Accepts (after_chunk_line n) rest content) value h))

pub chunk_line_accepted : (line : ChunkLine) (rest content : List ℕ) → IsChunkLine line → Accepts (after_chunk_line (chunk_size line)) rest content
    → Accepts Line (print_chunk_line line ++ rest) content
unfolding print_chunk_line
chunk_line_accepted line rest content valid h =
    subst (λ (l : List ℕ). Accepts Line l content) (regroup line.digits line.pad (print_extension line.extension) rest)
    (line_accepted_at line.digits line.pad line.extension rest content valid.digits.0 valid.digits.1 valid.digits.2 valid.pad valid.extension h)
  where
    regroup : (a p e r : List ℕ) → a ++ (p ++ (e ++ (13 ∷ 10 ∷ r))) ≡ (a ++ p ++ e ++ 13 ∷ 10 ∷ []) ++ r
    regroup a p e r = sym (append_assoc (a ++ p ++ e) (13 ∷ 10 ∷ []) r ∙ append_assoc (a ++ p) e (13 ∷ 10 ∷ r) ∙ append_assoc a p (e ++ (13 ∷ 10 ∷ r)))

after_zero : (size : ℕ) (rest : List ℕ) → size ≡ 0 → Trailer rest → Accepts (after_chunk_line size) rest []
after_zero size rest none trailer =
    subst (λ (n : ℕ). Accepts (after_chunk_line n) rest []) (sym none) (trailer_accepted rest trailer)

after_some : (size : ℕ) (part rest more : List ℕ) → size ≡ length part → 0 < length part → Accepts Line rest more
    → Accepts (after_chunk_line size) (part ++ (13 ∷ 10 ∷ rest)) (part ++ more)
after_some size [] rest more len some h = absurd (omega arith)
after_some size (b ∷ part) rest more len some h =
    subst (λ (n : ℕ). Accepts (after_chunk_line n) ((b ∷ part) ++ (13 ∷ 10 ∷ rest)) ((b ∷ part) ++ more)) (sym len)
    (subst (λ (p : Phase). Accepts p ((b ∷ part) ++ (13 ∷ 10 ∷ rest)) ((b ∷ part) ++ more))
    (sym (ap (λ (t : Bool). if t then TrailerStart else Data (suc (length part))) (not_same (suc (length part)) 0 (λ e. omega (arith, e)))))
    (data_accepted (length part) b part rest more refl h))

-- every body is accepted
pub complete : (bytes content : List ℕ) → Chunked bytes content → Accepts Line bytes content
complete _ _ (last_chunk bytes line rest valid none is trailer) =
    subst (λ (l : List ℕ). Accepts Line l []) (sym is)
    (chunk_line_accepted line rest [] valid (after_zero (chunk_size line) rest none trailer))
complete _ _ (chunk bytes content line part rest more valid size some is joined after) =
    subst (λ (l : List ℕ). Accepts Line l content) (sym is)
    (subst (λ (l : List ℕ). Accepts Line (print_chunk_line line ++ (part ++ (13 ∷ 10 ∷ rest))) l) (sym joined)
    (chunk_line_accepted line (part ++ (13 ∷ 10 ∷ rest)) (part ++ more) valid
    (after_some (chunk_size line) part rest more size some (complete rest more after))))
