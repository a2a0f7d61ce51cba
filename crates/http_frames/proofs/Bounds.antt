-- How much a phase still wants, at least, and that so much is enough.
use Rattle.std.proofs.Common.{◌≡◌, ℕ, zero, suc, ◌+◌, ◌-◌, ◌*◌, ◌<◌, ◌≤◌, List, [], ◌∷◌, ◌++◌, length, replicate, refl, sym, ap, ◌∙◌, subst, arith, length-append, Bool, true, false, inl, inr}
use Rattle.std.specs.Prelude.{Option, Some, None, if◌then◌else◌, ◌==◌, nat_lt}
use Rattle.std.specs.Char.{is_ascii_hexdigit, digit_value}
use Rattle.std.proofs.lemmas.Bool.{false≢true}
use Rattle.std.proofs.lemmas.Bool.Decides.{eqb_tells}
use Rattle.std.proofs.lemmas.List.{length-replicate}
use Rattle.httparse.specs.Grammar.{is_ows}
use Rattle.http_frames.specs.declared.chunks.Phase.{Phase}
use Rattle.http_frames.specs.declared.chunks.Phase.TheVariants.{Line, Size, Pad, Extension, SizeReturn, Data, DataEnd, DataReturn, Trailer as TrailerStart, TrailerReturn, TrailerText, Done}
use Rattle.http_frames.specs.Phases.{next_phase, after_size, after_chunk_line, next_in_trailer, is_data, is_done, least_rest, least_after, begun_content}
use Rattle.http_frames.specs.Walks.{content_byte}
use Rattle.http_frames.proofs.Accepts.{OnSome, Keeps, Accepts, positive}
use Rattle.http_frames.proofs.Complete.{data_accepted, size_reads, pad_reads, text_after, end_of_line}

abbrev pub AllSome : Option Phase → (Phase → Type 0) → Type 0
AllSome None P = Unit {0}
AllSome (Some phase) P = P phase

pub all_if : (t : Bool) (x y : Option Phase) (P : Phase → Type 0) → AllSome x P → AllSome y P → AllSome (if t then x else y) P
all_if true x y P h k = h
all_if false x y P h k = k

-- a byte lowers what is wanted by one at most
pub record Least (phase next : Phase) : Type 0 where
  pub rest : least_rest phase ≤ suc (least_rest next)
  pub content : begun_content phase ≤ content_byte phase + begun_content next

after_further : (v w : ℕ) → v ≤ w → least_after v ≤ least_after w
after_further v w h = elim (eqb_tells v 0) [
  | inl a ↦ elim (eqb_tells w 0) [
    | inl c ↦ subst (λ (t : Bool). (if t then 1 else v + 6) ≤ least_after w) (sym a.0)
        (subst (λ (t : Bool). 1 ≤ (if t then 1 else w + 6)) (sym c.0) (omega arith))
    | inr c ↦ subst (λ (t : Bool). (if t then 1 else v + 6) ≤ least_after w) (sym a.0)
        (subst (λ (t : Bool). 1 ≤ (if t then 1 else w + 6)) (sym c.0) (omega arith))
  ]
  | inr a ↦ elim (eqb_tells w 0) [
    | inl c ↦ absurd (a.1 (omega (arith, c.1, h)))
    | inr c ↦ subst (λ (t : Bool). (if t then 1 else v + 6) ≤ least_after w) (sym a.0)
        (subst (λ (t : Bool). v + 6 ≤ (if t then 1 else w + 6)) (sym c.0) (omega (arith, h)))
  ]
]

line_least_at : (size : ℕ) (t : Bool) → (size == 0) ≡ t → Least (SizeReturn size) (if t then TrailerStart else Data size)
unfolding least_rest begun_content
line_least_at size true e =
    let none : size ≡ 0 = elim (eqb_tells size 0) [ inl w ↦ w.1 | inr w ↦ absurd (false≢true (sym w.0 ∙ e)) ] in
    record {
      rest = subst (λ (t : Bool). 1 + (if t then 1 else size + 6) ≤ 2) (sym e) (omega arith);
      content = omega (arith, none);
    }
line_least_at size false e = record {
  rest = subst (λ (t : Bool). 1 + (if t then 1 else size + 6) ≤ suc (size + 6)) (sym e) (omega arith);
  content = omega arith;
}

line_least : (size : ℕ) → Least (SizeReturn size) (after_chunk_line size)
line_least size = line_least_at size (size == 0) refl

after_least : (phase : Phase) (size b : ℕ) → least_rest phase ≡ 2 + least_after size → begun_content phase ≡ size
    → AllSome (after_size size b) (Least phase)
unfolding least_rest begun_content
after_least phase size b rest begun =
    all_if (is_ows b) (Some (Pad size)) _ (Least phase) (record { rest = omega (arith, rest); content = omega (arith, begun) })
    (all_if (b == 59) (Some (Extension size)) _ (Least phase) (record { rest = omega (arith, rest); content = omega (arith, begun) })
    (all_if (b == 13) (Some (SizeReturn size)) None (Least phase) (record { rest = omega (arith, rest); content = omega (arith, begun) }) tt))

data_least_at : (left : ℕ) (t : Bool) → (left == 1) ≡ t → Least (Data left) (if t then DataEnd else Data (left - 1))
unfolding least_rest begun_content
data_least_at left true e =
    let one : left ≡ 1 = elim (eqb_tells left 1) [ inl w ↦ w.1 | inr w ↦ absurd (false≢true (sym w.0 ∙ e)) ] in
    record { rest = omega (arith, one); content = omega (arith, one) }
data_least_at left false e = record { rest = omega arith; content = omega arith }

trailer_least : (phase : Phase) (b : ℕ) → least_rest phase ≡ 1 → begun_content phase ≡ 0 → Least phase (next_in_trailer b)
unfolding least_rest begun_content
trailer_least phase b rest begun =
    let P : Phase → Type 0 = Least phase in
    elim (b == 10) as (λ t. P (if t then Done else (if b == 13 then TrailerReturn else TrailerText))) [
      | true ↦ record { rest = omega (arith, rest); content = omega (arith, begun) }
      | false ↦ elim (b == 13) as (λ t. P (if t then TrailerReturn else TrailerText)) [
        | true ↦ record { rest = omega (arith, rest); content = omega (arith, begun) }
        | false ↦ record { rest = omega (arith, rest); content = omega (arith, begun) }
      ]
    ]

pub step_least : (phase : Phase) (b : ℕ) → AllSome (next_phase phase b) (Least phase)
unfolding next_phase least_rest begun_content
step_least Line b =
    all_if (is_ascii_hexdigit b) (Some (Size 1 (digit_value b))) None (Least Line)
    (record { rest = (let more = after_further 0 (digit_value b) (omega arith) in omega (arith, more)); content = omega arith }) tt
step_least (Size digits size) b =
    all_if (is_ascii_hexdigit b) _ (after_size size b) (Least (Size digits size))
    (all_if (nat_lt digits 16) (Some (Size (digits + 1) (size * 16 + digit_value b))) None (Least (Size digits size))
    (record { rest = (let more = after_further size (size * 16 + digit_value b) (omega arith) in omega (arith, more)); content = omega arith }) tt)
    (after_least (Size digits size) size b refl refl)
step_least (Pad size) b = after_least (Pad size) size b refl refl
step_least (Extension size) b =
    all_if (b == 13) (Some (SizeReturn size)) _ (Least (Extension size)) (record { rest = omega arith; content = omega arith })
    (all_if (b == 10) None (Some (Extension size)) (Least (Extension size)) tt (record { rest = omega arith; content = omega arith }))
step_least (SizeReturn size) b = all_if (b == 10) (Some (after_chunk_line size)) None (Least (SizeReturn size)) (line_least size) tt
step_least (Data left) b = data_least_at left (left == 1) refl
step_least DataEnd b = all_if (b == 13) (Some DataReturn) None (Least DataEnd) (record { rest = omega arith; content = omega arith }) tt
step_least DataReturn b = all_if (b == 10) (Some Line) None (Least DataReturn) (record { rest = omega arith; content = omega arith }) tt
step_least TrailerStart b = trailer_least TrailerStart b refl refl
step_least TrailerReturn b =
    elim (b == 10) as (λ t. Least TrailerReturn (if t then Done else TrailerText)) [
      | true ↦ record { rest = omega arith; content = omega arith }
      | false ↦ record { rest = omega arith; content = omega arith }
    ]
step_least TrailerText b =
    elim (b == 10) as (λ t. Least TrailerText (if t then TrailerStart else TrailerText)) [
      | true ↦ record { rest = omega arith; content = omega arith }
      | false ↦ record { rest = omega arith; content = omega arith }
    ]
step_least Done b = tt

keeps_least : (phase next : Phase) (b : ℕ) (bytes content : List ℕ) (t : Bool) → is_data phase ≡ t → Least phase next
    → Keeps t b (Accepts next bytes) content
    → ((c : List ℕ) → Accepts next bytes c → (least_rest next ≤ length bytes) × (begun_content next ≤ length c))
    → (least_rest phase ≤ suc (length bytes)) × (begun_content phase ≤ length content)
keeps_least phase next b bytes content true e least h far =
    let there = far h.0 h.2 in
    let byte : content_byte phase ≡ 1 = ap (λ (t : Bool). if t then 1 else 0) e in
    (omega (arith, least.rest, there.0), omega (arith, least.content, there.1, byte, ap length h.1))
keeps_least phase next b bytes content false e least h far =
    let there = far content h in
    let byte : content_byte phase ≡ 0 = ap (λ (t : Bool). if t then 1 else 0) e in
    (omega (arith, least.rest, there.0), omega (arith, least.content, there.1, byte))

some_least : (phase : Phase) (b : ℕ) (bytes content : List ℕ) (o : Option Phase) → AllSome o (Least phase)
    → OnSome o (λ next. Keeps (is_data phase) b (Accepts next bytes) content)
    → ((next : Phase) (c : List ℕ) → Accepts next bytes c → (least_rest next ≤ length bytes) × (begun_content next ≤ length c))
    → (least_rest phase ≤ suc (length bytes)) × (begun_content phase ≤ length content)
some_least phase b bytes content None least h far = absurd h
some_least phase b bytes content (Some next) least h far = keeps_least phase next b bytes content (is_data phase) refl least h (far next)

done_least : (phase : Phase) (content : List ℕ) → is_done phase ≡ true → (least_rest phase ≤ 0) × (begun_content phase ≤ length content)
unfolding least_rest begun_content
done_least Done content h = (omega arith, omega arith)
done_least Line content h = absurd (false≢true h)
done_least (Size digits size) content h = absurd (false≢true h)
done_least (Pad size) content h = absurd (false≢true h)
done_least (Extension size) content h = absurd (false≢true h)
done_least (SizeReturn size) content h = absurd (false≢true h)
done_least (Data left) content h = absurd (false≢true h)
done_least DataEnd content h = absurd (false≢true h)
done_least DataReturn content h = absurd (false≢true h)
done_least TrailerStart content h = absurd (false≢true h)
done_least TrailerReturn content h = absurd (false≢true h)
done_least TrailerText content h = absurd (false≢true h)

-- no rest is shorter
pub accepts_least : (bytes : List ℕ) (phase : Phase) (content : List ℕ) → Accepts phase bytes content
    → (least_rest phase ≤ length bytes) × (begun_content phase ≤ length content)
accepts_least [] phase content h = done_least phase content h.0
accepts_least (b ∷ bytes) phase content h =
    some_least phase b bytes content (next_phase phase b) (step_least phase b) h (λ next c k. accepts_least bytes next c k)

-- ---- the shortest rest

-- what is left of a chunk is never nothing
abbrev pub IsSane : Phase → Type 0
IsSane (Data left) = 0 < left
IsSane Line = Unit {0}
IsSane (Size digits size) = Unit {0}
IsSane (Pad size) = Unit {0}
IsSane (Extension size) = Unit {0}
IsSane (SizeReturn size) = Unit {0}
IsSane DataEnd = Unit {0}
IsSane DataReturn = Unit {0}
IsSane TrailerStart = Unit {0}
IsSane TrailerReturn = Unit {0}
IsSane TrailerText = Unit {0}
IsSane Done = Unit {0}

line_sane : (size : ℕ) (t : Bool) → (size == 0) ≡ t → IsSane (if t then TrailerStart else Data size)
line_sane size true e = tt
line_sane size false e = positive size e

data_sane : (left : ℕ) (t : Bool) → (left == 1) ≡ t → 0 < left → IsSane (if t then DataEnd else Data (left - 1))
data_sane left true e some = tt
data_sane left false e some = elim (eqb_tells left 1) [ inl w ↦ absurd (false≢true (sym e ∙ w.0)) | inr w ↦ omega (arith, w.1, some) ]

after_sane : (size b : ℕ) → AllSome (after_size size b) IsSane
after_sane size b = all_if (is_ows b) (Some (Pad size)) _ IsSane tt
    (all_if (b == 59) (Some (Extension size)) _ IsSane tt (all_if (b == 13) (Some (SizeReturn size)) None IsSane tt tt))

pub step_sane : (phase : Phase) (b : ℕ) → IsSane phase → AllSome (next_phase phase b) IsSane
unfolding next_phase
step_sane Line b h = all_if (is_ascii_hexdigit b) (Some (Size 1 (digit_value b))) None IsSane tt tt
step_sane (Size digits size) b h = all_if (is_ascii_hexdigit b) _ (after_size size b) IsSane
    (all_if (nat_lt digits 16) (Some (Size (digits + 1) (size * 16 + digit_value b))) None IsSane tt tt) (after_sane size b)
step_sane (Pad size) b h = after_sane size b
step_sane (Extension size) b h =
    all_if (b == 13) (Some (SizeReturn size)) _ IsSane tt (all_if (b == 10) None (Some (Extension size)) IsSane tt tt)
step_sane (SizeReturn size) b h = all_if (b == 10) (Some (after_chunk_line size)) None IsSane (line_sane size (size == 0) refl) tt
step_sane (Data left) b h = data_sane left (left == 1) refl h
step_sane DataEnd b h = all_if (b == 13) (Some DataReturn) None IsSane tt tt
step_sane DataReturn b h = all_if (b == 10) (Some Line) None IsSane tt tt
step_sane TrailerStart b h = elim (b == 10) as (λ t. IsSane (if t then Done else (if b == 13 then TrailerReturn else TrailerText))) [
  | true ↦ tt
  | false ↦ elim (b == 13) as (λ t. IsSane (if t then TrailerReturn else TrailerText)) [ true ↦ tt | false ↦ tt ]
]
step_sane TrailerReturn b h = elim (b == 10) as (λ t. IsSane (if t then Done else TrailerText)) [ true ↦ tt | false ↦ tt ]
step_sane TrailerText b h = elim (b == 10) as (λ t. IsSane (if t then TrailerStart else TrailerText)) [ true ↦ tt | false ↦ tt ]
step_sane Done b h = tt

-- some rest of the least length completes the body
pub record Reaches (phase : Phase) : Type 0 where
  pub more : List ℕ
  pub content : List ℕ
  pub accepts : Accepts phase more content
  pub length_is : length more ≡ least_rest phase
  pub content_is : length content ≡ begun_content phase

record ReachesAfter (size : ℕ) : Type 0 where
  more : List ℕ
  content : List ℕ
  accepts : Accepts (after_chunk_line size) more content
  length_is : length more ≡ least_after size
  content_is : length content ≡ size

trailer_feed : Accepts TrailerStart (10 ∷ []) []
unfolding next_phase
trailer_feed = (refl, refl)

-- "0" CR LF LF
abbrev shortest : List ℕ
shortest = 48 ∷ 13 ∷ 10 ∷ 10 ∷ []

shortest_accepted : Accepts Line shortest []
unfolding next_phase
shortest_accepted = (refl, refl)

after_reach : (size : ℕ) → ReachesAfter size
after_reach zero = record {
  more = 10 ∷ [];
  content = [];
  accepts = trailer_feed;
  length_is = refl;
  content_is = refl;
}
after_reach (suc n) =
    let some : (suc n == 0) ≡ false = elim (eqb_tells (suc n) 0) [ inl w ↦ absurd (omega (arith, w.1)) | inr w ↦ w.0 ] in
    let part : List ℕ = replicate n 0 in
    let none : List ℕ = [] in
    let len : length part ≡ n = length-replicate n 0 in
    let same : after_chunk_line (suc n) ≡ Data (suc n) = ap (λ (t : Bool). if t then TrailerStart else Data (suc n)) some in
    record {
      more = (0 ∷ part) ++ (13 ∷ 10 ∷ shortest);
      content = (0 ∷ part) ++ [];
      accepts = subst (λ (p : Phase). Accepts p ((0 ∷ part) ++ (13 ∷ 10 ∷ shortest)) ((0 ∷ part) ++ [])) (sym same)
          (data_accepted n 0 part shortest [] len shortest_accepted);
      length_is = subst (λ (t : Bool). length ((0 ∷ part) ++ (13 ∷ 10 ∷ shortest)) ≡ (if t then 1 else suc n + 6)) (sym some)
          (omega (arith, length-append (0 ∷ part) (13 ∷ 10 ∷ shortest), len));
      content_is = omega (arith, length-append (0 ∷ part) none, len);
    }

pub reach : (phase : Phase) → IsSane phase → is_done phase ≡ false → Reaches phase
unfolding least_rest begun_content next_phase
reach Line sane h = record { more = shortest; content = []; accepts = shortest_accepted; length_is = refl; content_is = refl }
reach (Size digits size) sane h =
    let r = after_reach size in
    record {
      more = 13 ∷ 10 ∷ r.more;
      content = r.content;
      accepts = text_after (Size digits size) size None r.more r.content (size_reads digits size) tt r.accepts;
      length_is = omega (arith, r.length_is);
      content_is = r.content_is;
    }
reach (Pad size) sane h =
    let r = after_reach size in
    record {
      more = 13 ∷ 10 ∷ r.more;
      content = r.content;
      accepts = text_after (Pad size) size None r.more r.content (pad_reads size) tt r.accepts;
      length_is = omega (arith, r.length_is);
      content_is = r.content_is;
    }
reach (Extension size) sane h =
    let r = after_reach size in
    record {
      more = 13 ∷ 10 ∷ r.more;
      content = r.content;
      accepts = r.accepts;
      length_is = omega (arith, r.length_is);
      content_is = r.content_is;
    }
reach (SizeReturn size) sane h =
    let r = after_reach size in
    record {
      more = 10 ∷ r.more;
      content = r.content;
      accepts = end_of_line size r.more r.content r.accepts;
      length_is = omega (arith, r.length_is);
      content_is = r.content_is;
    }
reach (Data zero) sane h = absurd (omega arith)
reach (Data (suc n)) sane h =
    let part : List ℕ = replicate n 0 in
    let none : List ℕ = [] in
    let len : length part ≡ n = length-replicate n 0 in
    record {
      more = (0 ∷ part) ++ (13 ∷ 10 ∷ shortest);
      content = (0 ∷ part) ++ [];
      accepts = data_accepted n 0 part shortest [] len shortest_accepted;
      length_is = omega (arith, length-append (0 ∷ part) (13 ∷ 10 ∷ shortest), len);
      content_is = omega (arith, length-append (0 ∷ part) none, len);
    }
reach DataEnd sane h = record { more = 13 ∷ 10 ∷ shortest; content = []; accepts = shortest_accepted; length_is = refl; content_is = refl }
reach DataReturn sane h = record { more = 10 ∷ shortest; content = []; accepts = shortest_accepted; length_is = refl; content_is = refl }
reach TrailerStart sane h = record { more = 10 ∷ []; content = []; accepts = trailer_feed; length_is = refl; content_is = refl }
reach TrailerReturn sane h = record { more = 10 ∷ []; content = []; accepts = (refl, refl); length_is = refl; content_is = refl }
reach TrailerText sane h = record { more = 10 ∷ 10 ∷ []; content = []; accepts = (refl, refl); length_is = refl; content_is = refl }
reach Done sane h = absurd (false≢true (sym h))
