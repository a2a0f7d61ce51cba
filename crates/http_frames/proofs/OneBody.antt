-- Of a body at most one reading is so.
use Rattle.std.proofs.Common.{◌≡◌, ℕ, ◌+◌, ◌<◌, List, [], ◌∷◌, ◌++◌, length, refl, sym, ap, ap₂, ◌∙◌, subst, arith, append_assoc, append-nil, length-append, inl, inr}
use Rattle.std.specs.Prelude.{Option, Some, None, Result, Ok, Err}
use Rattle.http_frames.specs.declared.limits.Limits.{Limits}
use Rattle.http_frames.specs.declared.framing.Framing.{Framing}
use Rattle.http_frames.specs.declared.framing.Framing.TheVariants.{Sized, Chunked as InChunks, ToEnd}
use Rattle.http_frames.specs.declared.frame_error.FrameError.{FrameError}
use Rattle.http_frames.specs.declared.frame_error.FrameError.TheVariants as errors
use Rattle.http_frames.specs.Chunks.{Chunked, IsBodyWithin, CanBeBody, IsLineStart, StopsWrong, StopsLong}
use Rattle.http_frames.specs.Frames.{FrontBody, RefusesChunked}
use Rattle.http_frames.proofs.LinePlaces.{two_fronts, one_body, one_place, body_ends}
use Rattle.http_frames.proofs.FrameLaws.{BodyMeans}

-- the first byte with which no continuation is a body within the limits
record Stop (limits : Limits) (bytes : List ℕ) : Type 0 where
  before : List ℕ
  byte : ℕ
  rest : List ℕ
  split : bytes ≡ before ++ byte ∷ rest
  could_be : CanBeBody limits before
  never : (more content : List ℕ) → ¬ (IsBodyWithin limits (before ++ byte ∷ more) content)

abbrev wrong_stop : (limits : Limits) (bytes : List ℕ) (place : ℕ) → StopsWrong limits bytes place → Stop limits bytes
wrong_stop limits bytes place s = record {
  before = s.before;
  byte = s.wrong;
  rest = s.rest;
  split = s.split;
  could_be = s.could_be;
  never = λ more content body. s.never more content body.chunked;
}

abbrev long_stop : (limits : Limits) (bytes : List ℕ) → StopsLong limits bytes → Stop limits bytes
long_stop limits bytes s = record {
  before = s.before;
  byte = s.last;
  rest = s.rest;
  split = s.split;
  could_be = s.could_be;
  never = s.never;
}

-- a text that could be a body does not go on over the byte
not_over : (limits : Limits) (bytes : List ℕ) (s : Stop limits bytes) (z : List ℕ) → CanBeBody limits (s.before ++ s.byte ∷ z) → ⊥
not_over limits bytes s z can =
    s.never (z ++ can.0) can.1
    (subst (λ (l : List ℕ). IsBodyWithin limits l can.1) (append_assoc s.before (s.byte ∷ z) can.0) can.2)

same_stop : (limits : Limits) (bytes : List ℕ) (s t : Stop limits bytes) → (s.before ≡ t.before) × (s.byte ≡ t.byte)
same_stop limits bytes s t =
    elim (two_fronts s.before t.before (s.byte ∷ s.rest) (t.byte ∷ t.rest) (sym s.split ∙ t.split)) [
      | inl w ↦ (let z = after s t.before (t.byte ∷ t.rest) w.0 w.1 w.2 t.could_be in (sym z.0, head s.byte t.byte s.rest t.rest z.1))
      | inr w ↦ (let z = after t s.before (s.byte ∷ s.rest) w.0 w.1 w.2 s.could_be in (z.0, sym (head t.byte s.byte t.rest s.rest z.1)))
    ]
  where
    head : (b c : ℕ) (xs ys : List ℕ) → b ∷ xs ≡ c ∷ ys → b ≡ c
    head b c xs ys e = cc

    after : (u : Stop limits bytes) (later rest z : List ℕ) → later ≡ u.before ++ z → u.byte ∷ u.rest ≡ z ++ rest
        → CanBeBody limits later → (later ≡ u.before) × (u.byte ∷ u.rest ≡ rest)
    after u later rest [] e f can = (e ∙ append-nil u.before, f)
    after u later rest (b ∷ z) e f can =
        let same : b ≡ u.byte = cc in
        let over : later ≡ u.before ++ u.byte ∷ z = e ∙ ap (λ (c : ℕ). u.before ++ c ∷ z) same in
        absurd (not_over limits bytes u z (subst (CanBeBody limits) over can))

-- a whole body at the front of the bytes ends where they stop
whole_stop : (limits : Limits) (bytes body rest content : List ℕ) → bytes ≡ body ++ rest → IsBodyWithin limits body content
    → (s : Stop limits bytes) → s.before ≡ body
whole_stop limits bytes body rest content split within s =
    elim (two_fronts s.before body (s.byte ∷ s.rest) rest (sym s.split ∙ split)) [
      | inl w ↦ longer w.0 w.1 w.2
      | inr w ↦ shorter w.0 w.1
    ]
  where
    longer : (z : List ℕ) → body ≡ s.before ++ z → s.byte ∷ s.rest ≡ z ++ rest → s.before ≡ body
    longer [] e f = sym (e ∙ append-nil s.before)
    longer (b ∷ z) e f =
        let same : b ≡ s.byte = cc in
        let over : body ≡ s.before ++ s.byte ∷ z = e ∙ ap (λ (c : ℕ). s.before ++ c ∷ z) same in
        absurd (s.never z content (subst (λ (l : List ℕ). IsBodyWithin limits l content) over within))

    none : (z more : List ℕ) → z ++ more ≡ [] → z ≡ []
    none [] more e = refl
    none (b ∷ z) more e = absurd (cc)

    shorter : (z : List ℕ) → s.before ≡ body ++ z → s.before ≡ body
    shorter z e =
        let can = s.could_be in
        let text : s.before ++ can.0 ≡ body ++ (z ++ can.0) = ap (λ (l : List ℕ). l ++ can.0) e ∙ append_assoc body z can.0 in
        let ends = one_body body (z ++ can.0) content can.1 within.chunked (subst (λ (l : List ℕ). Chunked l can.1) text can.2.chunked) in
        e ∙ ap (λ (l : List ℕ). body ++ l) (none z can.0 ends.0) ∙ append-nil body

-- ---- bodies in chunks

whole_not_wrong : (limits : Limits) (bytes body rest content : List ℕ) (place : ℕ) → bytes ≡ body ++ rest
    → IsBodyWithin limits body content → StopsWrong limits bytes place → ⊥
whole_not_wrong limits bytes body rest content place split within s =
    let same = whole_stop limits bytes body rest content split within (wrong_stop limits bytes place s) in
    body_ends body content place within.chunked (subst (λ (l : List ℕ). IsLineStart l place) same s.line)

whole_not_long : (limits : Limits) (bytes body rest content : List ℕ) → bytes ≡ body ++ rest → IsBodyWithin limits body content
    → StopsLong limits bytes → ⊥
whole_not_long limits bytes body rest content split within s =
    let same = whole_stop limits bytes body rest content split within (long_stop limits bytes s) in
    let begins = s.begins in
    let ends = one_body body (s.last ∷ begins.0) content begins.1 within.chunked
    (subst (λ (l : List ℕ). Chunked (l ++ s.last ∷ begins.0) begins.1) same begins.2) in
    none s.last begins.0 ends.0
  where
    none : (b : ℕ) (more : List ℕ) → b ∷ more ≡ [] → ⊥
    none b more e = absurd (cc)

waits_no_stop : (limits : Limits) (bytes : List ℕ) → CanBeBody limits bytes → Stop limits bytes → ⊥
waits_no_stop limits bytes can s = not_over limits bytes s s.rest (subst (CanBeBody limits) s.split can)

wrong_not_long : (limits : Limits) (bytes : List ℕ) (place : ℕ) → StopsWrong limits bytes place → StopsLong limits bytes → ⊥
wrong_not_long limits bytes place s t =
    let same = same_stop limits bytes (long_stop limits bytes t) (wrong_stop limits bytes place s) in
    let begins = t.begins in
    s.never begins.0 begins.1
    (subst (λ (l : List ℕ). Chunked l begins.1) (ap₂ (λ (l : List ℕ) (b : ℕ). l ++ b ∷ begins.0) same.0 same.1) begins.2)

one_wrong_place : (limits : Limits) (bytes : List ℕ) (p q : ℕ) → StopsWrong limits bytes p → StopsWrong limits bytes q → p ≡ q
one_wrong_place limits bytes p q s t =
    let same = same_stop limits bytes (wrong_stop limits bytes p s) (wrong_stop limits bytes q t) in
    one_place t.before p q (subst (λ (l : List ℕ). IsLineStart l p) same.0 s.line) t.line

abbrev pub Reading : Type 0
Reading = Result (Option (List ℕ)) FrameError

one_refusal : (limits : Limits) (front : ℕ) (bytes : List ℕ) (e f : FrameError) → RefusesChunked limits front bytes e
    → RefusesChunked limits front bytes f → e ≡ f
one_refusal limits front bytes (errors.Chunk at) (errors.Chunk to) h k =
    ap errors.Chunk (h.1 ∙ ap (λ (n : ℕ). front + n) (one_wrong_place limits bytes h.0 k.0 h.2 k.2) ∙ sym k.1)
one_refusal limits front bytes errors.BodyTooLong errors.BodyTooLong h k = refl
one_refusal limits front bytes (errors.Chunk at) errors.BodyTooLong h k = absurd (wrong_not_long limits bytes h.0 h.2 k)
one_refusal limits front bytes errors.BodyTooLong (errors.Chunk at) h k = absurd (wrong_not_long limits bytes k.0 k.2 h)
one_refusal limits front bytes (errors.Chunk at) f h k = absurd k
one_refusal limits front bytes errors.BodyTooLong f h k = absurd k
one_refusal limits front bytes e f h k = absurd h

refusal_stop : (limits : Limits) (front : ℕ) (bytes : List ℕ) (e : FrameError) → RefusesChunked limits front bytes e → Stop limits bytes
refusal_stop limits front bytes (errors.Chunk at) h = wrong_stop limits bytes h.0 h.2
refusal_stop limits front bytes errors.BodyTooLong h = long_stop limits bytes h
refusal_stop limits front bytes e h = absurd h

whole_no_refusal : (limits : Limits) (front : ℕ) (bytes content : List ℕ) (e : FrameError) → FrontBody limits InChunks bytes content
    → RefusesChunked limits front bytes e → ⊥
whole_no_refusal limits front bytes content (errors.Chunk at) b h = whole_not_wrong limits bytes b.body b.rest content h.0 b.split b.is_body h.2
whole_no_refusal limits front bytes content errors.BodyTooLong b h = whole_not_long limits bytes b.body b.rest content b.split b.is_body h
whole_no_refusal limits front bytes content e b h = h

one_content : (limits : Limits) (bytes c d : List ℕ) → FrontBody limits InChunks bytes c → FrontBody limits InChunks bytes d → c ≡ d
one_content limits bytes c d a b = elim (two_fronts a.body b.body a.rest b.rest (sym a.split ∙ b.split)) [
  | inl w ↦ sym (one_body a.body w.0 c d a.is_body.chunked (subst (λ (l : List ℕ). Chunked l d) w.1 b.is_body.chunked)).1
  | inr w ↦ (one_body b.body w.0 d c b.is_body.chunked (subst (λ (l : List ℕ). Chunked l c) w.1 a.is_body.chunked)).1
]

one_chunked : (limits : Limits) (front : ℕ) (bytes : List ℕ) (x y : Reading) → BodyMeans limits front InChunks bytes x
    → BodyMeans limits front InChunks bytes y → x ≡ y
one_chunked limits front bytes (Ok (Some c)) (Ok (Some d)) h k = ap (λ (l : List ℕ). Ok (Some l)) (one_content limits bytes c d h k)
one_chunked limits front bytes (Ok None) (Ok None) h k = refl
one_chunked limits front bytes (Err e) (Err f) h k = ap (λ (g : FrameError). Err g) (one_refusal limits front bytes e f h k)
one_chunked limits front bytes (Ok (Some c)) (Ok None) h k = absurd (k.1 h.body h.rest c h.split h.is_body.chunked)
one_chunked limits front bytes (Ok None) (Ok (Some d)) h k = absurd (h.1 k.body k.rest d k.split k.is_body.chunked)
one_chunked limits front bytes (Ok (Some c)) (Err f) h k = absurd (whole_no_refusal limits front bytes c f h k)
one_chunked limits front bytes (Err e) (Ok (Some d)) h k = absurd (whole_no_refusal limits front bytes d e k h)
one_chunked limits front bytes (Ok None) (Err f) h k = absurd (waits_no_stop limits bytes h.0 (refusal_stop limits front bytes f k))
one_chunked limits front bytes (Err e) (Ok None) h k = absurd (waits_no_stop limits bytes k.0 (refusal_stop limits front bytes e h))

-- ---- bodies by length, and to the end

same_front : (a b x y : List ℕ) → a ++ x ≡ b ++ y → length a ≡ length b → a ≡ b
same_front [] [] x y e l = refl
same_front [] (d ∷ b) x y e l = absurd (omega (arith, l))
same_front (c ∷ a) [] x y e l = absurd (omega (arith, l))
same_front (c ∷ a) (d ∷ b) x y e l =
    let heads : c ≡ d = cc in
    let after : a ++ x ≡ b ++ y = cc in
    ap₂ (λ (h : ℕ) (t : List ℕ). h ∷ t) heads (same_front a b x y after (omega (arith, l)))

one_sized : (limits : Limits) (front n : ℕ) (bytes : List ℕ) (x y : Reading) → BodyMeans limits front (Sized n) bytes x
    → BodyMeans limits front (Sized n) bytes y → x ≡ y
one_sized limits front n bytes (Ok (Some c)) (Ok (Some d)) h k =
    ap (λ (l : List ℕ). Ok (Some l))
    (h.is_body.1 ∙ same_front h.body k.body h.rest k.rest (sym h.split ∙ k.split) (h.is_body.0 ∙ sym k.is_body.0) ∙ sym k.is_body.1)
one_sized limits front n bytes (Ok None) (Ok None) h k = refl
one_sized limits front n bytes (Ok (Some c)) (Ok None) h k =
    absurd (omega (arith, k, h.is_body.0, ap length h.split, length-append h.body h.rest))
one_sized limits front n bytes (Ok None) (Ok (Some d)) h k =
    absurd (omega (arith, h, k.is_body.0, ap length k.split, length-append k.body k.rest))
one_sized limits front n bytes x (Err f) h k = absurd k
one_sized limits front n bytes (Err e) y h k = absurd h

end_is : (limits : Limits) (bytes c : List ℕ) → FrontBody limits ToEnd bytes c → c ≡ bytes
end_is limits bytes c h =
    h.is_body.1 ∙ sym (h.split ∙ ap (λ (l : List ℕ). h.body ++ l) (h.to_end refl) ∙ append-nil h.body)

not_too_long : (limits : Limits) (bytes c : List ℕ) → FrontBody limits ToEnd bytes c → limits.content < length bytes → ⊥
not_too_long limits bytes c h long = omega (arith, long, h.is_body.0, ap length h.is_body.1, ap length (end_is limits bytes c h))

one_to_end : (limits : Limits) (front : ℕ) (bytes : List ℕ) (x y : Reading) → BodyMeans limits front ToEnd bytes x
    → BodyMeans limits front ToEnd bytes y → x ≡ y
one_to_end limits front bytes (Ok (Some c)) (Ok (Some d)) h k =
    ap (λ (l : List ℕ). Ok (Some l)) (end_is limits bytes c h ∙ sym (end_is limits bytes d k))
one_to_end limits front bytes (Err e) (Err f) h k = ap (λ (g : FrameError). Err g) (h.0 ∙ sym k.0)
one_to_end limits front bytes (Ok (Some c)) (Err f) h k = absurd (not_too_long limits bytes c h k.1)
one_to_end limits front bytes (Err e) (Ok (Some d)) h k = absurd (not_too_long limits bytes d k h.1)
one_to_end limits front bytes (Ok None) y h k = absurd h
one_to_end limits front bytes x (Ok None) h k = absurd k

pub one_reading : (limits : Limits) (front : ℕ) (framing : Framing) (bytes : List ℕ) (x y : Reading)
    → BodyMeans limits front framing bytes x → BodyMeans limits front framing bytes y → x ≡ y
one_reading limits front (Sized n) bytes x y = one_sized limits front n bytes x y
one_reading limits front InChunks bytes x y = one_chunked limits front bytes x y
one_reading limits front ToEnd bytes x y = one_to_end limits front bytes x y
