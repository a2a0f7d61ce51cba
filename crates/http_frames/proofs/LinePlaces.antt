-- In a body in chunks at most one place is where the line begins in which bytes end.
use Rattle.std.proofs.Common.{◌≡◌, ℕ, zero, suc, ◌+◌, ◌-◌, ◌*◌, ◌<◌, ◌≤◌, List, [], ◌∷◌, ◌++◌, length, refl, sym, ap, ap₂, ◌∙◌, subst, arith, append-nil, Bool, true, false, not, inl, inr}
use Rattle.std.specs.Prelude.{◌⊎◌, Option, Some, None, if◌then◌else◌, ◌==◌, ◌||◌, nat_lt}
use Rattle.std.specs.List.{AllPass}
use Rattle.std.specs.Char.{is_ascii_hexdigit, digit_value}
use Rattle.std.proofs.lemmas.Bool.{false≢true}
use Rattle.std.proofs.lemmas.Bool.Decides.{eqb_tells}
use Rattle.std.proofs.lemmas.List.Elements.{All-head, All-tail, All-nil, All-cons}
use Rattle.httparse.specs.Grammar.{is_ows}
use Rattle.http_frames.specs.declared.chunks.Phase.{Phase}
use Rattle.http_frames.specs.declared.chunks.Phase.TheVariants.{Line, Size, Pad, Extension, SizeReturn, Data, DataEnd, DataReturn, Trailer as TrailerStart, TrailerReturn, TrailerText, Done}
use Rattle.http_frames.specs.Phases.{next_phase, after_size, after_chunk_line, is_data, is_done, least_rest, least_after}
use Rattle.http_frames.specs.Chunks.{Chunked, AreChunks, LineBegins, IsLineStart, is_trailer_byte}
use Rattle.http_frames.proofs.Accepts.{OnSome, Keeps, Accepts, sound}
use Rattle.http_frames.proofs.Complete.{complete}
use Rattle.http_frames.proofs.Bounds.{AllSome, all_if, accepts_least}
use Rattle.http_frames.proofs.WalkBodies.{kept_back}

-- ---- two fronts of the same bytes

-- one of the two fronts begins with the other
pub two_fronts : (a b x y : List ℕ) → a ++ x ≡ b ++ y
    → ((z : List ℕ) × (b ≡ a ++ z) × (x ≡ z ++ y)) ⊎ ((z : List ℕ) × (a ≡ b ++ z) × (y ≡ z ++ x))
two_fronts [] b x y e = inl (b, refl, e)
two_fronts (c ∷ a) [] x y e = inr (c ∷ a, refl, sym e)
two_fronts (c ∷ a) (d ∷ b) x y e =
    let same : c ≡ d = cc in
    let after : a ++ x ≡ b ++ y = cc in
    elim (two_fronts a b x y after) [
      | inl w ↦ inl (w.0, ap₂ (λ (h : ℕ) (l : List ℕ). h ∷ l) (sym same) w.1, w.2)
      | inr w ↦ inr (w.0, ap₂ (λ (h : ℕ) (l : List ℕ). h ∷ l) same w.1, w.2)
    ]

-- ---- where bytes lead

-- the bytes lead from one phase to the other
abbrev pub Leads : Phase → List ℕ → Phase → Type 0
Leads phase [] last = phase ≡ last
Leads phase (b ∷ bytes) last = OnSome (next_phase phase b) (λ next. Leads next bytes last)

on_both : (o : Option Phase) (P Q : Phase → Type 0) (R : Type 0) → ((next : Phase) → P next → Q next → R) → OnSome o P → OnSome o Q → R
on_both None P Q R f h k = absurd h
on_both (Some next) P Q R f h k = f next h k

on_all : (o : Option Phase) (P Q : Phase → Type 0) (R : Type 0) → ((next : Phase) → P next → Q next → R) → AllSome o P → OnSome o Q → R
on_all None P Q R f h k = absurd k
on_all (Some next) P Q R f h k = f next h k

leads_one : (bytes : List ℕ) (phase p q : Phase) → Leads phase bytes p → Leads phase bytes q → p ≡ q
leads_one [] phase p q h k = sym h ∙ k
leads_one (b ∷ bytes) phase p q h k =
    on_both (next_phase phase b) (λ next. Leads next bytes p) (λ next. Leads next bytes q) (p ≡ q)
    (λ next. leads_one bytes next p q) h k

leads_after : (xs ys : List ℕ) (phase p q : Phase) → Leads phase xs p → Leads phase (xs ++ ys) q → Leads p ys q
leads_after [] ys phase p q h k = subst (λ (r : Phase). Leads r ys q) h k
leads_after (b ∷ xs) ys phase p q h k =
    on_both (next_phase phase b) (λ next. Leads next xs p) (λ next. Leads next (xs ++ ys) q) (Leads p ys q)
    (λ next. leads_after xs ys next p q) h k

-- the front of an accepted text leads somewhere, and there the rest is accepted
record Halfway (phase : Phase) (xs ys : List ℕ) : Type 0 where
  at : Phase
  content : List ℕ
  leads : Leads phase xs at
  accepts : Accepts at ys content

halfway : (xs ys : List ℕ) (phase : Phase) (content : List ℕ) → Accepts phase (xs ++ ys) content → Halfway phase xs ys
halfway [] ys phase content h = record { at = phase; content = content; leads = refl; accepts = h }
halfway (b ∷ xs) ys phase content h =
    let found = further (next_phase phase b) (λ next rest k. halfway xs ys next rest k) h in
    record { at = found.0; content = found.1; leads = found.2; accepts = found.3 }
  where
    further : (o : Option Phase) → ((next : Phase) (rest : List ℕ) → Accepts next (xs ++ ys) rest → Halfway next xs ys)
        → OnSome o (λ next. Keeps (is_data phase) b (Accepts next (xs ++ ys)) content)
        → (at : Phase) × (rest : List ℕ) × OnSome o (λ next. Leads next xs at) × Accepts at ys rest
    further None go h = absurd h
    further (Some next) go h =
        let k = kept_back (is_data phase) b (Accepts next (xs ++ ys)) content h in
        let w = go next k.0 k.2 in
        (w.at, w.content, w.leads, w.accepts)

done_tells : (phase : Phase) → is_done phase ≡ true → phase ≡ Done
done_tells Done h = refl
done_tells phase h = absurd (false≢true h)

-- a body leads to the end
body_leads : (bytes content : List ℕ) → Chunked bytes content → Leads Line bytes Done
body_leads bytes content h =
    let w = halfway bytes [] Line content (subst (λ (l : List ℕ). Accepts Line l content) (sym (append-nil bytes)) (complete bytes content h)) in
    subst (Leads Line bytes) (done_tells w.at w.accepts.0) w.leads

done_ends : (b : ℕ) (P : Phase → Type 0) → OnSome (next_phase Done b) P → ⊥
unfolding next_phase
done_ends b P h = h

-- no body begins with another, and each has one content
pub one_accepted : (xs ys : List ℕ) (phase : Phase) (c d : List ℕ) → Accepts phase xs c → Accepts phase (xs ++ ys) d → (ys ≡ []) × (d ≡ c)
one_accepted [] [] phase c d h k = (refl, k.1 ∙ sym h.1)
one_accepted [] (y ∷ ys) phase c d h k =
    absurd (done_ends y (λ next. Keeps (is_data Done) y (Accepts next ys) d)
    (subst (λ (p : Phase). Accepts p (y ∷ ys) d) (done_tells phase h.0) k))
one_accepted (b ∷ xs) ys phase c d h k =
    on_both (next_phase phase b) (λ next. Keeps (is_data phase) b (Accepts next xs) c)
    (λ next. Keeps (is_data phase) b (Accepts next (xs ++ ys)) d) ((ys ≡ []) × (d ≡ c))
    (λ next h k. (
    let u = kept_back (is_data phase) b (Accepts next xs) c h in
    let v = kept_back (is_data phase) b (Accepts next (xs ++ ys)) d k in
    let w = one_accepted xs ys next u.0 v.0 u.2 v.2 in
    (w.0, v.1 ∙ ap (λ (l : List ℕ). if is_data phase then b ∷ l else l) w.1 ∙ sym u.1)))
    h k

pub one_body : (xs ys c d : List ℕ) → Chunked xs c → Chunked (xs ++ ys) d → (ys ≡ []) × (d ≡ c)
one_body xs ys c d h k = one_accepted xs ys Line c d (complete xs c h) (complete (xs ++ ys) d k)

-- ---- whole chunks lead to a chunk line

-- after digits there is at least one
abbrev IsCounted : Phase → Type 0
IsCounted (Size digits size) = 1 ≤ digits
IsCounted Line = Unit {0}
IsCounted (Pad size) = Unit {0}
IsCounted (Extension size) = Unit {0}
IsCounted (SizeReturn size) = Unit {0}
IsCounted (Data left) = Unit {0}
IsCounted DataEnd = Unit {0}
IsCounted DataReturn = Unit {0}
IsCounted TrailerStart = Unit {0}
IsCounted TrailerReturn = Unit {0}
IsCounted TrailerText = Unit {0}
IsCounted Done = Unit {0}

after_counted : (size b : ℕ) → AllSome (after_size size b) IsCounted
after_counted size b = all_if (is_ows b) (Some (Pad size)) _ IsCounted tt
    (all_if (b == 59) (Some (Extension size)) _ IsCounted tt (all_if (b == 13) (Some (SizeReturn size)) None IsCounted tt tt))

step_counted : (phase : Phase) (b : ℕ) → AllSome (next_phase phase b) IsCounted
unfolding next_phase
step_counted Line b = all_if (is_ascii_hexdigit b) (Some (Size 1 (digit_value b))) None IsCounted (omega arith) tt
step_counted (Size digits size) b = all_if (is_ascii_hexdigit b) _ (after_size size b) IsCounted
    (all_if (nat_lt digits 16) (Some (Size (digits + 1) (size * 16 + digit_value b))) None IsCounted (omega arith) tt) (after_counted size b)
step_counted (Pad size) b = after_counted size b
step_counted (Extension size) b =
    all_if (b == 13) (Some (SizeReturn size)) _ IsCounted tt (all_if (b == 10) None (Some (Extension size)) IsCounted tt tt)
step_counted (SizeReturn size) b = all_if (b == 10) (Some (after_chunk_line size)) None IsCounted
    (elim (size == 0) as (λ t. IsCounted (if t then TrailerStart else Data size)) [ true ↦ tt | false ↦ tt ]) tt
step_counted (Data left) b = elim (left == 1) as (λ t. IsCounted (if t then DataEnd else Data (left - 1))) [ true ↦ tt | false ↦ tt ]
step_counted DataEnd b = all_if (b == 13) (Some DataReturn) None IsCounted tt tt
step_counted DataReturn b = all_if (b == 10) (Some Line) None IsCounted tt tt
step_counted TrailerStart b = elim (b == 10) as (λ t. IsCounted (if t then Done else (if b == 13 then TrailerReturn else TrailerText))) [
  | true ↦ tt
  | false ↦ elim (b == 13) as (λ t. IsCounted (if t then TrailerReturn else TrailerText)) [ true ↦ tt | false ↦ tt ]
]
step_counted TrailerReturn b = elim (b == 10) as (λ t. IsCounted (if t then Done else TrailerText)) [ true ↦ tt | false ↦ tt ]
step_counted TrailerText b = elim (b == 10) as (λ t. IsCounted (if t then TrailerStart else TrailerText)) [ true ↦ tt | false ↦ tt ]
step_counted Done b = tt

leads_counted : (bytes : List ℕ) (phase last : Phase) → IsCounted phase → Leads phase bytes last → IsCounted last
leads_counted [] phase last h k = subst IsCounted k h
leads_counted (b ∷ bytes) phase last h k =
    on_all (next_phase phase b) IsCounted (λ next. Leads next bytes last) (IsCounted last)
    (λ next. leads_counted bytes next last) (step_counted phase b) k

-- "0" CR LF CR LF
abbrev empty_body : List ℕ
empty_body = 48 ∷ 13 ∷ 10 ∷ 13 ∷ 10 ∷ []

-- a chunk of CR LF, and then none
abbrev lines_body : List ℕ
lines_body = 50 ∷ 13 ∷ 10 ∷ 13 ∷ 10 ∷ 13 ∷ 10 ∷ empty_body

abbrev zeros : ℕ → List ℕ → List ℕ
zeros zero tail = tail
zeros (suc n) tail = 48 ∷ zeros n tail

-- a size of as many digits as there may be
abbrev long_body : List ℕ
long_body = zeros 16 (13 ∷ 10 ∷ 13 ∷ 10 ∷ [])

empty_accepted : Accepts Line empty_body []
unfolding next_phase
empty_accepted = (refl, refl)

lines_accepted : Accepts Line lines_body (13 ∷ 10 ∷ [])
unfolding next_phase
lines_accepted = (10 ∷ [], refl, ([], refl, (refl, refl)))

long_accepted : Accepts Line long_body []
unfolding next_phase
long_accepted = (refl, refl)

size_step : (digits size : ℕ) (t : Bool) (P : Phase → Type 0) → nat_lt digits 16 ≡ t
    → OnSome (if t then Some (Size (digits + 1) (size * 16 + 0)) else None) P → (digits < 16) × P (Size (digits + 1) (size * 16 + 0))
size_step digits size true P e h = (grind (arith, e), h)
size_step digits size false P e h = absurd h

-- no more than 16 digits
size_limit : (k digits size : ℕ) (tail content : List ℕ) → Accepts (Size digits size) (zeros (suc k) tail) content → digits + suc k ≤ 16
unfolding next_phase
size_limit zero digits size tail content h =
    let w = size_step digits size (nat_lt digits 16) (λ next. Accepts next tail content) refl h in
    omega (arith, w.0)
size_limit (suc k) digits size tail content h =
    let w = size_step digits size (nat_lt digits 16) (λ next. Accepts next (zeros (suc k) tail) content) refl h in
    omega (arith, size_limit k (digits + 1) (size * 16 + 0) tail content w.1)

least_of : (size : ℕ) → 6 < least_after (suc size)
least_of size = elim (eqb_tells (suc size) 0) [
  | inl w ↦ absurd (omega (arith, w.1))
  | inr w ↦ subst (λ (t : Bool). 6 < (if t then 1 else suc size + 6)) (sym w.0) (omega arith)
]

-- only after whole chunks each of the three bodies is one
only_line : (phase : Phase) (c d e : List ℕ) → IsCounted phase → Accepts phase empty_body c → Accepts phase lines_body d
    → Accepts phase long_body e → phase ≡ Line
unfolding next_phase least_rest
only_line Line c d e some x y z = refl
only_line (Size digits size) c d e some x y z = absurd (let w = size_limit 15 digits size (13 ∷ 10 ∷ 13 ∷ 10 ∷ []) e z in omega (arith, w, some))
only_line (Pad size) c d e some x y z = absurd x
only_line (Extension zero) c d e some x y z = absurd y
only_line (Extension (suc size)) c d e some x y z =
    absurd (let w = (accepts_least empty_body (Extension (suc size)) c x).0 in omega (arith, w, least_of size))
only_line (SizeReturn size) c d e some x y z = absurd x
only_line (Data left) c d e some x y z = absurd (let w = (accepts_least empty_body (Data left) c x).0 in omega (arith, w))
only_line DataEnd c d e some x y z = absurd x
only_line DataReturn c d e some x y z = absurd x
only_line TrailerStart c d e some x y z = absurd y
only_line TrailerReturn c d e some x y z = absurd y
only_line TrailerText c d e some x y z = absurd y
only_line Done c d e some x y z = absurd x

chunks_lead : (bytes : List ℕ) → AreChunks bytes → Leads Line bytes Line
chunks_lead bytes are =
    let a = after empty_body [] empty_accepted in
    let b = after lines_body (13 ∷ 10 ∷ []) lines_accepted in
    let c = after long_body [] long_accepted in
    let ab = leads_one bytes Line b.at a.at b.leads a.leads in
    let ac = leads_one bytes Line c.at a.at c.leads a.leads in
    subst (Leads Line bytes)
    (only_line a.at a.content b.content c.content (leads_counted bytes Line a.at tt a.leads) a.accepts
    (subst (λ (p : Phase). Accepts p lines_body b.content) ab b.accepts)
    (subst (λ (p : Phase). Accepts p long_body c.content) ac c.accepts))
    a.leads
  where
    after : (body content : List ℕ) → Accepts Line body content → Halfway Line bytes body
    after body content h =
        let w = are body content (sound body Line content h) in
        halfway bytes body Line w.0 (complete (bytes ++ body) w.0 w.1)

-- ---- lines

-- a line begins
abbrev at_start : Phase → Bool
at_start Line = true
at_start DataEnd = true
at_start phase = false

-- a line has begun
abbrev inside : Phase → Bool
inside (Size digits size) = true
inside (Pad size) = true
inside (Extension size) = true
inside (SizeReturn size) = true
inside DataReturn = true
inside phase = false

abbrev IsInside : Phase → Type 0
IsInside phase = inside phase ≡ true

apart : (phase : Phase) → at_start phase ≡ true → IsInside phase → ⊥
apart Line h k = false≢true k
apart DataEnd h k = false≢true k
apart phase h k = false≢true h

after_no_line : (size : ℕ) (t : Bool) → (if t then TrailerStart else Data size) ≡ Line → ⊥
after_no_line size true h = false≢true (ap at_start h)
after_no_line size false h = false≢true (ap at_start h)

end_no_line : (left : ℕ) (t : Bool) → (if t then DataEnd else Data left) ≡ Line → ⊥
end_no_line left true h = absurd (cc)
end_no_line left false h = false≢true (ap at_start h)

data_no_line : (left : ℕ) (t : Bool) → Leads (if t then DataEnd else Data left) (10 ∷ []) Line → ⊥
unfolding next_phase
data_no_line left true h = h
data_no_line left false h = end_no_line (left - 1) (left == 1) h

-- before a line end that leads to a chunk line stands the end of a chunk
before_line : (phase : Phase) → Leads phase (13 ∷ 10 ∷ []) Line → at_start phase ≡ true
unfolding next_phase
before_line Line h = refl
before_line DataEnd h = refl
before_line (Size digits size) h = absurd (after_no_line size (size == 0) h)
before_line (Pad size) h = absurd (after_no_line size (size == 0) h)
before_line (Extension size) h = absurd (after_no_line size (size == 0) h)
before_line (SizeReturn size) h = absurd h
before_line (Data left) h = absurd (data_no_line (left - 1) (left == 1) h)
before_line DataReturn h = absurd h
before_line TrailerStart h = absurd (false≢true (ap at_start h))
before_line TrailerReturn h = absurd (false≢true (ap at_start h))
before_line TrailerText h = absurd (false≢true (ap at_start h))
before_line Done h = absurd h

leads_half : (xs ys : List ℕ) (phase last : Phase) → Leads phase (xs ++ ys) last
    → (at : Phase) × Leads phase xs at × Leads at ys last
leads_half [] ys phase last h = (phase, refl, h)
leads_half (b ∷ xs) ys phase last h = further (next_phase phase b) (λ next k. leads_half xs ys next last k) h
  where
    further : (o : Option Phase) → ((next : Phase) → Leads next (xs ++ ys) last → (at : Phase) × Leads next xs at × Leads at ys last)
        → OnSome o (λ next. Leads next (xs ++ ys) last)
        → (at : Phase) × OnSome o (λ next. Leads next xs at) × Leads at ys last
    further None go h = absurd h
    further (Some next) go h = go next h

line_leads : (bytes : List ℕ) → LineBegins bytes → (at : Phase) × Leads Line bytes at × (at_start at ≡ true)
line_leads bytes begins = elim begins [
  | inl are ↦ (Line, chunks_lead bytes are, refl)
  | inr are ↦
      let w = leads_half bytes (13 ∷ 10 ∷ []) Line Line (chunks_lead (bytes ++ (13 ∷ 10 ∷ [])) are) in
      (w.0, w.1, before_line w.0 w.2)
]

all_unless : (t : Bool) (x : Option Phase) (P : Phase → Type 0) → not t ≡ true → AllSome (if t then x else None) P
all_unless true x P h = absurd (false≢true h)
all_unless false x P h = tt

after_inside : (size b : ℕ) → AllSome (after_size size b) IsInside
after_inside size b = all_if (is_ows b) (Some (Pad size)) _ IsInside refl
    (all_if (b == 59) (Some (Extension size)) _ IsInside refl (all_if (b == 13) (Some (SizeReturn size)) None IsInside refl tt))

-- a byte other than LF leads on inside a line
step_inside : (phase : Phase) (b : ℕ) → (at_start phase || inside phase) ≡ true → is_trailer_byte b ≡ true
    → AllSome (next_phase phase b) IsInside
unfolding next_phase
step_inside Line b h k = all_if (is_ascii_hexdigit b) (Some (Size 1 (digit_value b))) None IsInside refl tt
step_inside (Size digits size) b h k = all_if (is_ascii_hexdigit b) _ (after_size size b) IsInside
    (all_if (nat_lt digits 16) (Some (Size (digits + 1) (size * 16 + digit_value b))) None IsInside refl tt) (after_inside size b)
step_inside (Pad size) b h k = after_inside size b
step_inside (Extension size) b h k =
    all_if (b == 13) (Some (SizeReturn size)) _ IsInside refl (all_if (b == 10) None (Some (Extension size)) IsInside tt refl)
step_inside (SizeReturn size) b h k = all_unless (b == 10) (Some (after_chunk_line size)) IsInside k
step_inside DataEnd b h k = all_if (b == 13) (Some DataReturn) None IsInside refl tt
step_inside DataReturn b h k = all_unless (b == 10) (Some Line) IsInside k
step_inside (Data left) b h k = absurd (false≢true h)
step_inside TrailerStart b h k = absurd (false≢true h)
step_inside TrailerReturn b h k = absurd (false≢true h)
step_inside TrailerText b h k = absurd (false≢true h)
step_inside Done b h k = absurd (false≢true h)

abbrev IsTrailerByte : ℕ → Type 0
IsTrailerByte b = is_trailer_byte b ≡ true

trailer_front : (xs ys : List ℕ) → AllPass is_trailer_byte (xs ++ ys) → AllPass is_trailer_byte xs
trailer_front [] ys all = All-nil IsTrailerByte
trailer_front (b ∷ xs) ys all =
    All-cons IsTrailerByte b xs (All-head IsTrailerByte b (xs ++ ys) all) (trailer_front xs ys (All-tail IsTrailerByte b (xs ++ ys) all))

leads_inside : (bytes : List ℕ) (phase last : Phase) → IsInside phase → AllPass is_trailer_byte bytes → Leads phase bytes last → IsInside last
leads_inside [] phase last h all k = subst IsInside k h
leads_inside (b ∷ bytes) phase last h all k =
    on_all (next_phase phase b) IsInside (λ next. Leads next bytes last) (IsInside last)
    (λ next i. leads_inside bytes next last i (All-tail IsTrailerByte b bytes all))
    (step_inside phase b (or_right (at_start phase) h) (All-head IsTrailerByte b bytes all)) k
  where
    or_right : (t : Bool) → inside phase ≡ true → (t || inside phase) ≡ true
    or_right true h = refl
    or_right false h = h

starts_inside : (b : ℕ) (bytes : List ℕ) (phase last : Phase) → at_start phase ≡ true → AllPass is_trailer_byte (b ∷ bytes)
    → Leads phase (b ∷ bytes) last → IsInside last
starts_inside b bytes phase last h all k =
    on_all (next_phase phase b) IsInside (λ next. Leads next bytes last) (IsInside last)
    (λ next i. leads_inside bytes next last i (All-tail IsTrailerByte b bytes all))
    (step_inside phase b (ap (λ (t : Bool). t || inside phase) h) (All-head IsTrailerByte b bytes all)) k

-- no line begins inside another
no_later : (front later z begun : List ℕ) → LineBegins front → LineBegins later → later ≡ front ++ z
    → AllPass is_trailer_byte (z ++ begun) → later ≡ front
no_later front later [] begun h k e all = e ∙ append-nil front
no_later front later (b ∷ z) begun h k e all =
    let p = line_leads front h in
    let q = line_leads later k in
    let leads = leads_after front (b ∷ z) Line p.0 q.0 p.1 (subst (λ (l : List ℕ). Leads Line l q.0) e q.1) in
    absurd (apart q.0 q.2 (starts_inside b z p.0 q.0 p.2 (trailer_front (b ∷ z) begun all) leads))

pub one_place : (bytes : List ℕ) (p q : ℕ) → IsLineStart bytes p → IsLineStart bytes q → p ≡ q
one_place bytes p q s t =
    elim (two_fronts s.front t.front s.begun t.begun (sym s.split ∙ t.split)) [
      | inl w ↦
          let same = no_later s.front t.front w.0 t.begun s.begins t.begins w.1 (subst (AllPass is_trailer_byte) w.2 s.inside) in
          s.place_is ∙ ap length (sym same) ∙ sym t.place_is
      | inr w ↦
          let same = no_later t.front s.front w.0 s.begun t.begins s.begins w.1 (subst (AllPass is_trailer_byte) w.2 t.inside) in
          s.place_is ∙ ap length same ∙ sym t.place_is
    ]

-- a whole body does not end in a line that has begun
pub body_ends : (bytes content : List ℕ) (place : ℕ) → Chunked bytes content → IsLineStart bytes place → ⊥
body_ends bytes content place body s =
    let p = line_leads s.front s.begins in
    let leads = leads_after s.front s.begun Line p.0 Done p.1
    (subst (λ (l : List ℕ). Leads Line l Done) s.split (body_leads bytes content body)) in
    ends s.begun p.0 p.2 s.inside leads
  where
    ends : (begun : List ℕ) (phase : Phase) → at_start phase ≡ true → AllPass is_trailer_byte begun → Leads phase begun Done → ⊥
    ends [] phase h all k = false≢true (ap at_start (sym k) ∙ h)
    ends (b ∷ begun) phase h all k = false≢true (starts_inside b begun phase Done h all k)
