-- A walk reads the body in chunks at the front of the bytes.
use Rattle.std.proofs.Common.{◌≡◌, ℕ, ◌+◌, ◌<◌, ◌≤◌, List, [], ◌∷◌, ◌++◌, length, refl, sym, ap, ◌∙◌, subst, arith, append-nil, length-append, Bool, true, false, inl, inr}
use Rattle.std.specs.Prelude.{◌⊎◌, Option, Some, None, Result, Ok, Err, if◌then◌else◌, nat_le, ◌&&◌}
use Rattle.std.proofs.lemmas.Bool.{false≢true}
use Rattle.http_frames.specs.declared.limits.Limits.{Limits}
use Rattle.http_frames.specs.declared.chunks.Phase.{Phase}
use Rattle.http_frames.specs.declared.chunks.Phase.TheVariants.{Line, Size, Pad, Extension, SizeReturn, Data, DataEnd, DataReturn, Trailer as TrailerStart, TrailerReturn, TrailerText, Done}
use Rattle.http_frames.specs.declared.chunks.Walk.{Walk}
use Rattle.http_frames.specs.declared.frame_error.FrameError.{FrameError}
use Rattle.http_frames.specs.declared.frame_error.FrameError.TheVariants.{BodyTooLong, Chunk}
use Rattle.http_frames.specs.Phases.{next_phase, is_data, is_done, least_rest, begun_content}
use Rattle.http_frames.specs.Walks.{step, step_to, stepped, can_fit, and_then_walk, when_ok, walk_over, content_over, start, content_byte}
use Rattle.http_frames.specs.Chunks.{Chunked, IsBodyWithin, CanBeBody, LacksBody}
use Rattle.http_frames.proofs.Walking.{walk_done, walk_byte, walk_none, done_or_not, walk_over-append}
use Rattle.http_frames.proofs.Accepts.{OnSome, Keeps, Accepts, sound}
use Rattle.http_frames.proofs.Complete.{complete}
use Rattle.http_frames.proofs.Bounds.{AllSome, IsSane, step_sane, reach}

-- ---- one step

-- what a step does, by what stands next
pub data StepIs (limits : Limits) (front : ℕ) (walk : Walk) (b : ℕ) : Type 0 where
  is_wrong : next_phase walk.phase b ≡ None → step limits front walk b ≡ Err (Chunk (front + walk.line)) → StepIs limits front walk b
  goes_on : (next : Phase) → next_phase walk.phase b ≡ Some next → can_fit limits (stepped walk next) ≡ true
      → step limits front walk b ≡ Ok (stepped walk next) → StepIs limits front walk b
  is_long : (next : Phase) → next_phase walk.phase b ≡ Some next → can_fit limits (stepped walk next) ≡ false
      → step limits front walk b ≡ Err BodyTooLong → StepIs limits front walk b

step_is_at : (limits : Limits) (front : ℕ) (walk : Walk) (b : ℕ) (o : Option Phase) → next_phase walk.phase b ≡ o → StepIs limits front walk b
step_is_at limits front walk b None e = is_wrong e (ap (step_to limits front walk) e)
step_is_at limits front walk b (Some next) e = elim (done_or_not (can_fit limits (stepped walk next))) [
  | inl w ↦ goes_on next e w (ap (step_to limits front walk) e ∙ ap (λ (t : Bool). if t then Ok (stepped walk next) else Err BodyTooLong) w)
  | inr w ↦ is_long next e w (ap (step_to limits front walk) e ∙ ap (λ (t : Bool). if t then Ok (stepped walk next) else Err BodyTooLong) w)
]

pub step_is : (limits : Limits) (front : ℕ) (walk : Walk) (b : ℕ) → StepIs limits front walk b
step_is limits front walk b = step_is_at limits front walk b (next_phase walk.phase b) refl

pub stepped_phase : (walk : Walk) (next : Phase) → (stepped walk next).phase ≡ next
unfolding stepped
stepped_phase walk next = refl

pub stepped_length : (walk : Walk) (next : Phase) → (stepped walk next).length ≡ walk.length + 1
unfolding stepped
stepped_length walk next = refl

pub stepped_content : (walk : Walk) (next : Phase) → (stepped walk next).content ≡ walk.content + content_byte walk.phase
unfolding stepped
stepped_content walk next = refl

-- ---- a byte of content, or none

abbrev pub kept : Phase → ℕ → List ℕ → List ℕ
kept phase b content = if is_data phase then b ∷ content else content

keeps : (t : Bool) (b : ℕ) (P : List ℕ → Type 0) (content : List ℕ) → P content → Keeps t b P (if t then b ∷ content else content)
keeps true b P content h = (content, refl, h)
keeps false b P content h = h

pub accept_kept : (p q : Phase) (b : ℕ) (bytes content : List ℕ) → next_phase p b ≡ Some q → Accepts q bytes content
    → Accepts p (b ∷ bytes) (kept p b content)
accept_kept p q b bytes content e h =
    subst (λ (o : Option Phase). OnSome o (λ next. Keeps (is_data p) b (Accepts next bytes) (kept p b content))) (sym e)
    (keeps (is_data p) b (Accepts q bytes) content h)

pub kept_back : (t : Bool) (b : ℕ) (P : List ℕ → Type 0) (content : List ℕ) → Keeps t b P content
    → (rest : List ℕ) × (content ≡ (if t then b ∷ rest else rest)) × P rest
kept_back true b P content h = h
kept_back false b P content h = (content, refl, h)

pub accept_back : (p q : Phase) (b : ℕ) (bytes content : List ℕ) → next_phase p b ≡ Some q → Accepts p (b ∷ bytes) content
    → (rest : List ℕ) × (content ≡ kept p b rest) × Accepts q bytes rest
accept_back p q b bytes content e h =
    kept_back (is_data p) b (Accepts q bytes) content
    (subst (λ (o : Option Phase). OnSome o (λ next. Keeps (is_data p) b (Accepts next bytes) content)) e h)

kept-append : (t : Bool) (b : ℕ) (x c : List ℕ) → (if t then b ∷ x else x) ++ c ≡ (if t then b ∷ (x ++ c) else (x ++ c))
kept-append true b x c = refl
kept-append false b x c = refl

pub kept_length : (t : Bool) (b : ℕ) (x : List ℕ) → length (if t then b ∷ x else x) ≡ length x + (if t then 1 else 0)
kept_length true b x = omega arith
kept_length false b x = omega arith

content_byte_over : (limits : Limits) (front : ℕ) (walk : Walk) (b : ℕ) (bytes : List ℕ) (next : Walk) → step limits front walk b ≡ Ok next
    → content_over limits front walk (b ∷ bytes) ≡ kept walk.phase b (content_over limits front next bytes)
unfolding content_over
content_byte_over limits front walk b bytes next e =
    ap (λ (r : Result Walk FrameError). when_ok r (λ n. kept walk.phase b (content_over limits front n bytes))) e

content_none : (limits : Limits) (front : ℕ) (walk : Walk) → content_over limits front walk [] ≡ []
unfolding content_over
content_none limits front walk = refl

-- ---- a walk that came to no end

pub record Reached (limits : Limits) (front : ℕ) (walk : Walk) (bytes : List ℕ) (reached : Walk) : Type 0 where
  pub accepts : (more c : List ℕ) → Accepts reached.phase more c → Accepts walk.phase (bytes ++ more) (content_over limits front walk bytes ++ c)
  pub back : (more c : List ℕ) → Accepts walk.phase (bytes ++ more) c
      → (rest : List ℕ) × Accepts reached.phase more rest × (length c ≡ length (content_over limits front walk bytes) + length rest)
  pub length_is : reached.length ≡ walk.length + length bytes
  pub content_is : reached.content ≡ walk.content + length (content_over limits front walk bytes)
  pub sane : IsSane reached.phase
  pub fits : can_fit limits reached ≡ true
  pub over : walk_over limits front walk bytes ≡ Ok reached

reached_here : (limits : Limits) (front : ℕ) (walk : Walk) → IsSane walk.phase → can_fit limits walk ≡ true → Reached limits front walk [] walk
unfolding content_over
reached_here limits front walk sane fits = record {
  accepts = λ more c h. h;
  back = λ more c h. (c, h, omega arith);
  length_is = omega arith;
  content_is = omega arith;
  sane = sane;
  fits = fits;
  over = walk_none limits front walk;
}

is_the_end : (phase : Phase) → is_done phase ≡ true → phase ≡ Done
is_the_end Done h = refl
is_the_end Line h = absurd (false≢true h)
is_the_end (Size digits size) h = absurd (false≢true h)
is_the_end (Pad size) h = absurd (false≢true h)
is_the_end (Extension size) h = absurd (false≢true h)
is_the_end (SizeReturn size) h = absurd (false≢true h)
is_the_end (Data left) h = absurd (false≢true h)
is_the_end DataEnd h = absurd (false≢true h)
is_the_end DataReturn h = absurd (false≢true h)
is_the_end TrailerStart h = absurd (false≢true h)
is_the_end TrailerReturn h = absurd (false≢true h)
is_the_end TrailerText h = absurd (false≢true h)

next_of_end : (b : ℕ) → next_phase Done b ≡ None
unfolding next_phase
next_of_end b = refl

not_the_end : (p q : Phase) (b : ℕ) → next_phase p b ≡ Some q → is_done p ≡ false
not_the_end p q b e = elim (done_or_not (is_done p)) [
  | inl w ↦ absurd (let x = sym (ap (λ (r : Phase). next_phase r b) (is_the_end p w) ∙ next_of_end b) ∙ e in cc)
  | inr w ↦ w
]

reached_on : (limits : Limits) (front : ℕ) (walk : Walk) (b : ℕ) (next : Phase) (bytes : List ℕ) (reached : Walk)
    → next_phase walk.phase b ≡ Some next → step limits front walk b ≡ Ok (stepped walk next)
    → Reached limits front (stepped walk next) bytes reached → Reached limits front walk (b ∷ bytes) reached
reached_on limits front walk b next bytes reached e stepped_is far =
    let x = content_over limits front (stepped walk next) bytes in
    let over = content_byte_over limits front walk b bytes (stepped walk next) stepped_is in
    let counted : length (content_over limits front walk (b ∷ bytes)) ≡ length x + content_byte walk.phase =
    ap length over ∙ kept_length (is_data walk.phase) b x in
    record {
      accepts = λ more c h.
          let there = subst (λ (p : Phase). Accepts p (bytes ++ more) (x ++ c)) (stepped_phase walk next) (far.accepts more c h) in
          subst (Accepts walk.phase (b ∷ (bytes ++ more)))
          (sym (ap (λ (l : List ℕ). l ++ c) over ∙ kept-append (is_data walk.phase) b x c))
          (accept_kept walk.phase next b (bytes ++ more) (x ++ c) e there);
      back = λ more c h.
          let first = accept_back walk.phase next b (bytes ++ more) c e h in
          let rest = far.back more first.0 (subst (λ (p : Phase). Accepts p (bytes ++ more) first.0) (sym (stepped_phase walk next)) first.2) in
          let len : length c ≡ length first.0 + content_byte walk.phase = ap length first.1 ∙ kept_length (is_data walk.phase) b first.0 in
          (rest.0, rest.1, omega (arith, len, rest.2, counted));
      length_is = omega (arith, far.length_is, stepped_length walk next);
      content_is = omega (arith, far.content_is, stepped_content walk next, counted);
      sane = far.sane;
      fits = far.fits;
      over = walk_byte limits front walk b bytes (not_the_end walk.phase next b e)
          ∙ ap (λ (r : Result Walk FrameError). and_then_walk r (λ n. walk_over limits front n bytes)) stepped_is ∙ far.over;
    }

pub next_sane : (walk : Walk) (b : ℕ) (next : Phase) → next_phase walk.phase b ≡ Some next → IsSane walk.phase → IsSane (stepped walk next).phase
next_sane walk b next e sane =
    subst IsSane (sym (stepped_phase walk next)) (subst (λ (o : Option Phase). AllSome o IsSane) e (step_sane walk.phase b sane))

pub ok_walk : (a b : Walk) → (let l : Result Walk FrameError = Ok a in l ≡ Ok b) → a ≡ b
ok_walk a b e = cc

pub reached_open : (limits : Limits) (front : ℕ) (walk : Walk) (bytes : List ℕ) (reached : Walk) → IsSane walk.phase
    → can_fit limits walk ≡ true → walk_over limits front walk bytes ≡ Ok reached → is_done reached.phase ≡ false
    → Reached limits front walk bytes reached
reached_open limits front walk [] reached sane fits is open' =
    let same = ok_walk walk reached (sym (walk_none limits front walk) ∙ is) in
    subst (Reached limits front walk []) same (reached_here limits front walk sane fits)
reached_open limits front walk (b ∷ bytes) reached sane fits is open' = elim (done_or_not (is_done walk.phase)) [
  | inl w ↦
      let same = ok_walk walk reached (sym (walk_done limits front walk (b ∷ bytes) w) ∙ is) in
      absurd (false≢true (sym open' ∙ ap (λ (x : Walk). is_done x.phase) (sym same) ∙ w))
  | inr w ↦
      let on = sym (walk_byte limits front walk b bytes w) ∙ is in
      elim (step_is limits front walk b) [
        | is_wrong none e ↦ absurd (let x = sym (ap (λ (r : Result Walk FrameError). and_then_walk r (λ n. walk_over limits front n bytes)) e) ∙ on in cc)
        | goes_on next there fit e ↦
            reached_on limits front walk b next bytes reached there e
            (reached_open limits front (stepped walk next) bytes reached (next_sane walk b next there sane) fit
            (sym (ap (λ (r : Result Walk FrameError). and_then_walk r (λ n. walk_over limits front n bytes)) e) ∙ on) open')
        | is_long next there fit e ↦ absurd (let x = sym (ap (λ (r : Result Walk FrameError). and_then_walk r (λ n. walk_over limits front n bytes)) e) ∙ on in cc)
      ]
]

-- ---- a walk that came to the end

pub record Whole (limits : Limits) (front : ℕ) (walk : Walk) (bytes : List ℕ) (reached : Walk) : Type 0 where
  pub body : List ℕ
  pub rest : List ℕ
  pub split : bytes ≡ body ++ rest
  pub accepts : Accepts walk.phase body (content_over limits front walk bytes)
  pub length_is : reached.length ≡ walk.length + length body
  pub content_is : reached.content ≡ walk.content + length (content_over limits front walk bytes)
  pub fits : can_fit limits reached ≡ true

content_done : (limits : Limits) (front : ℕ) (walk : Walk) (bytes : List ℕ) → is_done walk.phase ≡ true → content_over limits front walk bytes ≡ []
unfolding content_over
content_done limits front walk [] done = refl
content_done limits front walk (b ∷ bytes) done =
    let none : next_phase walk.phase b ≡ None = ap (λ (p : Phase). next_phase p b) (is_the_end walk.phase done) ∙ next_of_end b in
    ap (λ (o : Option Phase). when_ok (step_to limits front walk o) (λ n. kept walk.phase b (content_over limits front n bytes))) none

whole_here : (limits : Limits) (front : ℕ) (walk : Walk) (bytes : List ℕ) → can_fit limits walk ≡ true → is_done walk.phase ≡ true
    → Whole limits front walk bytes walk
whole_here limits front walk bytes fits done =
    let none = content_done limits front walk bytes done in
    let none_left : List ℕ = [] in
    record {
      body = [];
      rest = bytes;
      split = refl;
      accepts = (done, none);
      length_is = omega arith;
      content_is = omega (arith, ap length none);
      fits = fits;
    }

whole_on : (limits : Limits) (front : ℕ) (walk : Walk) (b : ℕ) (next : Phase) (bytes : List ℕ) (reached : Walk)
    → next_phase walk.phase b ≡ Some next → step limits front walk b ≡ Ok (stepped walk next)
    → Whole limits front (stepped walk next) bytes reached → Whole limits front walk (b ∷ bytes) reached
whole_on limits front walk b next bytes reached e stepped_is far =
    let x = content_over limits front (stepped walk next) bytes in
    let over = content_byte_over limits front walk b bytes (stepped walk next) stepped_is in
    let counted : length (content_over limits front walk (b ∷ bytes)) ≡ length x + content_byte walk.phase =
    ap length over ∙ kept_length (is_data walk.phase) b x in
    record {
      body = b ∷ far.body;
      rest = far.rest;
      split = ap (λ (l : List ℕ). b ∷ l) far.split;
      accepts = subst (Accepts walk.phase (b ∷ far.body)) (sym over)
          (accept_kept walk.phase next b far.body x e (subst (λ (p : Phase). Accepts p far.body x) (stepped_phase walk next) far.accepts));
      length_is = omega (arith, far.length_is, stepped_length walk next);
      content_is = omega (arith, far.content_is, stepped_content walk next, counted);
      fits = far.fits;
    }

pub reached_whole : (limits : Limits) (front : ℕ) (walk : Walk) (bytes : List ℕ) (reached : Walk) → can_fit limits walk ≡ true
    → walk_over limits front walk bytes ≡ Ok reached → is_done reached.phase ≡ true → Whole limits front walk bytes reached
reached_whole limits front walk [] reached fits is done =
    let same = ok_walk walk reached (sym (walk_none limits front walk) ∙ is) in
    subst (Whole limits front walk []) same
    (whole_here limits front walk [] fits (ap (λ (x : Walk). is_done x.phase) same ∙ done))
reached_whole limits front walk (b ∷ bytes) reached fits is done = elim (done_or_not (is_done walk.phase)) [
  | inl w ↦
      let same = ok_walk walk reached (sym (walk_done limits front walk (b ∷ bytes) w) ∙ is) in
      subst (Whole limits front walk (b ∷ bytes)) same (whole_here limits front walk (b ∷ bytes) fits w)
  | inr w ↦
      let on = sym (walk_byte limits front walk b bytes w) ∙ is in
      elim (step_is limits front walk b) [
        | is_wrong none e ↦ absurd (let x = sym (ap (λ (r : Result Walk FrameError). and_then_walk r (λ n. walk_over limits front n bytes)) e) ∙ on in cc)
        | goes_on next there fit e ↦
            whole_on limits front walk b next bytes reached there e
            (reached_whole limits front (stepped walk next) bytes reached fit
            (sym (ap (λ (r : Result Walk FrameError). and_then_walk r (λ n. walk_over limits front n bytes)) e) ∙ on) done)
        | is_long next there fit e ↦ absurd (let x = sym (ap (λ (r : Result Walk FrameError). and_then_walk r (λ n. walk_over limits front n bytes)) e) ∙ on in cc)
      ]
]

-- ---- a walk that was refused

pub record Stopped (limits : Limits) (front : ℕ) (walk : Walk) (bytes : List ℕ) (e : FrameError) : Type 0 where
  pub before : List ℕ
  pub b : ℕ
  pub rest : List ℕ
  pub reached : Walk
  pub split : bytes ≡ before ++ b ∷ rest
  pub over : Reached limits front walk before reached
  pub not_done : is_done reached.phase ≡ false
  pub step_fails : step limits front reached b ≡ Err e

stopped_on : (limits : Limits) (front : ℕ) (walk : Walk) (b : ℕ) (next : Phase) (bytes : List ℕ) (e : FrameError)
    → next_phase walk.phase b ≡ Some next → step limits front walk b ≡ Ok (stepped walk next)
    → Stopped limits front (stepped walk next) bytes e → Stopped limits front walk (b ∷ bytes) e
stopped_on limits front walk b next bytes e there stepped_is far = record {
  before = b ∷ far.before;
  b = far.b;
  rest = far.rest;
  reached = far.reached;
  split = ap (λ (l : List ℕ). b ∷ l) far.split;
  over = reached_on limits front walk b next far.before far.reached there stepped_is far.over;
  not_done = far.not_done;
  step_fails = far.step_fails;
}

pub err_walk : (a b : FrameError) → (let l : Result Walk FrameError = Err a in l ≡ Err b) → a ≡ b
err_walk a b e = cc

stopped_here : (limits : Limits) (front : ℕ) (walk : Walk) (b : ℕ) (bytes : List ℕ) (e f : FrameError) → IsSane walk.phase
    → can_fit limits walk ≡ true → is_done walk.phase ≡ false → step limits front walk b ≡ Err f
    → walk_over limits front walk (b ∷ bytes) ≡ Err e → Stopped limits front walk (b ∷ bytes) e
stopped_here limits front walk b bytes e f sane fits not_done failed is =
    let same = err_walk f e (sym (ap (λ (r : Result Walk FrameError). and_then_walk r (λ n. walk_over limits front n bytes)) failed)
    ∙ sym (walk_byte limits front walk b bytes not_done) ∙ is) in
    record {
      before = [];
      b = b;
      rest = bytes;
      reached = walk;
      split = refl;
      over = reached_here limits front walk sane fits;
      not_done = not_done;
      step_fails = failed ∙ ap (λ (x : FrameError). Err x) same;
    }

pub walk_stopped : (limits : Limits) (front : ℕ) (walk : Walk) (bytes : List ℕ) (e : FrameError) → IsSane walk.phase
    → can_fit limits walk ≡ true → walk_over limits front walk bytes ≡ Err e → Stopped limits front walk bytes e
walk_stopped limits front walk [] e sane fits is = absurd (let x = sym (walk_none limits front walk) ∙ is in cc)
walk_stopped limits front walk (b ∷ bytes) e sane fits is = elim (done_or_not (is_done walk.phase)) [
  | inl w ↦ absurd (let x = sym (walk_done limits front walk (b ∷ bytes) w) ∙ is in cc)
  | inr w ↦ elim (step_is limits front walk b) [
    | is_wrong none failed ↦ stopped_here limits front walk b bytes e (Chunk (front + walk.line)) sane fits w failed is
    | goes_on next there fit stepped_is ↦
        stopped_on limits front walk b next bytes e there stepped_is
        (walk_stopped limits front (stepped walk next) bytes e (next_sane walk b next there sane) fit
        (sym (ap (λ (r : Result Walk FrameError). and_then_walk r (λ n. walk_over limits front n bytes)) stepped_is)
        ∙ sym (walk_byte limits front walk b bytes w) ∙ is))
    | is_long next there fit failed ↦ stopped_here limits front walk b bytes e BodyTooLong sane fits w failed is
  ]
]

-- ---- from the front of a body

pub start_phase : start.phase ≡ Line
unfolding start
start_phase = refl

pub start_counts : (start.length ≡ 0) × (start.content ≡ 0)
unfolding start
start_counts = (refl, refl)

pub start_sane : IsSane start.phase
start_sane = subst IsSane (sym start_phase) tt

pub from_start : (bytes content : List ℕ) → Accepts start.phase bytes content → Chunked bytes content
from_start bytes content h = sound bytes Line content (subst (λ (p : Phase). Accepts p bytes content) start_phase h)

pub to_start : (bytes content : List ℕ) → Chunked bytes content → Accepts start.phase bytes content
to_start bytes content h = subst (λ (p : Phase). Accepts p bytes content) (sym start_phase) (complete bytes content h)

both_fit : (a b c d : ℕ) → (nat_le a b && nat_le c d) ≡ true → (a ≤ b) × (c ≤ d)
both_fit a b c d h = grind arith

one_not : (a b c d : ℕ) → (nat_le a b && nat_le c d) ≡ false → (b < a) ⊎ (d < c)
one_not a b c d h = grind arith

pub no_fit : (limits : Limits) (walk : Walk) → can_fit limits walk ≡ false
    → (limits.content < walk.content + begun_content walk.phase) ⊎ (limits.chunked < walk.length + least_rest walk.phase)
unfolding can_fit
no_fit limits walk h = one_not _ _ _ _ h

fit_parts : (limits : Limits) (walk : Walk) → can_fit limits walk ≡ true
    → (walk.content + begun_content walk.phase ≤ limits.content) × (walk.length + least_rest walk.phase ≤ limits.chunked)
unfolding can_fit
fit_parts limits walk h = both_fit _ _ _ _ h

pub body_whole : (limits : Limits) (front : ℕ) (bytes : List ℕ) (reached : Walk) → can_fit limits start ≡ true
    → walk_over limits front start bytes ≡ Ok reached → is_done reached.phase ≡ true
    → (body : List ℕ) × (rest : List ℕ) × (bytes ≡ body ++ rest) × IsBodyWithin limits body (content_over limits front start bytes)
body_whole limits front bytes reached fits is done =
    let w = reached_whole limits front start bytes reached fits is done in
    let parts = fit_parts limits reached w.fits in (
      w.body,
      w.rest,
      w.split,
      record {
        chunked = from_start w.body _ w.accepts;
        content_fits = omega (arith, w.content_is, parts.0, start_counts.1);
        length_fits = omega (arith, w.length_is, parts.1, start_counts.0);
      },
    )

pub can_be : (limits : Limits) (front : ℕ) (bytes : List ℕ) (reached : Walk) → Reached limits front start bytes reached
    → is_done reached.phase ≡ false → CanBeBody limits bytes
can_be limits front bytes reached over not_done =
    let r = reach reached.phase over.sane not_done in
    let parts = fit_parts limits reached over.fits in
    let x = content_over limits front start bytes in (
      r.more,
      x ++ r.content,
      record {
        chunked = from_start (bytes ++ r.more) (x ++ r.content) (over.accepts r.more r.content r.accepts);
        content_fits = omega (arith, length-append x r.content, over.content_is, parts.0, r.content_is, start_counts.1);
        length_fits = omega (arith, length-append bytes r.more, over.length_is, parts.1, r.length_is, start_counts.0);
      },
    )

-- ---- bodies that are not whole

lacks_at : (limits : Limits) (front : ℕ) (whole rest content : List ℕ) (reached : Walk) (r : Result Walk FrameError)
    → can_fit limits start ≡ true → walk_over limits front start whole ≡ r
    → and_then_walk r (λ next. walk_over limits front next rest) ≡ Ok reached → is_done reached.phase ≡ false
    → Accepts start.phase whole content → ⊥
lacks_at limits front whole rest content reached (Err e) fits over on not_done h = cc
lacks_at limits front whole rest content reached (Ok w) fits over on not_done h = elim (done_or_not (is_done w.phase)) [
  | inl d ↦
      let same = ok_walk w reached (sym (walk_done limits front w rest d) ∙ on) in
      false≢true (sym not_done ∙ ap (λ (x : Walk). is_done x.phase) (sym same) ∙ d)
  | inr d ↦
      let there = reached_open limits front start whole w start_sane fits over d in
      let back = there.back [] content (subst (λ (l : List ℕ). Accepts start.phase l content) (sym (append-nil whole)) h) in
      false≢true (sym d ∙ back.1.0)
]

pub body_open : (limits : Limits) (front : ℕ) (bytes : List ℕ) (reached : Walk) → can_fit limits start ≡ true
    → walk_over limits front start bytes ≡ Ok reached → is_done reached.phase ≡ false → CanBeBody limits bytes × LacksBody bytes
body_open limits front bytes reached fits is not_done = (
  can_be limits front bytes reached (reached_open limits front start bytes reached start_sane fits is not_done) not_done,
  λ whole rest content split h.
      lacks_at limits front whole rest content reached (walk_over limits front start whole) fits refl
      (sym (walk_over-append limits front start whole rest) ∙ ap (walk_over limits front start) (sym split) ∙ is) not_done
      (to_start whole content h),
)
