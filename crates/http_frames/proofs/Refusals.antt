-- Why a walk over a body in chunks is refused.
use Rattle.std.proofs.Common.{◌≡◌, ℕ, ◌+◌, List, [], ◌∷◌, ◌++◌, length, refl, sym, ap, ◌∙◌, subst, arith, length-append, true, false, inl, inr}
use Rattle.std.specs.Prelude.{Option, Some, None, Err}
use Rattle.http_frames.specs.declared.limits.Limits.{Limits}
use Rattle.http_frames.specs.declared.chunks.Phase.{Phase}
use Rattle.http_frames.specs.declared.frame_error.FrameError.{FrameError}
use Rattle.http_frames.specs.declared.frame_error.FrameError.TheVariants.{BodyTooLong, Chunk}
use Rattle.http_frames.specs.Phases.{next_phase, is_data, is_done, least_rest, begun_content}
use Rattle.http_frames.specs.Walks.{stepped, can_fit, walk_over, content_over, start, content_byte}
use Rattle.http_frames.specs.Chunks.{StopsWrong, StopsLong}
use Rattle.http_frames.proofs.Walking.{done_or_not}
use Rattle.http_frames.proofs.Accepts.{OnSome, Keeps, Accepts}
use Rattle.http_frames.proofs.Bounds.{accepts_least, IsSane, reach}
use Rattle.http_frames.proofs.WalkBodies.{is_wrong, goes_on, is_long, step_is, stepped_phase, stepped_length, stepped_content, kept, kept_length, accept_kept, accept_back, next_sane, err_walk, Stopped, walk_stopped, start_counts, start_sane, from_start, to_start, can_be, no_fit}
use Rattle.http_frames.proofs.LineStarts.{line_start_at}

some_phase : (a b : Phase) → (let l : Option Phase = Some a in l ≡ Some b) → a ≡ b
some_phase a b e = cc

wrong_at : (limits : Limits) (front : ℕ) (bytes : List ℕ) (e : FrameError) (s : Stopped limits front start bytes e)
    → can_fit limits start ≡ true → next_phase s.reached.phase s.b ≡ None → StopsWrong limits bytes s.reached.line
wrong_at limits front bytes e s fits none = record {
  before = s.before;
  wrong = s.b;
  rest = s.rest;
  split = s.split;
  could_be = can_be limits front s.before s.reached s.over s.not_done;
  line = line_start_at limits front s.before s.reached s.b fits s.over s.not_done none;
  never = λ more content h.
      let back = s.over.back (s.b ∷ more) content (to_start (s.before ++ s.b ∷ more) content h) in
      subst (λ (o : Option Phase). OnSome o (λ next. Keeps (is_data s.reached.phase) s.b (Accepts next more) back.0)) none back.1;
}

-- some rest completes the body, whatever its length
reach_any : (phase : Phase) → IsSane phase → (more : List ℕ) × (content : List ℕ) × Accepts phase more content
reach_any phase sane = elim (done_or_not (is_done phase)) [
  | inl w ↦ ([], [], (w, refl))
  | inr w ↦ (let r = reach phase sane w in (r.more, r.content, r.accepts))
]

long_at : (limits : Limits) (front : ℕ) (bytes : List ℕ) (e : FrameError) (s : Stopped limits front start bytes e) (next : Phase)
    → next_phase s.reached.phase s.b ≡ Some next → can_fit limits (stepped s.reached next) ≡ false → StopsLong limits bytes
long_at limits front bytes e s next there long =
    let x = content_over limits front start s.before in
    let any = reach_any next (subst IsSane (stepped_phase s.reached next) (next_sane s.reached s.b next there s.over.sane)) in
    let whole = s.over.accepts (s.b ∷ any.0) (kept s.reached.phase s.b any.1)
    (accept_kept s.reached.phase next s.b any.0 any.1 there any.2) in
    record {
      before = s.before;
      last = s.b;
      rest = s.rest;
      split = s.split;
      could_be = can_be limits front s.before s.reached s.over s.not_done;
      begins = (any.0, x ++ kept s.reached.phase s.b any.1, from_start _ _ whole);
      never = λ more content within.
          let back = s.over.back (s.b ∷ more) content (to_start (s.before ++ s.b ∷ more) content within.chunked) in
          let first = accept_back s.reached.phase next s.b more back.0 there back.1 in
          let least = accepts_least more next first.0 first.2 in
          let counted : length back.0 ≡ length first.0 + content_byte s.reached.phase =
          ap length first.1 ∙ kept_length (is_data s.reached.phase) s.b first.0 in
          let lengths = length-append s.before (s.b ∷ more) in
          let begun : begun_content (stepped s.reached next).phase ≡ begun_content next = ap begun_content (stepped_phase s.reached next) in
          let left : least_rest (stepped s.reached next).phase ≡ least_rest next = ap least_rest (stepped_phase s.reached next) in
          elim (no_fit limits (stepped s.reached next) long) [
            | inl w ↦ omega (arith, w, begun, least.1, counted, back.2, within.content_fits, s.over.content_is, start_counts.1, stepped_content s.reached next)
            | inr w ↦ omega (arith, w, left, least.0, lengths, within.length_fits, s.over.length_is, start_counts.0, stepped_length s.reached next)
          ];
    }

-- a refusal is one of the two
pub data BodyRefusal (limits : Limits) (front : ℕ) (bytes : List ℕ) : FrameError → Type 0 where
  is_wrong_at : (place : ℕ) → StopsWrong limits bytes place → BodyRefusal limits front bytes (Chunk (front + place))
  is_too_long : StopsLong limits bytes → BodyRefusal limits front bytes BodyTooLong

pub body_refused : (limits : Limits) (front : ℕ) (bytes : List ℕ) (e : FrameError) → can_fit limits start ≡ true
    → walk_over limits front start bytes ≡ Err e → BodyRefusal limits front bytes e
body_refused limits front bytes e fits is =
    let s = walk_stopped limits front start bytes e start_sane fits is in
    elim (step_is limits front s.reached s.b) [
      | is_wrong none failed ↦
          subst (BodyRefusal limits front bytes) (err_walk (Chunk (front + s.reached.line)) e (sym failed ∙ s.step_fails))
          (is_wrong_at s.reached.line (wrong_at limits front bytes e s fits none))
      | goes_on next there fit went ↦ absurd (let x = sym went ∙ s.step_fails in cc)
      | is_long next there long failed ↦
          subst (BodyRefusal limits front bytes) (err_walk BodyTooLong e (sym failed ∙ s.step_fails))
          (is_too_long (long_at limits front bytes e s next there long))
    ]
