-- A walk over bytes is a walk over the first of them, and then over the rest.
use Rattle.std.proofs.Common.{◌≡◌, ℕ, suc, ◌+◌, ◌≤◌, List, [], ◌∷◌, ◌++◌, length, take, drop, refl, sym, ap, ◌∙◌, subst, arith, IsTrue, Bool, true, false, inl, inr}
use Rattle.std.specs.Prelude.{◌⊎◌, Option, Some, None, Result, Ok, Err, if◌then◌else◌}
use Rattle.std.proofs.lemmas.Bool.{false≢true}
use Rattle.std.proofs.lemmas.List.{take-append-drop, take_all}
use Rattle.http_frames.specs.declared.limits.Limits.{Limits}
use Rattle.http_frames.specs.declared.chunks.Phase.{Phase}
use Rattle.http_frames.specs.declared.chunks.Walk.{Walk}
use Rattle.http_frames.specs.declared.frame_error.FrameError.{FrameError}
use Rattle.http_frames.specs.Phases.{is_done}
use Rattle.http_frames.specs.Phases.{next_phase, begun_content, least_rest}
use Rattle.http_frames.specs.Limits.{request_limits, answer_limits}
use Rattle.http_frames.specs.declared.frame_error.FrameError.TheVariants.{BodyTooLong}
use Rattle.http_frames.specs.declared.framing.Framing.TheVariants.{Chunked}
use Rattle.http_frames.specs.Walks.{step, step_to, stepped, can_fit, and_then_walk, walk_over, content_over, start}
use Rattle.http_frames.specs.Bodies.{HasWalked, body_reading, chunked_reading}

-- the walk stays at the end of a body
pub walk_done : (limits : Limits) (front : ℕ) (walk : Walk) (bytes : List ℕ) → is_done walk.phase ≡ true
    → walk_over limits front walk bytes ≡ Ok walk
unfolding walk_over
walk_done limits front walk [] done = refl
walk_done limits front walk (b ∷ bytes) done =
    ap (λ (t : Bool). if t then Ok walk else and_then_walk (step limits front walk b) (λ next. walk_over limits front next bytes)) done

-- by a byte, where the body is not at its end
pub walk_byte : (limits : Limits) (front : ℕ) (walk : Walk) (b : ℕ) (bytes : List ℕ) → is_done walk.phase ≡ false
    → walk_over limits front walk (b ∷ bytes) ≡ and_then_walk (step limits front walk b) (λ next. walk_over limits front next bytes)
unfolding walk_over
walk_byte limits front walk b bytes open' =
    ap (λ (t : Bool). if t then Ok walk else and_then_walk (step limits front walk b) (λ next. walk_over limits front next bytes)) open'

pub walk_none : (limits : Limits) (front : ℕ) (walk : Walk) → walk_over limits front walk [] ≡ Ok walk
unfolding walk_over
walk_none limits front walk = refl

pub done_or_not : (b : Bool) → (b ≡ true) ⊎ (b ≡ false)
done_or_not true = inl refl
done_or_not false = inr refl

and_then_assoc : (r : Result Walk FrameError) (f g : Walk → Result Walk FrameError)
    → and_then_walk (and_then_walk r f) g ≡ and_then_walk r (λ w. and_then_walk (f w) g)
and_then_assoc (Ok w) f g = refl
and_then_assoc (Err e) f g = refl

and_then_same : (r : Result Walk FrameError) (f g : Walk → Result Walk FrameError) → ((w : Walk) → f w ≡ g w)
    → and_then_walk r f ≡ and_then_walk r g
and_then_same (Ok w) f g h = h w
and_then_same (Err e) f g h = refl

pub walk_over-append : (limits : Limits) (front : ℕ) (walk : Walk) (xs ys : List ℕ)
    → walk_over limits front walk (xs ++ ys)
    ≡ and_then_walk (walk_over limits front walk xs) (λ next. walk_over limits front next ys)
walk_over-append limits front walk [] ys =
    sym (ap (λ (r : Result Walk FrameError). and_then_walk r (λ next. walk_over limits front next ys)) (walk_none limits front walk))
walk_over-append limits front walk (b ∷ xs) ys = elim (done_or_not (is_done walk.phase)) [
  | inl w ↦
      walk_done limits front walk (b ∷ (xs ++ ys)) w ∙ sym (walk_done limits front walk ys w)
      ∙ sym (ap (λ (r : Result Walk FrameError). and_then_walk r (λ next. walk_over limits front next ys)) (walk_done limits front walk (b ∷ xs) w))
  | inr w ↦
      walk_byte limits front walk b (xs ++ ys) w
      ∙ and_then_same (step limits front walk b) (λ next. walk_over limits front next (xs ++ ys)) _
      (λ next. walk_over-append limits front next xs ys)
      ∙ sym (and_then_assoc (step limits front walk b) (λ next. walk_over limits front next xs) (λ next. walk_over limits front next ys))
      ∙ sym (ap (λ (r : Result Walk FrameError). and_then_walk r (λ next. walk_over limits front next ys)) (walk_byte limits front walk b xs w))
]

-- ---- how far a walk comes

ok_if : (w next : Walk) (e : FrameError) (t : Bool) → (if t then Ok w else Err e) ≡ Ok next → next ≡ w
ok_if w next e true is = cc
ok_if w next e false is = absurd (cc)

step_length : (limits : Limits) (front : ℕ) (walk : Walk) (b : ℕ) (next : Walk) → step limits front walk b ≡ Ok next
    → next.length ≡ walk.length + 1
unfolding stepped
step_length limits front walk b next is = go (next_phase walk.phase b) is
  where
    go : (phase : Option Phase) → step_to limits front walk phase ≡ Ok next → next.length ≡ walk.length + 1
    go None e = absurd (cc)
    go (Some phase) e =
        ap (λ (w : Walk). w.length) (ok_if (stepped walk phase) next BodyTooLong (can_fit limits (stepped walk phase)) e)

-- how far a walk came
pub record Comes (n : ℕ) (reached : Walk) : Type 0 where
  pub most : reached.length ≤ n
  pub all : is_done reached.phase ≡ false → reached.length ≡ n

comes_from : (n m : ℕ) (walk reached : Walk) → walk ≡ reached → walk.length ≤ n
    → (is_done walk.phase ≡ false → walk.length ≡ n) → Comes n reached
comes_from n m walk reached same most all =
    subst (Comes n) same (record { most = most; all = all })

after_step : (limits : Limits) (front : ℕ) (walk : Walk) (b : ℕ) (bytes : List ℕ) (reached : Walk) (r : Result Walk FrameError)
    → step limits front walk b ≡ r → and_then_walk r (λ next. walk_over limits front next bytes) ≡ Ok reached
    → ((next : Walk) → walk_over limits front next bytes ≡ Ok reached → Comes (next.length + length bytes) reached)
    → Comes (walk.length + suc (length bytes)) reached
after_step limits front walk b bytes reached (Err e) from rest far = absurd (cc)
after_step limits front walk b bytes reached (Ok next) from rest far =
    let len = step_length limits front walk b next from in
    let comes = far next rest in
    record { most = omega (arith, comes.most, len); all = λ not_done. omega (arith, comes.all not_done, len) }

-- a walk that comes to no end comes to the end of the bytes
pub walk_length : (limits : Limits) (front : ℕ) (walk : Walk) (bytes : List ℕ) (reached : Walk)
    → walk_over limits front walk bytes ≡ Ok reached → Comes (walk.length + length bytes) reached
walk_length limits front walk [] reached is =
    let e : Ok walk ≡ Ok reached = sym (walk_none limits front walk) ∙ is in
    let same : walk ≡ reached = cc in
    comes_from (walk.length + 0) 0 walk reached same (omega arith) (λ _. omega arith)
walk_length limits front walk (b ∷ bytes) reached is = elim (done_or_not (is_done walk.phase)) [
  | inl w ↦
      let e : Ok walk ≡ Ok reached = sym (walk_done limits front walk (b ∷ bytes) w) ∙ is in
      let same : walk ≡ reached = cc in
      comes_from (walk.length + suc (length bytes)) 0 walk reached same (omega arith)
      (λ not_done. absurd (false≢true (sym not_done ∙ w)))
  | inr w ↦ after_step limits front walk b bytes reached (step limits front walk b) refl
      (sym (walk_byte limits front walk b bytes w) ∙ is) (λ next rest. walk_length limits front next bytes reached rest)
]

-- ---- a walk that goes on

pub resumed : (limits : Limits) (front : ℕ) (body : List ℕ) (walk : Walk) → HasWalked limits front body walk
    → walk_over limits front walk (drop walk.length body) ≡ walk_over limits front start body
resumed limits front body walk walked =
    sym (ap (λ (r : Result Walk FrameError). and_then_walk r (λ next. walk_over limits front next (drop walk.length body))) walked.over)
    ∙ sym (walk_over-append limits front start (take walk.length body) (drop walk.length body))
    ∙ ap (walk_over limits front start) (take-append-drop walk.length body)

pub reading_err : (limits : Limits) (front : ℕ) (body : List ℕ) (e : FrameError) → walk_over limits front start body ≡ Err e
    → body_reading limits front Chunked body ≡ Err e
unfolding body_reading
reading_err limits front body e is =
    ap (λ (r : Result Walk FrameError). chunked_reading r (content_over limits front start body)) is

pub reading_done : (limits : Limits) (front : ℕ) (body : List ℕ) (walk : Walk) → walk_over limits front start body ≡ Ok walk
    → is_done walk.phase ≡ true → body_reading limits front Chunked body ≡ Ok (Some (content_over limits front start body))
unfolding body_reading
reading_done limits front body walk is done =
    ap (λ (r : Result Walk FrameError). chunked_reading r (content_over limits front start body)) is
    ∙ ap (λ (t : Bool). if t then Ok (Some (content_over limits front start body)) else Ok None) done

pub reading_open : (limits : Limits) (front : ℕ) (body : List ℕ) (walk : Walk) → walk_over limits front start body ≡ Ok walk
    → is_done walk.phase ≡ false → body_reading limits front Chunked body ≡ Ok None
unfolding body_reading
reading_open limits front body walk is not_done =
    ap (λ (r : Result Walk FrameError). chunked_reading r (content_over limits front start body)) is
    ∙ ap (λ (t : Bool). if t then Ok (Some (content_over limits front start body)) else Ok None) not_done

start_length : start.length ≡ 0
unfolding start
start_length = refl

pub walked_on : (limits : Limits) (front : ℕ) (body : List ℕ) (walk : Walk) → walk_over limits front start body ≡ Ok walk
    → is_done walk.phase ≡ false → IsTrue (can_fit limits walk) → walk.line ≤ walk.length → HasWalked limits front body walk
walked_on limits front body walk is not_done fits line =
    let comes = walk_length limits front start body walk is in
    let len : walk.length ≡ length body = omega (arith, comes.all not_done, start_length) in
    record {
      length = omega (arith, len);
      over = ap (walk_over limits front start) (take_all walk.length body (omega (arith, len))) ∙ is;
      fits = fits;
      line = line;
    }

-- what the call on the rest of the bytes answered is what a walk over all of them does
pub resumed_at : (limits : Limits) (front : ℕ) (body : List ℕ) (walk : Walk) (rest : List ℕ) (result answer : Result Walk FrameError)
    → HasWalked limits front body walk → rest ≡ drop walk.length body → result ≡ walk_over limits front walk rest
    → result ≡ answer → walk_over limits front start body ≡ answer
resumed_at limits front body walk rest result answer walked back value is =
    sym (resumed limits front body walk walked) ∙ ap (walk_over limits front walk) (sym back) ∙ sym value ∙ is

-- at the front of a body nothing was walked over
pub walked_start : (limits : Limits) (front : ℕ) (body : List ℕ) (walk : Walk) → walk ≡ start → IsTrue (can_fit limits start)
    → HasWalked limits front body walk
unfolding start
walked_start limits front body walk same fits = subst (HasWalked limits front body) (sym same) (record {
  length = omega arith;
  over = walk_none limits front start;
  fits = fits;
  line = omega arith;
})

pub request_starts : IsTrue (can_fit request_limits start)
unfolding can_fit start begun_content least_rest
request_starts = refl

pub answer_starts : IsTrue (can_fit answer_limits start)
unfolding can_fit start begun_content least_rest
answer_starts = refl
