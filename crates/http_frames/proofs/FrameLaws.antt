-- What a reader answers is so of the messages and their bytes.
use Rattle.std.proofs.Common.{◌≡◌, ℕ, ◌-◌, ◌<◌, ◌≤◌, List, [], ◌++◌, length, take, drop, refl, sym, ap, ap₂, ◌∙◌, subst, arith, append_assoc, append-nil, length-append, Bool, true, false, inl, inr}
use Rattle.std.specs.Prelude.{◌≢◌, Option, Some, None, Result, Ok, Err, IfOk, IfErr, IfSome, IfNone, if◌then◌else◌, nat_le}
use Rattle.std.proofs.lemmas.List.{take-append-drop, length-take-le}
use Rattle.httparse.specs.Grammar.{print_request, ResponseHead, print_response}
use Rattle.http_frames.specs.declared.limits.Limits.{Limits}
use Rattle.http_frames.specs.Limits.{request_limits, answer_limits}
use Rattle.http_frames.specs.declared.framing.Framing.{Framing}
use Rattle.http_frames.specs.declared.framing.Framing.TheVariants.{Sized, Chunked, ToEnd}
use Rattle.http_frames.specs.declared.chunks.Walk.{Walk}
use Rattle.http_frames.specs.declared.frame_error.FrameError.{FrameError}
use Rattle.http_frames.specs.declared.frame_error.FrameError.TheVariants.{BodyTooLong, Memory}
use Rattle.http_frames.specs.declared.message.Request.{Request}
use Rattle.http_frames.specs.declared.message.Reply.{Reply}
use Rattle.http_frames.specs.declared.head.RequestHead.{RequestHead as RequestStart}
use Rattle.http_frames.specs.declared.head.AnswerHead.{AnswerHead as AnswerStart}
use Rattle.http_frames.specs.Phases.{is_done}
use Rattle.http_frames.specs.Walks.{can_fit, walk_over, content_over, start}
use Rattle.http_frames.specs.Bodies.{body_reading, chunked_reading}
use Rattle.http_frames.specs.Heads.{IsRequestHeadOf, IsAnswerHeadOf}
use Rattle.http_frames.specs.Framing.{request_framing, answer_framing}
use Rattle.http_frames.specs.Reading.{ReadsBody, IsReadRequest, AwaitsMore, Refuses}
use Rattle.http_frames.specs.Answering.{Passes, no_more, one_more, is_interim, IsLastHead, AnswersBody, IsReadAnswer, EndsInside, RefusesAnswer, Answers}
use Rattle.http_frames.specs.Frames.{FrontBody, AwaitsBody, RefusesBody, RefusesChunked, framing_of, RequestFront, BeginsWithRequest, AwaitsRest, RefusesRequest, answer_framing_of, AnswerFront, Interim, no_interim, interim, LastFront, IsAnswerFrame, IsTorn, RefusesReply, NoAnswer}
use Rattle.http_frames.proofs.Walking.{request_starts, answer_starts}
use Rattle.http_frames.proofs.WalkBodies.{body_whole, body_open}
use Rattle.http_frames.proofs.Refusals.{body_refused, BodyRefusal, is_wrong_at, is_too_long}

-- ---- bodies

-- what a reading says of the bytes
abbrev pub BodyMeans : Limits → ℕ → Framing → List ℕ → Result (Option (List ℕ)) FrameError → Type 0
BodyMeans limits front framing bytes (Ok (Some content)) = FrontBody limits framing bytes content
BodyMeans limits front framing bytes (Ok None) = AwaitsBody limits framing bytes
BodyMeans limits front framing bytes (Err e) = RefusesBody limits front framing bytes e

sized_means : (limits : Limits) (front n : ℕ) (bytes : List ℕ) (t : Bool) → nat_le n (length bytes) ≡ t
    → BodyMeans limits front (Sized n) bytes (if t then Ok (Some (take n bytes)) else Ok None)
sized_means limits front n bytes true e =
    let fits : n ≤ length bytes = grind (arith, e) in
    record {
      body = take n bytes;
      rest = drop n bytes;
      split = sym (take-append-drop n bytes);
      is_body = (length-take-le n bytes fits, refl);
      to_end = λ h. absurd (cc);
    }
sized_means limits front n bytes false e = grind (arith, e)

end_means : (limits : Limits) (front : ℕ) (bytes : List ℕ) (t : Bool) → nat_le (length bytes) limits.content ≡ t
    → BodyMeans limits front ToEnd bytes (if t then Ok (Some bytes) else Err BodyTooLong)
end_means limits front bytes true e =
    let fits : length bytes ≤ limits.content = grind (arith, e) in
    record { body = bytes; rest = []; split = sym (append-nil bytes); is_body = (fits, refl); to_end = λ h. refl }
end_means limits front bytes false e = (let long : limits.content < length bytes = grind (arith, e) in (refl, long))

refusal_means : (limits : Limits) (front : ℕ) (bytes : List ℕ) (e : FrameError) → BodyRefusal limits front bytes e
    → RefusesChunked limits front bytes e
refusal_means limits front bytes _ (is_wrong_at place stops) = (place, refl, stops)
refusal_means limits front bytes _ (is_too_long stops) = stops

done_means : (limits : Limits) (front : ℕ) (bytes : List ℕ) (walk : Walk) (t : Bool) → can_fit limits start ≡ true
    → walk_over limits front start bytes ≡ Ok walk → is_done walk.phase ≡ t
    → BodyMeans limits front Chunked bytes (if t then Ok (Some (content_over limits front start bytes)) else Ok None)
done_means limits front bytes walk true fits over done =
    let w = body_whole limits front bytes walk fits over done in
    record { body = w.0; rest = w.1; split = w.2; is_body = w.3; to_end = λ h. absurd (cc) }
done_means limits front bytes walk false fits over open' = body_open limits front bytes walk fits over open'

chunked_means : (limits : Limits) (front : ℕ) (bytes : List ℕ) (r : Result Walk FrameError) → can_fit limits start ≡ true
    → walk_over limits front start bytes ≡ r → BodyMeans limits front Chunked bytes (chunked_reading r (content_over limits front start bytes))
chunked_means limits front bytes (Err e) fits over = refusal_means limits front bytes e (body_refused limits front bytes e fits over)
chunked_means limits front bytes (Ok walk) fits over = done_means limits front bytes walk (is_done walk.phase) fits over refl

pub reading_means : (limits : Limits) (front : ℕ) (framing : Framing) (bytes : List ℕ) → can_fit limits start ≡ true
    → BodyMeans limits front framing bytes (body_reading limits front framing bytes)
unfolding body_reading
reading_means limits front (Sized n) bytes fits = sized_means limits front n bytes (nat_le n (length bytes)) refl
reading_means limits front Chunked bytes fits = chunked_means limits front bytes (walk_over limits front start bytes) fits refl
reading_means limits front ToEnd bytes fits = end_means limits front bytes (nat_le (length bytes) limits.content) refl

-- ---- requests

pub request_front : (bytes : List ℕ) (s : RequestStart) (at : IsRequestHeadOf bytes s) → RequestFront bytes at.head (drop s.length bytes)
request_front bytes s at = record { begins = at.begins; short = omega (arith, at.length_is, at.short) }

request_says : (bytes : List ℕ) (s : RequestStart) (at : IsRequestHeadOf bytes s) → framing_of at.head ≡ request_framing s.method s.headers
request_says bytes s at = ap₂ request_framing (sym at.method) (sym at.headers)

read_means : (bytes : List ℕ) (s : RequestStart) (reading : Result (Option (List ℕ)) FrameError) (r : ReadsBody bytes s reading)
    → BodyMeans request_limits s.length r.framing (drop s.length bytes) reading
read_means bytes s reading r =
    subst (BodyMeans request_limits s.length r.framing (drop s.length bytes)) r.body
    (reading_means request_limits s.length r.framing (drop s.length bytes) request_starts)

pub request_framed : (bytes : List ℕ) (request : Request) → IsReadRequest bytes request → BeginsWithRequest bytes request
request_framed bytes request r =
    let s = r.start in
    let at = r.whole.head in
    let body = read_means bytes s (Ok (Some request.body)) r.whole in
    let split : bytes ≡ (print_request at.head ++ body.body) ++ body.rest =
    at.begins.reads.1 ∙ ap (λ (l : List ℕ). print_request at.head ++ l) body.split
    ∙ sym (append_assoc (print_request at.head) body.body body.rest) in (
      print_request at.head ++ body.body,
      body.rest,
      split,
      record {
        head = at.head;
        body = body.body;
        front = record {
          begins = record { reads = (at.begins.reads.0, refl); lines = at.begins.lines };
          short = (request_front bytes s at).short;
        };
        method = r.method ∙ at.method;
        target = r.target ∙ at.target;
        headers = r.headers ∙ at.headers;
        framing = r.whole.framing;
        says = request_says bytes s at ∙ r.whole.says;
        content = body.is_body;
      },
    )

pub more_awaited : (bytes : List ℕ) → AwaitsMore bytes → AwaitsRest bytes
more_awaited bytes awaits = elim awaits [
  | inl w ↦ inl w
  | inr w ↦ inr (record {
    head = w.1.head.head;
    body = drop w.0.length bytes;
    front = request_front bytes w.0 w.1.head;
    framing = w.1.framing;
    says = request_says bytes w.0 w.1.head ∙ w.1.says;
    awaits = read_means bytes w.0 (Ok None) w.1;
  })
]

pub request_refused : (bytes : List ℕ) (e : FrameError) → Refuses bytes e → RefusesRequest bytes e
request_refused bytes e refuses = elim refuses [
  | inl w ↦ inl w
  | inr w ↦ elim w [
    | inl v ↦ inr (inl (record {
      head = v.head.head;
      rest = drop v.start.length bytes;
      front = request_front bytes v.start v.head;
      says = request_says bytes v.start v.head ∙ v.says;
    }))
    | inr v ↦ inr (inr (record {
      head = v.1.head.head;
      body = drop v.0.length bytes;
      front = request_front bytes v.0 v.1.head;
      framing = v.1.framing;
      says = request_says bytes v.0 v.1.head ∙ v.1.says;
      refuses = subst (λ (n : ℕ). RefusesBody request_limits n v.1.framing (drop v.0.length bytes) e) v.1.head.length_is
          (read_means bytes v.0 (Err e) v.1);
    }))
  ]
]

-- ---- answers

pub answer_front : (bytes : List ℕ) (s : AnswerStart) (at : IsAnswerHeadOf bytes s) → AnswerFront bytes at.head (drop s.length bytes)
answer_front bytes s at = record { begins = at.begins; short = omega (arith, at.length_is, at.short) }

answer_says : (bytes : List ℕ) (s : AnswerStart) (at : IsAnswerHeadOf bytes s) → answer_framing_of at.head ≡ answer_framing s.code s.headers
answer_says bytes s at = ap₂ answer_framing (sym at.code) (sym at.headers)

passed : (bytes rest : List ℕ) → Passes bytes rest → Interim bytes rest
passed _ _ (no_more bytes) = no_interim bytes
passed _ _ (one_more bytes rest s at between more) =
    interim bytes (drop s.length bytes) rest at.head (answer_front bytes s at) (ap is_interim (sym at.code) ∙ between)
    (passed (drop s.length bytes) rest more)

last_front : (bytes rest : List ℕ) (s : AnswerStart) (l : IsLastHead bytes rest s) → LastFront bytes l.head.head (drop s.length rest)
last_front bytes rest s l = record {
  from = rest;
  interims = passed bytes rest l.passes;
  front = answer_front rest s l.head;
  last = ap is_interim (sym l.head.code) ∙ l.last;
}

front_of : (bytes : List ℕ) (s : AnswerStart) (reading : Result (Option (List ℕ)) FrameError) (r : AnswersBody bytes s reading)
    → BodyMeans answer_limits (length bytes - length (drop s.length r.rest)) r.framing (drop s.length r.rest) reading
front_of bytes s reading r =
    subst (BodyMeans answer_limits (length bytes - length (drop s.length r.rest)) r.framing (drop s.length r.rest)) r.body
    (reading_means answer_limits (length bytes - length (drop s.length r.rest)) r.framing (drop s.length r.rest) answer_starts)

pub answer_framed : (bytes : List ℕ) (reply : Reply) → IsReadAnswer bytes reply → IsAnswerFrame bytes reply
answer_framed bytes reply r =
    let s = r.start in
    let at = r.whole.head in
    record {
      head = at.head.head;
      rest = drop s.length r.whole.rest;
      front = last_front bytes r.whole.rest s at;
      code = r.code ∙ at.head.code;
      headers = r.headers ∙ at.head.headers;
      framing = r.whole.framing;
      says = answer_says r.whole.rest s at.head ∙ r.whole.says;
      content = front_of bytes s (Ok (Some reply.body)) r.whole;
    }

torn_inside : (bytes : List ℕ) → EndsInside bytes → IsTorn bytes
torn_inside bytes ends = elim ends [
  | inl w ↦ inl (w.0, passed bytes w.0 w.1, w.2)
  | inr w ↦ inr (record {
    head = w.1.head.head.head;
    body = drop w.0.length w.1.rest;
    front = last_front bytes w.1.rest w.0 w.1.head;
    framing = w.1.framing;
    says = answer_says w.1.rest w.0 w.1.head.head ∙ w.1.says;
    awaits = front_of bytes w.0 (Ok None) w.1;
  })
]

interim_length : (bytes rest : List ℕ) → Interim bytes rest → length rest ≤ length bytes
interim_length _ _ (no_interim bytes) = omega arith
interim_length _ _ (interim bytes middle rest head front between more) =
    omega (arith, interim_length middle rest more, ap length front.begins.reads.1, length-append (print_response head) middle)

last_length : (bytes : List ℕ) (head : ResponseHead) (rest : List ℕ) → LastFront bytes head rest → length rest ≤ length bytes
last_length bytes head rest l =
    omega (arith, interim_length bytes l.from l.interims, ap length l.front.begins.reads.1, length-append (print_response head) rest)

reply_refused : (bytes : List ℕ) (e : FrameError) → RefusesAnswer bytes e → RefusesReply bytes e
reply_refused bytes e refuses = elim refuses [
  | inl w ↦ inl (w.0, passed bytes w.0 w.1, w.2)
  | inr w ↦ elim w [
    | inl v ↦ inr (inl (record {
      head = v.head.head.head;
      rest = drop v.start.length v.rest;
      front = last_front bytes v.rest v.start v.head;
      says = answer_says v.rest v.start v.head.head ∙ v.says;
    }))
    | inr v ↦
        let front = last_front bytes v.1.rest v.0 v.1.head in
        inr (inr (record {
          head = v.1.head.head.head;
          body = drop v.0.length v.1.rest;
          front = front;
          framing = v.1.framing;
          says = answer_says v.1.rest v.0 v.1.head.head ∙ v.1.says;
          before = length bytes - length (drop v.0.length v.1.rest);
          counts = omega (arith, last_length bytes v.1.head.head.head (drop v.0.length v.1.rest) front);
          refuses = front_of bytes v.0 (Err e) v.1;
        }))
  ]
]

pub not_answered : (bytes : List ℕ) (e : FrameError) → Answers bytes (Err e) → NoAnswer bytes e
not_answered bytes e answers = elim answers [
  | inl w ↦ inl w
  | inr w ↦ inr (elim w [
    | inl v ↦ inl (v.0, torn_inside bytes v.1)
    | inr v ↦ inr (reply_refused bytes e v)
  ])
]

-- ---- by the result of a call

pub whole_if : (bytes : List ℕ) (r : Result (Option Request) FrameError) → IfOk r (λ o. IfSome o (IsReadRequest bytes))
    → IfOk r (λ o. IfSome o (BeginsWithRequest bytes))
whole_if bytes (Ok (Some request)) h = request_framed bytes request h
whole_if bytes (Ok None) h = tt
whole_if bytes (Err e) h = tt

pub more_if : (bytes : List ℕ) (r : Result (Option Request) FrameError) → IfOk r (λ o. IfNone o (AwaitsMore bytes))
    → IfOk r (λ o. IfNone o (AwaitsRest bytes))
more_if bytes (Ok (Some request)) h = tt
more_if bytes (Ok None) h = more_awaited bytes h
more_if bytes (Err e) h = tt

pub refused_if : (bytes : List ℕ) (r : Result (Option Request) FrameError) → IfErr r (λ e. e ≢ Memory → Refuses bytes e)
    → IfErr r (λ e. e ≢ Memory → RefusesRequest bytes e)
refused_if bytes (Ok o) h = tt
refused_if bytes (Err e) h = λ other. request_refused bytes e (h other)

pub answer_if : (bytes : List ℕ) (r : Result Reply FrameError) → Answers bytes r → IfOk r (IsAnswerFrame bytes)
answer_if bytes (Ok reply) h = answer_framed bytes reply h
answer_if bytes (Err e) h = tt

pub no_answer_if : (bytes : List ℕ) (r : Result Reply FrameError) → Answers bytes r → IfErr r (NoAnswer bytes)
no_answer_if bytes (Ok reply) h = tt
no_answer_if bytes (Err e) h = not_answered bytes e h
