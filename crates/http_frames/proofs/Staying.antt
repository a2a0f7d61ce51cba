-- What is answered to bytes is answered to them with more bytes after.
use Rattle.std.proofs.Common.{◌≡◌, ℕ, zero, suc, ◌≤◌, List, [], ◌∷◌, ◌++◌, length, take, refl, sym, ap, ◌∙◌, subst, arith, append_assoc, length-append, inl, inr}
use Rattle.std.specs.Prelude.{Some, None, Ok, Err}
use Rattle.std.proofs.lemmas.List.{take-append-le}
use Rattle.httparse.specs.Grammar.{RequestHead, print_request, ResponseHead, print_response}
use Rattle.http_frames.specs.declared.limits.Limits.{Limits}
use Rattle.http_frames.specs.declared.framing.Framing.{Framing}
use Rattle.http_frames.specs.declared.framing.Framing.TheVariants.{Sized, Chunked, ToEnd}
use Rattle.http_frames.specs.declared.frame_error.FrameError.{FrameError}
use Rattle.http_frames.specs.declared.frame_error.FrameError.TheVariants as errors
use Rattle.http_frames.specs.Chunks.{StopsWrong, StopsLong}
use Rattle.http_frames.specs.Heads.{BeginsRequest, IsOpenRequest, IsNoRequest, RefusesRequestHead, BeginsAnswer, IsOpenAnswer, IsNoAnswer, RefusesAnswerHead}
use Rattle.http_frames.specs.Frames.{RefusesBody, RefusesChunked, RequestFront, AnswerFront, Interim, no_interim, interim, LastFront}
use Rattle.http_frames.specs.OneAnswer.{RequestAnswersStay, ReplyErrorsStay}

-- the first n bytes of a longer text go on from the first n
take_more : (n : ℕ) (bytes more : List ℕ) → (z : List ℕ) × (take n (bytes ++ more) ≡ take n bytes ++ z)
take_more zero bytes more = ([], refl)
take_more (suc n) [] more = (take (suc n) more, refl)
take_more (suc n) (b ∷ bytes) more = (let w = take_more n bytes more in (w.0, ap (λ (l : List ℕ). b ∷ l) w.1))

take_same : (n : ℕ) (bytes more : List ℕ) → n ≤ length bytes → take n bytes ≡ take n (bytes ++ more)
take_same n bytes more fits = sym (take-append-le n bytes more fits)

-- ---- heads

pub no_request_more : (bytes z : List ℕ) → IsNoRequest bytes → IsNoRequest (bytes ++ z)
no_request_more bytes z never = λ more head rest h.
    never (z ++ more) head rest (subst (λ (l : List ℕ). BeginsRequest l head rest) (append_assoc bytes z more) h)

no_answer_more : (bytes z : List ℕ) → IsNoAnswer bytes → IsNoAnswer (bytes ++ z)
no_answer_more bytes z never = λ more head rest h.
    never (z ++ more) head rest (subst (λ (l : List ℕ). BeginsAnswer l head rest) (append_assoc bytes z more) h)

longer : (n : ℕ) (bytes more : List ℕ) → n ≤ length bytes → n ≤ length (bytes ++ more)
longer n bytes more fits = omega (arith, length-append bytes more)

request_head_stays : (bytes more : List ℕ) (e : FrameError) → RefusesRequestHead bytes e → RefusesRequestHead (bytes ++ more) e
request_head_stays bytes more errors.Head h =
    let z = take_more 16384 bytes more in
    subst IsNoRequest (sym z.1) (no_request_more (take 16384 bytes) z.0 h)
request_head_stays bytes more errors.HeadTooLong h =
    (longer 16384 bytes more h.0, subst IsOpenRequest (take_same 16384 bytes more h.0) h.1)
request_head_stays bytes more errors.Memory h = tt
request_head_stays bytes more e h = absurd h

answer_head_stays : (bytes more : List ℕ) (e : FrameError) → RefusesAnswerHead bytes e → RefusesAnswerHead (bytes ++ more) e
answer_head_stays bytes more errors.Head h =
    let z = take_more 16384 bytes more in
    subst IsNoAnswer (sym z.1) (no_answer_more (take 16384 bytes) z.0 h)
answer_head_stays bytes more errors.HeadTooLong h =
    (longer 16384 bytes more h.0, subst IsOpenAnswer (take_same 16384 bytes more h.0) h.1)
answer_head_stays bytes more errors.Memory h = tt
answer_head_stays bytes more e h = absurd h

request_front_more : (bytes : List ℕ) (head : RequestHead) (rest more : List ℕ) → RequestFront bytes head rest
    → RequestFront (bytes ++ more) head (rest ++ more)
request_front_more bytes head rest more f = record {
  begins = record {
    reads = (f.begins.reads.0, ap (λ (l : List ℕ). l ++ more) f.begins.reads.1 ∙ append_assoc (print_request head) rest more);
    lines = f.begins.lines;
  };
  short = f.short;
}

answer_front_more : (bytes : List ℕ) (head : ResponseHead) (rest more : List ℕ) → AnswerFront bytes head rest
    → AnswerFront (bytes ++ more) head (rest ++ more)
answer_front_more bytes head rest more f = record {
  begins = record {
    reads = (f.begins.reads.0, ap (λ (l : List ℕ). l ++ more) f.begins.reads.1 ∙ append_assoc (print_response head) rest more);
    lines = f.begins.lines;
  };
  short = f.short;
}

interims_more : (bytes rest more : List ℕ) → Interim bytes rest → Interim (bytes ++ more) (rest ++ more)
interims_more _ _ more (no_interim bytes) = no_interim (bytes ++ more)
interims_more _ _ more (interim bytes middle rest head front between next) =
    interim (bytes ++ more) (middle ++ more) (rest ++ more) head (answer_front_more bytes head middle more front) between
    (interims_more middle rest more next)

last_front_more : (bytes : List ℕ) (head : ResponseHead) (rest more : List ℕ) → LastFront bytes head rest
    → LastFront (bytes ++ more) head (rest ++ more)
last_front_more bytes head rest more l = record {
  from = l.from ++ more;
  interims = interims_more bytes l.from more l.interims;
  front = answer_front_more l.from head rest more l.front;
  last = l.last;
}

-- ---- bodies

wrong_stays : (limits : Limits) (bytes more : List ℕ) (place : ℕ) → StopsWrong limits bytes place → StopsWrong limits (bytes ++ more) place
wrong_stays limits bytes more place s = record {
  before = s.before;
  wrong = s.wrong;
  rest = s.rest ++ more;
  split = ap (λ (l : List ℕ). l ++ more) s.split ∙ append_assoc s.before (s.wrong ∷ s.rest) more;
  could_be = s.could_be;
  line = s.line;
  never = s.never;
}

long_stays : (limits : Limits) (bytes more : List ℕ) → StopsLong limits bytes → StopsLong limits (bytes ++ more)
long_stays limits bytes more s = record {
  before = s.before;
  last = s.last;
  rest = s.rest ++ more;
  split = ap (λ (l : List ℕ). l ++ more) s.split ∙ append_assoc s.before (s.last ∷ s.rest) more;
  could_be = s.could_be;
  begins = s.begins;
  never = s.never;
}

chunked_stays : (limits : Limits) (front : ℕ) (bytes more : List ℕ) (e : FrameError) → RefusesChunked limits front bytes e
    → RefusesChunked limits front (bytes ++ more) e
chunked_stays limits front bytes more (errors.Chunk at) h = (h.0, h.1, wrong_stays limits bytes more h.0 h.2)
chunked_stays limits front bytes more errors.BodyTooLong h = long_stays limits bytes more h
chunked_stays limits front bytes more e h = absurd h

body_stays : (limits : Limits) (front : ℕ) (framing : Framing) (bytes more : List ℕ) (e : FrameError)
    → RefusesBody limits front framing bytes e → RefusesBody limits front framing (bytes ++ more) e
body_stays limits front (Sized n) bytes more e h = h
body_stays limits front Chunked bytes more e h = chunked_stays limits front bytes more e h
body_stays limits front ToEnd bytes more e h = (h.0, omega (arith, h.1, length-append bytes more))

-- ---- answers

pub requests_stay : RequestAnswersStay
requests_stay bytes more (Ok (Some request)) other h =
    (h.0, h.1 ++ more, ap (λ (l : List ℕ). l ++ more) h.2 ∙ append_assoc h.0 h.1 more, h.3)
requests_stay bytes more (Ok None) other h = absurd (other refl)
requests_stay bytes more (Err e) other h = (
  h.0,
  elim h.1 [
    | inl w ↦ inl (request_head_stays bytes more e w)
    | inr u ↦ inr (elim u [
      | inl w ↦ inl (record { head = w.head; rest = w.rest ++ more; front = request_front_more bytes w.head w.rest more w.front; says = w.says })
      | inr w ↦ inr (record {
        head = w.head;
        body = w.body ++ more;
        front = request_front_more bytes w.head w.body more w.front;
        framing = w.framing;
        says = w.says;
        refuses = body_stays _ _ w.framing w.body more e w.refuses;
      })
    ])
  ],
)

pub replies_stay : ReplyErrorsStay
replies_stay bytes more e other h = (
  h.0,
  elim h.1 [
    | inl w ↦ absurd (other (length bytes) w.0)
    | inr u ↦ inr (elim u [
      | inl w ↦ inl (w.0 ++ more, interims_more bytes w.0 more w.1, answer_head_stays w.0 more e w.2)
      | inr v ↦ inr (elim v [
        | inl w ↦ inl (record { head = w.head; rest = w.rest ++ more; front = last_front_more bytes w.head w.rest more w.front; says = w.says })
        | inr w ↦ inr (record {
          head = w.head;
          body = w.body ++ more;
          front = last_front_more bytes w.head w.body more w.front;
          framing = w.framing;
          says = w.says;
          before = w.before;
          counts = omega (arith, w.counts, length-append w.body more, length-append bytes more);
          refuses = body_stays _ _ w.framing w.body more e w.refuses;
        })
      ])
    ])
  ],
)
