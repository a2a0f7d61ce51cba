-- Of a request's bytes at most one answer is so.
use Rattle.std.proofs.Common.{◌≡◌, ℕ, ◌<◌, ◌≤◌, take, arith, List, ◌++◌, length, map, refl, sym, ap, ◌∙◌, subst, append_assoc, Bool, true, false, inl, inr}
use Rattle.std.specs.Prelude.{Option, Some, None, Result, Ok, Err, if◌then◌else◌, nat_lt, ◌⊎◌}
use Rattle.httparse.specs.Grammar.{RequestHead, print_request, EndsInTarget}
use Rattle.http_frames.specs.Limits.{request_limits}
use Rattle.http_frames.specs.declared.framing.Framing.{Framing}
use Rattle.http_frames.specs.declared.frame_error.FrameError.{FrameError}
use Rattle.http_frames.specs.declared.frame_error.FrameError.TheVariants.{Head, HeadTooLong, Memory}
use Rattle.http_frames.specs.declared.message.Request.{Request}
use Rattle.http_frames.specs.Heads.{header_of}
use Rattle.http_frames.specs.Frames.{framing_of}
use Rattle.http_frames.specs.OneAnswer.{RequestAnswer, OneRequestAnswer, left_open, HeadOrOpen}
use Rattle.http_frames.proofs.FrameLaws.{BodyMeans}
use Rattle.http_frames.proofs.OneHead.{FoundRequest, RequestHeadIs, one_request_head}
use Rattle.http_frames.proofs.OneBody.{Reading, one_reading}
use Rattle.http_frames.proofs.RequestFramings.{never_to_end}
use Rattle.http_frames.proofs.InTarget.{whole_not_in_target}

-- ---- one answer

-- the answer by what is read of the body
abbrev request_by : RequestHead → Reading → Result (Option Request) FrameError
request_by head (Ok (Some content)) = Ok (Some (record {
  method = head.method;
  target = head.target;
  headers = map header_of head.fields;
  body = content;
}))
request_by head (Ok None) = Ok None
request_by head (Err e) = Err e

abbrev RequestFramed : Result Framing FrameError → RequestHead → List ℕ → Result (Option Request) FrameError → Type 0
RequestFramed (Err e) head rest x = x ≡ Err e
RequestFramed (Ok framing) head rest x =
    (reading : Reading) × BodyMeans request_limits (length (print_request head)) framing rest reading × (x ≡ request_by head reading)

abbrev RequestFollows : FoundRequest → Result (Option Request) FrameError → Type 0
RequestFollows (Ok (Some found)) x = RequestFramed (framing_of found.0) found.0 found.1 x
RequestFollows (Ok None) x = x ≡ Ok None
RequestFollows (Err e) x = x ≡ Err e

record RequestView (bytes : List ℕ) (x : Result (Option Request) FrameError) : Type 0 where
  front : FoundRequest
  head : RequestHeadIs bytes front
  follows : RequestFollows front x

request_view : (bytes : List ℕ) (x : Result (Option Request) FrameError) → RequestAnswer bytes x → RequestView bytes x
request_view bytes (Ok (Some request)) h =
    let rest = h.1 in
    let f = h.3 in
    let reads = f.front.begins.reads in
    record {
      front = Ok (Some (f.head, f.body ++ rest));
      head = record {
        begins = record {
          reads = (reads.0, h.2 ∙ ap (λ (l : List ℕ). l ++ rest) reads.1 ∙ append_assoc (print_request f.head) f.body rest);
          lines = f.front.begins.lines;
        };
        short = f.front.short;
      };
      follows = subst (λ (r : Result Framing FrameError). RequestFramed r f.head (f.body ++ rest) (Ok (Some request))) (sym f.says) (
        Ok (Some request.body),
        record {
          body = f.body;
          rest = rest;
          split = refl;
          is_body = f.content;
          to_end = λ e. absurd (never_to_end f.head.method (map header_of f.head.fields) (f.says ∙ ap (λ (k : Framing). Ok k) e));
        },
        λ i. Ok (Some (record { method = f.method i; target = f.target i; headers = f.headers i; body = request.body })),
      );
    }
request_view bytes (Ok None) (inl w) = record { front = Ok None; head = w; follows = refl }
request_view bytes (Ok None) (inr w) = record {
  front = Ok (Some (w.head, w.body));
  head = w.front;
  follows = subst (λ (r : Result Framing FrameError). RequestFramed r w.head w.body (Ok None)) (sym w.says) (Ok None, w.awaits, refl);
}
request_view bytes (Err e) h = elim h.1 [
  | inl w ↦ record { front = Err e; head = (h.0, w); follows = refl }
  | inr u ↦ elim u [
    | inl w ↦ record {
      front = Ok (Some (w.head, w.rest));
      head = w.front;
      follows = subst (λ (r : Result Framing FrameError). RequestFramed r w.head w.rest (Err e)) (sym w.says) refl;
    }
    | inr w ↦ record {
      front = Ok (Some (w.head, w.body));
      head = w.front;
      follows = subst (λ (r : Result Framing FrameError). RequestFramed r w.head w.body (Err e)) (sym w.says) (Err e, w.refuses, refl);
    }
  ]
]

one_framed_request : (r : Result Framing FrameError) (head : RequestHead) (rest : List ℕ) (x y : Result (Option Request) FrameError)
    → RequestFramed r head rest x → RequestFramed r head rest y → x ≡ y
one_framed_request (Err e) head rest x y h k = h ∙ sym k
one_framed_request (Ok framing) head rest x y h k =
    h.2 ∙ ap (request_by head) (one_reading request_limits (length (print_request head)) framing rest h.0 k.0 h.1 k.1) ∙ sym k.2

one_request_follows : (front : FoundRequest) (x y : Result (Option Request) FrameError) → RequestFollows front x → RequestFollows front y → x ≡ y
one_request_follows (Ok (Some found)) x y h k = one_framed_request (framing_of found.0) found.0 found.1 x y h k
one_request_follows (Ok None) x y h k = h ∙ sym k
one_request_follows (Err e) x y h k = h ∙ sym k

pub one_request : OneRequestAnswer
one_request bytes x y target h k =
    let v = request_view bytes x h in
    let w = request_view bytes y k in
    one_request_follows w.front x y
    (subst (λ (f : FoundRequest). RequestFollows f x) (one_request_head bytes v.front w.front target v.head w.head) v.follows) w.follows

-- ---- inside a target

less : (n m : ℕ) → n < m → nat_lt n m ≡ true
less n m h = grind arith

not_less : (n m : ℕ) → m ≤ n → nat_lt n m ≡ false
not_less n m h = grind arith

open_by : (bytes : List ℕ) (t : Bool) → nat_lt (length bytes) 16384 ≡ t → (if t then Ok None else Err HeadTooLong) ≡ left_open bytes
open_by bytes t e = ap (λ (b : Bool). if b then Ok None else Err HeadTooLong) (sym e)

follows_in_target : (bytes : List ℕ) (front : FoundRequest) (x : Result (Option Request) FrameError) → EndsInTarget (take 16384 bytes)
    → RequestHeadIs bytes front → RequestFollows front x → (x ≡ left_open bytes) ⊎ (x ≡ Err Head)
follows_in_target bytes (Ok (Some found)) x ends h k = absurd (whole_not_in_target bytes found.0 found.1 h ends)
follows_in_target bytes (Ok None) x ends h k =
    inl (k ∙ open_by bytes true (less (length bytes) 16384 h.short))
follows_in_target bytes (Err Head) x ends h k = inr k
follows_in_target bytes (Err HeadTooLong) x ends h k =
    inl (k ∙ open_by bytes false (not_less (length bytes) 16384 h.1.0))
follows_in_target bytes (Err Memory) x ends h k = absurd (h.0 refl)
follows_in_target bytes (Err e) x ends h k = absurd h.1

pub head_or_open : HeadOrOpen
head_or_open bytes x ends h = (let v = request_view bytes x h in follows_in_target bytes v.front x ends v.head v.follows)
