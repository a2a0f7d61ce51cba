-- Of an answer's bytes at most one answer is so.
use Rattle.std.proofs.Common.{◌≡◌, ℕ, ◌-◌, List, length, map, refl, sym, ap, ◌∙◌, subst, arith, true, false, inl, inr}
use Rattle.std.specs.Prelude.{◌⊎◌, Some, None, Result, Ok, Err}
use Rattle.std.proofs.lemmas.Bool.{false≢true}
use Rattle.httparse.specs.Grammar.{ResponseHead, status_code}
use Rattle.httparse.proofs.GrammarLemmas.{response_unique}
use Rattle.http_frames.specs.Limits.{answer_limits}
use Rattle.http_frames.specs.declared.framing.Framing.{Framing}
use Rattle.http_frames.specs.declared.frame_error.FrameError.{FrameError}
use Rattle.http_frames.specs.declared.frame_error.FrameError.TheVariants.{Torn}
use Rattle.http_frames.specs.declared.message.Reply.{Reply}
use Rattle.http_frames.specs.Heads.{header_of}
use Rattle.http_frames.specs.Answering.{is_interim}
use Rattle.http_frames.specs.Frames.{RefusesBody, answer_framing_of, AnswerFront, Interim, no_interim, interim}
use Rattle.http_frames.specs.OneAnswer.{ReplyAnswer, OneReplyAnswer}
use Rattle.http_frames.proofs.FrameLaws.{BodyMeans}
use Rattle.http_frames.proofs.OneHead.{FoundAnswer, AnswerHeadIs, found_answer, one_answer_head}
use Rattle.http_frames.proofs.OneBody.{Reading, one_reading}

-- ---- interim heads

-- no interim head stands at the front
abbrev Stops : List ℕ → Type 0
Stops bytes = (head : ResponseHead) (rest : List ℕ) → AnswerFront bytes head rest → is_interim (status_code head) ≡ true → ⊥

invert : (bytes last : List ℕ) → Interim bytes last → (bytes ≡ last)
    ⊎ ((middle : List ℕ) × (head : ResponseHead) × AnswerFront bytes head middle × (is_interim (status_code head) ≡ true) × Interim middle last)
invert _ _ (no_interim bytes) = inl refl
invert _ _ (interim bytes middle last head front between more) = inr (middle, head, front, between, more)

-- one run of interim heads goes on where the other ends
two_runs : (bytes a b : List ℕ) → Interim bytes a → Interim bytes b → Interim a b ⊎ Interim b a
two_runs _ _ b (no_interim bytes) k = inl k
two_runs _ _ b (interim bytes middle a head front between more) k = elim (invert bytes b k) [
  | inl e ↦ inr (subst (λ (l : List ℕ). Interim l a) e (interim bytes middle a head front between more))
  | inr w ↦
      let same = response_unique bytes head w.1 middle w.0 front.begins.reads w.2.begins.reads in
      two_runs middle a b more (subst (λ (l : List ℕ). Interim l b) (sym same.1) w.4)
]

stopped : (a b : List ℕ) → Interim a b → Stops a → a ≡ b
stopped _ _ (no_interim bytes) stops = refl
stopped _ _ (interim bytes middle b head front between more) stops = absurd (stops head middle front between)

one_run : (bytes a b : List ℕ) → Interim bytes a → Interim bytes b → Stops a → Stops b → a ≡ b
one_run bytes a b h k p q = elim (two_runs bytes a b h k) [ inl w ↦ stopped a b w p | inr w ↦ sym (stopped b a w q) ]

-- what is found is no interim head
abbrev IsLast : FoundAnswer → Type 0
IsLast (Ok (Some found)) = is_interim (status_code found.0) ≡ false
IsLast (Ok None) = Unit {0}
IsLast (Err e) = Unit {0}

last_stops : (bytes : List ℕ) (front : FoundAnswer) → AnswerHeadIs bytes front → IsLast front → Stops bytes
last_stops bytes (Ok (Some found)) h last = λ head rest at between.
    let same = response_unique bytes found.0 head found.1 rest h.begins.reads at.begins.reads in
    false≢true (sym last ∙ ap (λ (k : ResponseHead). is_interim (status_code k)) same.0 ∙ between)
last_stops bytes (Ok None) h last = λ head rest at between. h.is_open.lacks head rest at.begins
last_stops bytes (Err e) h last = λ head rest at between. found_answer bytes head rest e at h.0 h.1

-- ---- one answer

-- the answer by what is read of the body, in a message of that many bytes
abbrev reply_by : ℕ → ResponseHead → Reading → Result Reply FrameError
reply_by n head (Ok (Some content)) = Ok (record { code = status_code head; headers = map header_of head.fields; body = content })
reply_by n head (Ok None) = Err (Torn n)
reply_by n head (Err e) = Err e

abbrev ReplyFramed : ℕ → Result Framing FrameError → ResponseHead → List ℕ → Result Reply FrameError → Type 0
ReplyFramed n (Err e) head rest x = x ≡ Err e
ReplyFramed n (Ok framing) head rest x =
    (reading : Reading) × BodyMeans answer_limits (n - length rest) framing rest reading × (x ≡ reply_by n head reading)

abbrev ReplyFollows : ℕ → FoundAnswer → Result Reply FrameError → Type 0
ReplyFollows n (Ok (Some found)) x = ReplyFramed n (answer_framing_of found.0) found.0 found.1 x
ReplyFollows n (Ok None) x = x ≡ Err (Torn n)
ReplyFollows n (Err e) x = x ≡ Err e

record ReplyView (bytes : List ℕ) (x : Result Reply FrameError) : Type 0 where
  from : List ℕ
  interims : Interim bytes from
  front : FoundAnswer
  head : AnswerHeadIs from front
  last : IsLast front
  follows : ReplyFollows (length bytes) front x

reply_view : (bytes : List ℕ) (x : Result Reply FrameError) → ReplyAnswer bytes x → ReplyView bytes x
reply_view bytes (Ok reply) f = record {
  from = f.front.from;
  interims = f.front.interims;
  front = Ok (Some (f.head, f.rest));
  head = f.front.front;
  last = f.front.last;
  follows = subst (λ (r : Result Framing FrameError). ReplyFramed (length bytes) r f.head f.rest (Ok reply)) (sym f.says) (
    Ok (Some reply.body),
    f.content,
    λ i. Ok (record { code = f.code i; headers = f.headers i; body = reply.body }),
  );
}
reply_view bytes (Err e) h = elim h.1 [
  | inl t ↦ elim t.1 [
    | inl w ↦ record { from = w.0; interims = w.1; front = Ok None; head = w.2; last = tt; follows = ap (λ (g : FrameError). Err g) t.0 }
    | inr w ↦ record {
      from = w.front.from;
      interims = w.front.interims;
      front = Ok (Some (w.head, w.body));
      head = w.front.front;
      last = w.front.last;
      follows = subst (λ (r : Result Framing FrameError). ReplyFramed (length bytes) r w.head w.body (Err e)) (sym w.says)
          (Ok None, w.awaits, ap (λ (g : FrameError). Err g) t.0);
    }
  ]
  | inr u ↦ elim u [
    | inl w ↦ record { from = w.0; interims = w.1; front = Err e; head = (h.0, w.2); last = tt; follows = refl }
    | inr v ↦ elim v [
      | inl w ↦ record {
        from = w.front.from;
        interims = w.front.interims;
        front = Ok (Some (w.head, w.rest));
        head = w.front.front;
        last = w.front.last;
        follows = subst (λ (r : Result Framing FrameError). ReplyFramed (length bytes) r w.head w.rest (Err e)) (sym w.says) refl;
      }
      | inr w ↦
          let before : w.before ≡ length bytes - length w.body = omega (arith, w.counts) in
          record {
            from = w.front.from;
            interims = w.front.interims;
            front = Ok (Some (w.head, w.body));
            head = w.front.front;
            last = w.front.last;
            follows = subst (λ (r : Result Framing FrameError). ReplyFramed (length bytes) r w.head w.body (Err e)) (sym w.says)
                (Err e, subst (λ (n : ℕ). RefusesBody answer_limits n w.framing w.body e) before w.refuses, refl);
          }
    ]
  ]
]

one_framed_reply : (n : ℕ) (r : Result Framing FrameError) (head : ResponseHead) (rest : List ℕ) (x y : Result Reply FrameError)
    → ReplyFramed n r head rest x → ReplyFramed n r head rest y → x ≡ y
one_framed_reply n (Err e) head rest x y h k = h ∙ sym k
one_framed_reply n (Ok framing) head rest x y h k =
    h.2 ∙ ap (reply_by n head) (one_reading answer_limits (n - length rest) framing rest h.0 k.0 h.1 k.1) ∙ sym k.2

one_reply_follows : (n : ℕ) (front : FoundAnswer) (x y : Result Reply FrameError) → ReplyFollows n front x → ReplyFollows n front y → x ≡ y
one_reply_follows n (Ok (Some found)) x y h k = one_framed_reply n (answer_framing_of found.0) found.0 found.1 x y h k
one_reply_follows n (Ok None) x y h k = h ∙ sym k
one_reply_follows n (Err e) x y h k = h ∙ sym k

pub one_reply : OneReplyAnswer
one_reply bytes x y h k =
    let v = reply_view bytes x h in
    let w = reply_view bytes y k in
    let from = one_run bytes v.from w.from v.interims w.interims (last_stops v.from v.front v.head v.last)
    (last_stops w.from w.front w.head w.last) in
    let front = one_answer_head w.from v.front w.front (subst (λ (l : List ℕ). AnswerHeadIs l v.front) from v.head) w.head in
    one_reply_follows (length bytes) w.front x y (subst (λ (f : FoundAnswer). ReplyFollows (length bytes) f x) front v.follows) w.follows
