-- At the front of bytes at most one head stands, is awaited or is refused.
use Rattle.std.proofs.Common.{◌≡◌, ℕ, ◌≤◌, List, [], ◌∷◌, ◌++◌, length, take, drop, refl, sym, ap, ap₂, ◌∙◌, subst, arith, append-nil, length-append, inl, inr}
use Rattle.std.specs.Prelude.{◌≢◌, Option, Some, None, Result, Ok, Err}
use Rattle.std.proofs.lemmas.List.{take_all, take-append-drop, length-take}
use Rattle.httparse.specs.Grammar.{RequestHead, print_request, EndsInTarget, ResponseHead, print_response}
use Rattle.httparse.proofs.GrammarLemmas.{request_unique, response_unique}
use Rattle.http_frames.specs.declared.frame_error.FrameError.{FrameError}
use Rattle.http_frames.specs.declared.frame_error.FrameError.TheVariants as errors
use Rattle.http_frames.specs.Heads.{BeginsRequest, IsOpenRequest, IsNoRequest, AwaitsRequest, RefusesRequestHead, BeginsAnswer, IsOpenAnswer, IsNoAnswer, AwaitsAnswer, RefusesAnswerHead}
use Rattle.http_frames.specs.Frames.{RequestFront, AnswerFront}
use Rattle.http_frames.specs.OneAnswer.{EndsInWrongTarget}
use Rattle.http_frames.proofs.LinePlaces.{two_fronts}

no_bytes : (z : List ℕ) → length z ≡ 0 → z ≡ []
no_bytes [] e = refl
no_bytes (b ∷ z) e = absurd (omega (arith, e))

-- a front of at most n bytes is one of the first n
pub front_within : (n : ℕ) (bytes printed rest : List ℕ) → bytes ≡ printed ++ rest → length printed ≤ n
    → (z : List ℕ) × (take n bytes ≡ printed ++ z)
front_within n bytes printed rest e short =
    elim (two_fronts printed (take n bytes) rest (drop n bytes) (sym e ∙ sym (take-append-drop n bytes))) [
      | inl w ↦ (w.0, w.1)
      | inr w ↦
          let none : length w.0 ≡ 0 =
          omega (arith, short, ap length w.1, length-append (take n bytes) w.0, length-take n bytes, ap length e, length-append printed rest) in
          ([], sym (w.1 ∙ ap (λ (l : List ℕ). take n bytes ++ l) (no_bytes w.0 none) ∙ append-nil (take n bytes)) ∙ sym (append-nil printed))
    ]

-- ---- requests

abbrev pub FoundRequest : Type 0
FoundRequest = Result (Option (RequestHead × List ℕ)) FrameError

-- the head and the rest, none where more bytes are wanted, or what is wrong
abbrev pub RequestHeadIs : List ℕ → FoundRequest → Type 0
RequestHeadIs bytes (Ok (Some found)) = RequestFront bytes found.0 found.1
RequestHeadIs bytes (Ok None) = AwaitsRequest bytes
RequestHeadIs bytes (Err e) = (e ≢ errors.Memory) × RefusesRequestHead bytes e

found_request : (bytes : List ℕ) (head : RequestHead) (rest : List ℕ) (e : FrameError) → RequestFront bytes head rest
    → e ≢ errors.Memory → RefusesRequestHead bytes e → ⊥
found_request bytes head rest errors.Head h other k =
    k (drop 16384 bytes) head rest
    (subst (λ (l : List ℕ). BeginsRequest l head rest) (sym (take-append-drop 16384 bytes)) h.begins)
found_request bytes head rest errors.HeadTooLong h other k =
    let w = front_within 16384 bytes (print_request head) rest h.begins.reads.1 h.short in
    k.1.lacks head w.0 (record { reads = (h.begins.reads.0, w.1); lines = h.begins.lines })
found_request bytes head rest errors.Memory h other k = other refl
found_request bytes head rest e h other k = k

open_request_never : (bytes : List ℕ) → ¬ (EndsInTarget bytes × IsNoRequest bytes) → IsOpenRequest bytes → IsNoRequest bytes → ⊥
open_request_never bytes target h k = elim h.can_be [ inl w ↦ k w.0 w.1 [] w.2 | inr w ↦ target (w, k) ]

awaited_request : (bytes : List ℕ) (e : FrameError) → ¬ (EndsInWrongTarget bytes) → AwaitsRequest bytes
    → e ≢ errors.Memory → RefusesRequestHead bytes e → ⊥
awaited_request bytes errors.Head target h other k =
    open_request_never (take 16384 bytes) target
    (subst IsOpenRequest (sym (take_all 16384 bytes (omega (arith, h.short)))) h.is_open) k
awaited_request bytes errors.HeadTooLong target h other k = omega (arith, h.short, k.0)
awaited_request bytes errors.Memory target h other k = other refl
awaited_request bytes e target h other k = k

refused_request : (bytes : List ℕ) (e f : FrameError) → ¬ (EndsInWrongTarget bytes) → e ≢ errors.Memory → RefusesRequestHead bytes e
    → f ≢ errors.Memory → RefusesRequestHead bytes f → e ≡ f
refused_request bytes errors.Head errors.Head target a h b k = refl
refused_request bytes errors.HeadTooLong errors.HeadTooLong target a h b k = refl
refused_request bytes errors.Head errors.HeadTooLong target a h b k = absurd (open_request_never (take 16384 bytes) target k.1 h)
refused_request bytes errors.HeadTooLong errors.Head target a h b k = absurd (open_request_never (take 16384 bytes) target h.1 k)
refused_request bytes errors.Memory f target a h b k = absurd (a refl)
refused_request bytes e errors.Memory target a h b k = absurd (b refl)
refused_request bytes errors.Head f target a h b k = absurd k
refused_request bytes errors.HeadTooLong f target a h b k = absurd k
refused_request bytes e f target a h b k = absurd h

pub one_request_head : (bytes : List ℕ) (x y : FoundRequest) → ¬ (EndsInWrongTarget bytes) → RequestHeadIs bytes x
    → RequestHeadIs bytes y → x ≡ y
one_request_head bytes (Ok (Some a)) (Ok (Some b)) target h k =
    let same = request_unique bytes a.0 b.0 a.1 b.1 h.begins.reads k.begins.reads in
    ap₂ (λ (head : RequestHead) (rest : List ℕ). Ok (Some (head, rest))) same.0 same.1
one_request_head bytes (Ok None) (Ok None) target h k = refl
one_request_head bytes (Err e) (Err f) target h k = ap (λ (g : FrameError). Err g) (refused_request bytes e f target h.0 h.1 k.0 k.1)
one_request_head bytes (Ok (Some a)) (Ok None) target h k = absurd (k.is_open.lacks a.0 a.1 h.begins)
one_request_head bytes (Ok None) (Ok (Some b)) target h k = absurd (h.is_open.lacks b.0 b.1 k.begins)
one_request_head bytes (Ok (Some a)) (Err f) target h k = absurd (found_request bytes a.0 a.1 f h k.0 k.1)
one_request_head bytes (Err e) (Ok (Some b)) target h k = absurd (found_request bytes b.0 b.1 e k h.0 h.1)
one_request_head bytes (Ok None) (Err f) target h k = absurd (awaited_request bytes f target h k.0 k.1)
one_request_head bytes (Err e) (Ok None) target h k = absurd (awaited_request bytes e target k h.0 h.1)

-- ---- answers

abbrev pub FoundAnswer : Type 0
FoundAnswer = Result (Option (ResponseHead × List ℕ)) FrameError

abbrev pub AnswerHeadIs : List ℕ → FoundAnswer → Type 0
AnswerHeadIs bytes (Ok (Some found)) = AnswerFront bytes found.0 found.1
AnswerHeadIs bytes (Ok None) = AwaitsAnswer bytes
AnswerHeadIs bytes (Err e) = (e ≢ errors.Memory) × RefusesAnswerHead bytes e

pub found_answer : (bytes : List ℕ) (head : ResponseHead) (rest : List ℕ) (e : FrameError) → AnswerFront bytes head rest
    → e ≢ errors.Memory → RefusesAnswerHead bytes e → ⊥
found_answer bytes head rest errors.Head h other k =
    k (drop 16384 bytes) head rest
    (subst (λ (l : List ℕ). BeginsAnswer l head rest) (sym (take-append-drop 16384 bytes)) h.begins)
found_answer bytes head rest errors.HeadTooLong h other k =
    let w = front_within 16384 bytes (print_response head) rest h.begins.reads.1 h.short in
    k.1.lacks head w.0 (record { reads = (h.begins.reads.0, w.1); lines = h.begins.lines })
found_answer bytes head rest errors.Memory h other k = other refl
found_answer bytes head rest e h other k = k

open_answer_never : (bytes : List ℕ) → IsOpenAnswer bytes → IsNoAnswer bytes → ⊥
open_answer_never bytes h k = k h.can_be.0 h.can_be.1 [] h.can_be.2

awaited_answer : (bytes : List ℕ) (e : FrameError) → AwaitsAnswer bytes → e ≢ errors.Memory → RefusesAnswerHead bytes e → ⊥
awaited_answer bytes errors.Head h other k =
    open_answer_never (take 16384 bytes)
    (subst IsOpenAnswer (sym (take_all 16384 bytes (omega (arith, h.short)))) h.is_open) k
awaited_answer bytes errors.HeadTooLong h other k = omega (arith, h.short, k.0)
awaited_answer bytes errors.Memory h other k = other refl
awaited_answer bytes e h other k = k

refused_answer : (bytes : List ℕ) (e f : FrameError) → e ≢ errors.Memory → RefusesAnswerHead bytes e
    → f ≢ errors.Memory → RefusesAnswerHead bytes f → e ≡ f
refused_answer bytes errors.Head errors.Head a h b k = refl
refused_answer bytes errors.HeadTooLong errors.HeadTooLong a h b k = refl
refused_answer bytes errors.Head errors.HeadTooLong a h b k = absurd (open_answer_never (take 16384 bytes) k.1 h)
refused_answer bytes errors.HeadTooLong errors.Head a h b k = absurd (open_answer_never (take 16384 bytes) h.1 k)
refused_answer bytes errors.Memory f a h b k = absurd (a refl)
refused_answer bytes e errors.Memory a h b k = absurd (b refl)
refused_answer bytes errors.Head f a h b k = absurd k
refused_answer bytes errors.HeadTooLong f a h b k = absurd k
refused_answer bytes e f a h b k = absurd h

pub one_answer_head : (bytes : List ℕ) (x y : FoundAnswer) → AnswerHeadIs bytes x → AnswerHeadIs bytes y → x ≡ y
one_answer_head bytes (Ok (Some a)) (Ok (Some b)) h k =
    let same = response_unique bytes a.0 b.0 a.1 b.1 h.begins.reads k.begins.reads in
    ap₂ (λ (head : ResponseHead) (rest : List ℕ). Ok (Some (head, rest))) same.0 same.1
one_answer_head bytes (Ok None) (Ok None) h k = refl
one_answer_head bytes (Err e) (Err f) h k = ap (λ (g : FrameError). Err g) (refused_answer bytes e f h.0 h.1 k.0 k.1)
one_answer_head bytes (Ok (Some a)) (Ok None) h k = absurd (k.is_open.lacks a.0 a.1 h.begins)
one_answer_head bytes (Ok None) (Ok (Some b)) h k = absurd (h.is_open.lacks b.0 b.1 k.begins)
one_answer_head bytes (Ok (Some a)) (Err f) h k = absurd (found_answer bytes a.0 a.1 f h k.0 k.1)
one_answer_head bytes (Err e) (Ok (Some b)) h k = absurd (found_answer bytes b.0 b.1 e k h.0 h.1)
one_answer_head bytes (Ok None) (Err f) h k = absurd (awaited_answer bytes f h k.0 k.1)
one_answer_head bytes (Err e) (Ok None) h k = absurd (awaited_answer bytes e k h.0 h.1)
