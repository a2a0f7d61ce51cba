-- What the head of a request can say of its body.
use Rattle.std.proofs.Common.{◌≡◌, ℕ, ◌<◌, ◌≤◌, arith, List, [], ◌∷◌, ◌++◌, length, map, refl, sym, ap, subst, append-nil, length-append, Bool, true, false, not, codes, inl, inr}
use Rattle.std.specs.Prelude.{◌≢◌, ⊤, Option, Some, None, Result, Ok, Err, IfOk, IfErr, IfSome, IfNone, if◌then◌else◌, nat_le}
use Rattle.std.specs.List.{find}
use Rattle.std.specs.Str.Parse.{digits_value}
use Rattle.httparse.specs.Grammar.{print_request}
use Rattle.http_frames.specs.declared.limits.Limits.{Limits}
use Rattle.http_frames.specs.declared.framing.Framing.{Framing}
use Rattle.http_frames.specs.declared.framing.Framing.TheVariants.{Sized, Chunked, ToEnd}
use Rattle.http_frames.specs.declared.frame_error.FrameError.{FrameError}
use Rattle.http_frames.specs.declared.frame_error.FrameError.TheVariants as errors
use Rattle.http_frames.specs.declared.message.Header.{Header}
use Rattle.http_frames.specs.declared.message.Request.{Request}
use Rattle.http_frames.specs.Limits.{request_limits}
use Rattle.http_frames.specs.Heads.{header_of}
use Rattle.http_frames.specs.Headers.{is_named, has_named}
use Rattle.http_frames.specs.Framing.{are_codings_known, are_lengths_sound, needs_length, length_framing, request_framing}
use Rattle.http_frames.specs.Chunks.{Chunked as InChunks, IsBodyWithin}
use Rattle.http_frames.specs.Frames.{IsBody, AwaitsBody, RefusesBody, IsRequestFrame, BeginsWithRequest, AwaitsRest, RefusesRequest}

-- by a length within the limit, or in chunks; or an error of the head
abbrev pub IsRequestFraming : Result Framing FrameError → Type 0
IsRequestFraming (Ok (Sized n)) = n ≤ request_limits.content
IsRequestFraming (Ok Chunked) = ⊤
IsRequestFraming (Ok ToEnd) = ⊥
IsRequestFraming (Err e) = ((at : ℕ) → e ≢ errors.Torn at) × (e ≢ errors.Memory)

sized_is : (t : Bool) (n : ℕ) → nat_le n request_limits.content ≡ t → IsRequestFraming (if t then Ok (Sized n) else Err errors.BodyTooLong)
sized_is true n e = grind (arith, e)
sized_is false n e = (λ at h. absurd (cc), λ h. absurd (cc))

by_tests : (c l h needs : Bool) (o : Option Header)
    → IsRequestFraming (if not c then Err errors.Coding else (if not l then Err errors.Length else (if h then Ok Chunked
    else length_framing request_limits.content (if needs then Err errors.NoLength else Ok (Sized 0)) o)))
by_tests false l h needs o = (λ at h. absurd (cc), λ h. absurd (cc))
by_tests true false h needs o = (λ at h. absurd (cc), λ h. absurd (cc))
by_tests true true true needs o = tt
by_tests true true false needs (Some header) = sized_is (nat_le (digits_value 10 header.value) request_limits.content) (digits_value 10 header.value) refl
by_tests true true false true None = (λ at h. absurd (cc), λ h. absurd (cc))
by_tests true true false false None = omega arith

pub request_framing_is : (method : List ℕ) (headers : List Header) → IsRequestFraming (request_framing method headers)
unfolding request_framing
request_framing_is method headers =
    by_tests (are_codings_known headers) (are_lengths_sound headers) (has_named (codes "transfer-encoding") headers)
    (needs_length method) (find (is_named (codes "content-length")) headers)

pub never_to_end : (method : List ℕ) (headers : List Header) → request_framing method headers ≡ Ok ToEnd → ⊥
never_to_end method headers e = subst IsRequestFraming e (request_framing_is method headers)

-- ---- how much is held

body_small : (framing : Framing) (bytes content : List ℕ) → IsRequestFraming (Ok framing) → IsBody request_limits framing bytes content
    → length content ≤ request_limits.content
body_small (Sized n) bytes content small is = omega (arith, small, is.0, ap length is.1)
body_small Chunked bytes content small is = omega (arith, is.content_fits)
body_small ToEnd bytes content small is = absurd small

framed_small : (bytes : List ℕ) (request : Request) → IsRequestFrame bytes request → length request.body ≤ request_limits.content
framed_small bytes request f =
    body_small f.framing f.body request.body
    (subst IsRequestFraming f.says (request_framing_is f.head.method (map header_of f.head.fields))) f.content

awaited_small : (framing : Framing) (bytes : List ℕ) → IsRequestFraming (Ok framing) → AwaitsBody request_limits framing bytes
    → length bytes < request_limits.chunked
awaited_small (Sized n) bytes small waits = omega (arith, small, waits)
awaited_small Chunked bytes small waits = goes_on waits.0.0 waits.0.1 waits.0.2
  where
    goes_on : (more content : List ℕ) → IsBodyWithin request_limits (bytes ++ more) content → length bytes < request_limits.chunked
    goes_on [] content within =
        absurd (waits.1 bytes [] content (sym (append-nil bytes)) (subst (λ (l : List ℕ). InChunks l content) (append-nil bytes) within.chunked))
    goes_on (b ∷ more) content within = omega (arith, within.length_fits, length-append bytes (b ∷ more))
awaited_small ToEnd bytes small waits = absurd waits

rest_small : (bytes : List ℕ) → AwaitsRest bytes → length bytes < 1064960
rest_small bytes waits = elim waits [
  | inl w ↦ omega (arith, w.short)
  | inr w ↦
      let small = awaited_small w.framing w.body (subst IsRequestFraming w.says (request_framing_is w.head.method (map header_of w.head.fields))) w.awaits in
      omega (arith, small, w.front.short, ap length w.front.begins.reads.1, length-append (print_request w.head) w.body)
]

-- ---- Torn is no refusal

body_not_torn : (limits : Limits) (front : ℕ) (framing : Framing) (bytes : List ℕ) (at : ℕ)
    → RefusesBody limits front framing bytes (errors.Torn at) → ⊥
body_not_torn limits front (Sized n) bytes at h = h
body_not_torn limits front Chunked bytes at h = h
body_not_torn limits front ToEnd bytes at h = absurd (let e = h.0 in cc)

not_torn : (bytes : List ℕ) (at : ℕ) → RefusesRequest bytes (errors.Torn at) → ⊥
not_torn bytes at refuses = elim refuses [
  | inl w ↦ w
  | inr u ↦ elim u [
    | inl w ↦ (subst IsRequestFraming w.says (request_framing_is w.head.method (map header_of w.head.fields))).0 at refl
    | inr w ↦ body_not_torn _ _ w.framing w.body at w.refuses
  ]
]

-- ---- by the result of a call

pub small_if : (bytes : List ℕ) (r : Result (Option Request) FrameError) → IfOk r (λ o. IfSome o (BeginsWithRequest bytes))
    → IfOk r (λ o. IfSome o (λ request. length request.body ≤ request_limits.content))
small_if bytes (Ok (Some request)) h = framed_small h.0 request h.3
small_if bytes (Ok None) h = tt
small_if bytes (Err e) h = tt

pub few_if : (bytes : List ℕ) (r : Result (Option Request) FrameError) → IfOk r (λ o. IfNone o (AwaitsRest bytes))
    → IfOk r (λ o. IfNone o (length bytes < 1064960))
few_if bytes (Ok (Some request)) h = tt
few_if bytes (Ok None) h = rest_small bytes h
few_if bytes (Err e) h = tt

pub not_torn_if : (bytes : List ℕ) (r : Result (Option Request) FrameError)
    → IfErr r (λ e. e ≢ errors.Memory → RefusesRequest bytes e) → IfErr r (λ e. (at : ℕ) → e ≢ errors.Torn at)
not_torn_if bytes (Ok o) h = tt
not_torn_if bytes (Err (errors.Torn n)) h = λ at e. not_torn bytes n (h (λ f. absurd (cc)))
not_torn_if bytes (Err e) h = λ at f. absurd (cc)
