-- What is received of the bytes that were read so far.
use Rattle.std.proofs.Common.{◌≡◌, ◌≢◌, ℕ, ◌≤◌, List, [], ◌++◌, ◌⊎◌, inl, inr, Option, Some, None, Result, Ok, Err, IfSome, refl, sym, ◌∙◌, ap, append_assoc}
use Rattle.std.specs.Io.KnownBytes.{Consumes}
use Rattle.http_frames.specs.declared.frame_error.FrameError.{FrameError}
use Rattle.http_frames.specs.declared.frame_error.FrameError.TheVariants as frames
use Rattle.http_frames.specs.declared.message.Request.{Request}
use Rattle.http_frames.specs.Frames.{BeginsWithRequest, RefusesRequest}
use Rattle.pull_exchange.specs.declared.exchange.Received.TheVariants as received
use Rattle.pull_exchange.specs.Exchange.{IsReadCause, IsReceived, IsRefused, IsSized, received_of}

-- ---- the bytes so far

abbrev pub ok_of : {T : Type 0} → T → Result T FrameError
ok_of value = Ok value

abbrev pub err_of : {T : Type 0} → FrameError → Result T FrameError
err_of e = Err e

pub not_memory : {T P : Type 0} (value : T) → (ok_of value ≡ Err frames.Memory) ⊎ P → P
not_memory value (inl is) = absurd (cc is)
not_memory value (inr holds) = holds

error_in : {T : Type 0} → Result T FrameError → FrameError
error_in (Ok value) = frames.Head
error_in (Err e) = e

pub but_memory : {T P : Type 0} (e : FrameError) → e ≢ frames.Memory → (err_of {T = T} e ≡ Err frames.Memory) ⊎ P → P
unfolding error_in
but_memory e other (inl is) = absurd (other (ap error_in is))
but_memory e other (inr holds) = holds

pub consumes_on : (old mid new : Option (List ℕ)) (front piece all : List ℕ) → Consumes old mid front → Consumes mid new piece → all ≡ front ++ piece → Consumes old new all
consumes_on None mid new front piece all first second is = tt
consumes_on (Some xs) None new front piece all first second is = absurd first
consumes_on (Some xs) (Some ys) None front piece all first second is = second
consumes_on (Some xs) (Some ys) (Some zs) front piece all first second is =
    first ∙ ap (λ (l : List ℕ). front ++ l) second ∙ sym (append_assoc front piece zs) ∙ ap (λ (l : List ℕ). l ++ zs) (sym is)

-- ---- what is received

pub request_received : (old new : Option (List ℕ)) (front : List ℕ) (request : Request) → Consumes old new front → BeginsWithRequest front request
    → IfSome old (λ all. IsReceived all (received.Request request))
request_received None new front request read begins = tt
request_received (Some all) None front request read begins = absurd read
request_received (Some all) (Some more) front request read begins =
    (begins.0, begins.1 ++ more, read ∙ ap (λ (l : List ℕ). l ++ more) begins.2 ∙ append_assoc begins.0 begins.1 more, begins.3)

refused_in : (all front more : List ℕ) (e : FrameError) → all ≡ front ++ more → RefusesRequest front e → IsRefused all e
refused_in all front more e split refuses = (front, more, split, refuses)

received_in : (all front more : List ℕ) (e : FrameError) → (e ≢ frames.Memory → all ≡ front ++ more) → (e ≢ frames.Memory → RefusesRequest front e) → IsReceived all (received_of e)
received_in all front more frames.Memory split refuses = tt
received_in all front more frames.Head split refuses = let other : frames.Head ≢ frames.Memory = λ is. cc is in refused_in all front more frames.Head (split other) (refuses other)
received_in all front more frames.HeadTooLong split refuses = let other : frames.HeadTooLong ≢ frames.Memory = λ is. cc is in refused_in all front more frames.HeadTooLong (split other) (refuses other)
received_in all front more frames.Coding split refuses = let other : frames.Coding ≢ frames.Memory = λ is. cc is in refused_in all front more frames.Coding (split other) (refuses other)
received_in all front more frames.Length split refuses = let other : frames.Length ≢ frames.Memory = λ is. cc is in refused_in all front more frames.Length (split other) (refuses other)
received_in all front more frames.NoLength split refuses = let other : frames.NoLength ≢ frames.Memory = λ is. cc is in refused_in all front more frames.NoLength (split other) (refuses other)
received_in all front more frames.BodyTooLong split refuses = let other : frames.BodyTooLong ≢ frames.Memory = λ is. cc is in refused_in all front more frames.BodyTooLong (split other) (refuses other)
received_in all front more (frames.Chunk at) split refuses = let other : frames.Chunk at ≢ frames.Memory = λ is. cc is in refused_in all front more (frames.Chunk at) (split other) (refuses other)
received_in all front more (frames.Torn at) split refuses = let other : frames.Torn at ≢ frames.Memory = λ is. cc is in refused_in all front more (frames.Torn at) (split other) (refuses other)

no_rest : (all front : List ℕ) (e : FrameError) → (e ≢ frames.Memory → ⊥) → IsReceived all (received_of e)
no_rest all front frames.Memory never = tt
no_rest all front frames.Head never = absurd (never (λ is. cc is))
no_rest all front frames.HeadTooLong never = absurd (never (λ is. cc is))
no_rest all front frames.Coding never = absurd (never (λ is. cc is))
no_rest all front frames.Length never = absurd (never (λ is. cc is))
no_rest all front frames.NoLength never = absurd (never (λ is. cc is))
no_rest all front frames.BodyTooLong never = absurd (never (λ is. cc is))
no_rest all front (frames.Chunk at) never = absurd (never (λ is. cc is))
no_rest all front (frames.Torn at) never = absurd (never (λ is. cc is))

pub error_received : (old new : Option (List ℕ)) (front : List ℕ) (e : FrameError) → (e ≢ frames.Memory → Consumes old new front) → (e ≢ frames.Memory → RefusesRequest front e)
    → IfSome old (λ all. IsReceived all (received_of e))
error_received None new front e read refuses = tt
error_received (Some all) None front e read refuses = no_rest all front e read
error_received (Some all) (Some more) front e read refuses = received_in all front more e read refuses

pub error_sized : (e : FrameError) → ((at : ℕ) → e ≢ frames.Torn at) → IsSized (received_of e)
error_sized frames.Memory whole = tt
error_sized frames.Head whole = tt
error_sized frames.HeadTooLong whole = tt
error_sized frames.Coding whole = tt
error_sized frames.Length whole = tt
error_sized frames.NoLength whole = tt
error_sized frames.BodyTooLong whole = tt
error_sized (frames.Chunk at) whole = tt
error_sized (frames.Torn at) whole = absurd (whole at refl)

pub error_cause : (before now : ℕ) (e : FrameError) → IsReadCause before now (received_of e)
error_cause before now frames.Memory = tt
error_cause before now frames.Head = tt
error_cause before now frames.HeadTooLong = tt
error_cause before now frames.Coding = tt
error_cause before now frames.Length = tt
error_cause before now frames.NoLength = tt
error_cause before now frames.BodyTooLong = tt
error_cause before now (frames.Chunk at) = tt
error_cause before now (frames.Torn at) = tt
