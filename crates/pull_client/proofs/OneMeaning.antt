-- What comes of a request means one answer.
use Rattle.std.specs.Prelude.{nat_le, length}
use Rattle.std.proofs.Common.{◌≡◌, ◌≢◌, ◌⊎◌, inl, inr, ℕ, Bool, true, false, List, Some, Option, None, Result, Ok, Err, refl, sym, ap, subst, ◌∙◌}
use Rattle.serde_json.specs.Data.{Data}
use Rattle.dsc_outside.specs.declared.exchange.ExchangeOutcome.{ExchangeOutcome}
use Rattle.dsc_outside.specs.declared.exchange.ExchangeOutcome.TheVariants as outcomes
use Rattle.http_frames.specs.declared.message.Reply.{Reply}
use Rattle.http_frames.specs.declared.frame_error.FrameError.{FrameError}
use Rattle.http_frames.specs.OneAnswer.{OneReplyAnswer, ReplyAnswer}
use Rattle.partial_merge.specs.declared.part.Part.{Part}
use Rattle.report_log.specs.declared.report.PartMark.{PartMark}
use Rattle.pull_messages.specs.declared.error.MessageError.{MessageError}
use Rattle.pull_messages.specs.declared.error.MessageError.TheVariants as messages
use Rattle.pull_messages.specs.declared.action.ActionAnswer.{ActionAnswer}
use Rattle.pull_messages.specs.Bodies.{IsJson, ReadsBy, Says}
use Rattle.pull_messages.specs.Tables.{action_of}
use Rattle.pull_client.specs.declared.error.PeerError.{PeerError}
use Rattle.pull_client.specs.declared.error.PeerError.TheVariants.{Link, TooLong, Frame, Status, Memory}
use Rattle.pull_client.specs.Content.{GivesBody, GivesPart, IsPartOf, content_of}
use Rattle.pull_client.specs.Heard.{Heard, IsDone, is_accepted, link_failed, too_long, no_answer, not_accepted, accepted, no_memory}
use Rattle.pull_client.specs.Meaning.{MeansOne, OneMeaning, SamePart}
use Rattle.pull_client.specs.declared.limits.TheConstants.{MAX_ACTION_ANSWER}
use Rattle.pull_client.specs.Queries.{BodyTells, Tells, told_by}

-- ---- of an outcome

abbrev pub CodeMeans : {T : Type 0} → (Reply → Result T PeerError → Type 0) → Bool → Reply → Result T PeerError → Type 0
CodeMeans says true reply result = says reply result
CodeMeans says false reply result = result ≡ Err (Status reply.code)

abbrev pub FrameMeans : {T : Type 0} → (Reply → Result T PeerError → Type 0) → Result Reply FrameError → Result T PeerError → Type 0
FrameMeans says (Ok reply) result = CodeMeans says (is_accepted reply.code) reply result
FrameMeans says (Err e) result = result ≡ Err (Frame e)

abbrev pub Means : {T : Type 0} → (Reply → Result T PeerError → Type 0) → ExchangeOutcome → Result T PeerError → Type 0
Means says outcomes.Failed result = result ≡ Err Link
Means says outcomes.TooLong result = result ≡ Err TooLong
Means says (outcomes.Answered bytes) result = (frame : Result Reply FrameError) × ReplyAnswer bytes frame × FrameMeans says frame result

meant : {T : Type 0} {says : Reply → Result T PeerError → Type 0} (outcome : ExchangeOutcome) (result : Result T PeerError)
    → result ≢ Err Memory → Heard says outcome result → Means says outcome result
meant outcome result not link_failed = refl
meant outcome result not too_long = refl
meant outcome result not (no_answer bytes e refused) = (Err e, refused, refl)
meant {T} {says} outcome result not (not_accepted bytes reply frame code) =
    (Ok reply, frame, subst (λ (b : Bool). CodeMeans {T = T} says b reply (Err (Status reply.code))) (sym code) refl)
meant {T} {says} outcome result not (accepted bytes reply given frame code said) =
    (Ok reply, frame, subst (λ (b : Bool). CodeMeans says b reply given) (sym code) said)
meant outcome result not (no_memory other) = absurd (not refl)

-- ---- one answer

abbrev pub SaysOne : {T : Type 0} → (Reply → Result T PeerError → Type 0) → (Result T PeerError → Result T PeerError → Type 0) → Type 0
SaysOne {T} says Same = (reply : Reply) (a b : Result T PeerError) → a ≢ Err Memory → b ≢ Err Memory → says reply a → says reply b → Same a b

abbrev pub SameErrors : {T : Type 0} → (Result T PeerError → Result T PeerError → Type 0) → Type 0
SameErrors Same = (e : PeerError) → Same (Err e) (Err e)

both_errors : {T : Type 0} (Same : Result T PeerError → Result T PeerError → Type 0) (e : PeerError) (a b : Result T PeerError)
    → SameErrors Same → a ≡ Err e → b ≡ Err e → Same a b
both_errors {T} Same e a b same is also =
    subst (λ (x : Result T PeerError). Same x b) (sym is) (subst (λ (y : Result T PeerError). Same (Err e) y) (sym also) (same e))

one_code : {T : Type 0} (says : Reply → Result T PeerError → Type 0) (Same : Result T PeerError → Result T PeerError → Type 0)
    → SameErrors Same → SaysOne says Same → (code : Bool) (reply : Reply) (a b : Result T PeerError) → a ≢ Err Memory → b ≢ Err Memory
    → CodeMeans says code reply a → CodeMeans says code reply b → Same a b
one_code says Same same one true reply a b m n x y = one reply a b m n x y
one_code says Same same one false reply a b m n x y = both_errors Same (Status reply.code) a b same x y

one_frame : {T : Type 0} (says : Reply → Result T PeerError → Type 0) (Same : Result T PeerError → Result T PeerError → Type 0)
    → SameErrors Same → SaysOne says Same → (frame : Result Reply FrameError) (a b : Result T PeerError) → a ≢ Err Memory → b ≢ Err Memory
    → FrameMeans says frame a → FrameMeans says frame b → Same a b
one_frame says Same same one (Ok reply) a b m n x y = one_code says Same same one (is_accepted reply.code) reply a b m n x y
one_frame says Same same one (Err e) a b m n x y = both_errors Same (Frame e) a b same x y

one_of : {T : Type 0} (says : Reply → Result T PeerError → Type 0) (Same : Result T PeerError → Result T PeerError → Type 0)
    → OneReplyAnswer → SameErrors Same → SaysOne says Same → (outcome : ExchangeOutcome) (a b : Result T PeerError) → a ≢ Err Memory → b ≢ Err Memory
    → Means says outcome a → Means says outcome b → Same a b
one_of says Same frames same one outcomes.Failed a b m n x y = both_errors Same Link a b same x y
one_of says Same frames same one outcomes.TooLong a b m n x y = both_errors Same TooLong a b same x y
one_of says Same frames same one (outcomes.Answered bytes) a b m n x y =
    one_frame says Same same one x.0 a b m n x.2
    (subst (λ (frame : Result Reply FrameError). FrameMeans says frame b) (frames bytes y.0 x.0 y.1 x.1) y.2)

means_one : {T : Type 0} (says : Reply → Result T PeerError → Type 0) (Same : Result T PeerError → Result T PeerError → Type 0)
    → OneReplyAnswer → SameErrors Same → SaysOne says Same → MeansOne says Same
means_one says Same frames same one = λ outcome a b m n x y.
    one_of says Same frames same one outcome a b m n (meant outcome a m x) (meant outcome b n y)

-- ---- parts

one_part : (name : List ℕ) (content : Result (List ℕ) PeerError) (a b : Result Part PeerError)
    → IsPartOf name content a → IsPartOf name content b → SamePart a b
one_part name (Ok content) (Ok a) (Ok b) x y = (x.0 ∙ sym y.0, x.1 ∙ sym y.1)
one_part name (Ok content) (Ok a) (Err e) x y = absurd y
one_part name (Ok content) (Err e) b x y = absurd x
one_part name (Err e) a b x y = both_errors SamePart e a b (λ _. refl) x y

-- ---- messages

-- what is said of a body, or that it is no JSON value
abbrev pub Read : List ℕ → Result ActionAnswer MessageError → Type 0
Read body message = Says action_of body message ⊎ ((message ≡ Err messages.Json) × ((value : Data) → IsJson body value → ⊥))

read_of : (body : List ℕ) (message : Result ActionAnswer MessageError) → (message ≢ Err messages.Memory) → ReadsBy action_of body message → Read body message
read_of body (Ok answer) not reads = inl reads
read_of body (Err messages.Json) not reads = inr (refl, reads)
read_of body (Err (messages.Missing field)) not reads = inl reads
read_of body (Err (messages.Wrong field)) not reads = inl reads
read_of body (Err messages.Memory) not reads = absurd (not refl)

abbrev pub some_or : Data → Option Data → Data
some_or other (Some value) = value
some_or other None = other

same_value : (body : List ℕ) (a b : Data) → IsJson body a → IsJson body b → a ≡ b
same_value body a b x y = ap (some_or a) (sym x.1 ∙ y.1)

one_message : (body : List ℕ) (a b : Result ActionAnswer MessageError) → Read body a → Read body b → a ≡ b
one_message body a b (inl x) (inl y) = sym x.2 ∙ ap action_of (same_value body x.0 y.0 x.1 y.1) ∙ y.2
one_message body a b (inl x) (inr y) = absurd (y.1 x.0 x.1)
one_message body a b (inr x) (inl y) = absurd (x.1 y.0 y.1)
one_message body a b (inr x) (inr y) = x.0 ∙ sym y.0

not_memory : (held : List PartMark) (names : List (List ℕ)) (message : Result ActionAnswer MessageError) (result : Result (List Bool) PeerError)
    → result ≢ Err Memory → result ≡ told_by held names message → message ≢ Err messages.Memory
not_memory held names message result not is same = not (is ∙ ap (told_by held names) same)

one_body : (within : Bool) (held : List PartMark) (names : List (List ℕ)) (body : List ℕ) (a b : Result (List Bool) PeerError)
    → a ≢ Err Memory → b ≢ Err Memory → BodyTells within held names body a → BodyTells within held names body b → a ≡ b
one_body true held names body a b m n x y =
    x.2 ∙ ap (told_by held names) (one_message body x.0 y.0
    (read_of body x.0 (not_memory held names x.0 a m x.2) x.1)
    (read_of body y.0 (not_memory held names y.0 b n y.2) y.1)) ∙ sym y.2
one_body false held names body a b m n x y = x ∙ sym y

one_told : (held : List PartMark) (names : List (List ℕ)) → SaysOne (Tells held names) (λ a b. a ≡ b)
one_told held names = λ reply a b m n x y.
    one_body (nat_le (length reply.body) MAX_ACTION_ANSWER) held names reply.body a b m n x y

-- ---- all calls

pub one_meaning : OneReplyAnswer → OneMeaning
one_meaning frames = record {
  done = means_one IsDone (λ a b. a ≡ b) frames (λ _. refl) (λ reply a b m n x y. x ∙ sym y);
  part = λ name. means_one (GivesPart name) SamePart frames (λ _. refl) (λ reply a b m n x y. one_part name (content_of reply) a b x y);
  body = means_one GivesBody (λ a b. a ≡ b) frames (λ _. refl) (λ reply a b m n x y. x ∙ sym y);
  queried = λ held names. means_one (Tells held names) (λ a b. a ≡ b) frames (λ _. refl) (one_told held names);
}
