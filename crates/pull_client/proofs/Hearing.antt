-- What is heard of an exchange.
use Rattle.std.proofs.Common.{◌≡◌, ◌≢◌, ◌⊎◌, inl, inr, ℕ, ◌≤◌, true, false, List, [], ◌∷◌, ◌++◌, Option, Some, None, Result, Ok, Err, IsErrOf, refl, sym, ap, subst, ◌∙◌, arith}
use Rattle.std.specs.Bool.{⊤}
use Rattle.std.proofs.lemmas.Bool.{false≢true}
use Rattle.dsc_terms.specs.Counts.{Rose}
use Rattle.dsc_outside.specs.Causes.{HasCauseOf}
use Rattle.dsc_outside.specs.Link.{AddsExchange, ComesTo, IsFault, LinkView}
use Rattle.dsc_outside.specs.declared.link.Peer.{Peer}
use Rattle.dsc_outside.specs.declared.link.LinkError.{LinkError}
use Rattle.dsc_outside.specs.declared.link.LinkError.TheVariants as errors
use Rattle.dsc_outside.specs.declared.exchange.Exchange.{Exchange}
use Rattle.dsc_outside.specs.declared.exchange.ExchangeOutcome.{ExchangeOutcome}
use Rattle.dsc_outside.specs.declared.exchange.ExchangeOutcome.TheVariants as outcomes
use Rattle.meta_config.specs.declared.server.Server.{Server}
use Rattle.http_frames.specs.declared.message.Reply.{Reply}
use Rattle.http_frames.specs.declared.frame_error.FrameError.{FrameError}
use Rattle.http_frames.specs.declared.frame_error.FrameError.TheVariants as frames
use Rattle.http_frames.specs.Frames.{NoAnswer}
use Rattle.pull_client.specs.declared.error.PeerError.{PeerError}
use Rattle.pull_client.specs.declared.error.PeerError.TheVariants.{NotServed, Link, TooLong, Frame, Memory}
use Rattle.pull_client.specs.Asks.{Asks, Exchanged}
use Rattle.pull_client.specs.Heard.{Heard, IsAnswered, IsReply, SaysOr, frame_fault, link_failed, too_long, no_answer, not_accepted, accepted, no_memory}

-- ---- the errors of a link

abbrev pub told_as : LinkError → PeerError
told_as errors.Failed = Link
told_as errors.TooLong = TooLong
told_as errors.Memory = Memory

answered_in : (bytes : List ℕ) (outcome : ExchangeOutcome) → ComesTo (Ok tt) [] bytes outcome → outcome ≡ outcomes.Answered bytes
answered_in bytes (outcomes.Answered more) is = ap outcomes.Answered (sym is)
answered_in bytes outcomes.Failed is = absurd is
answered_in bytes outcomes.TooLong is = absurd is

fault_heard : (error : LinkError) (outcome : ExchangeOutcome) → IsFault error outcome → Heard IsReply outcome (Err (told_as error))
fault_heard errors.Failed outcomes.Failed is = link_failed
fault_heard errors.Failed (outcomes.Answered bytes) is = absurd is
fault_heard errors.Failed outcomes.TooLong is = absurd is
fault_heard errors.TooLong outcomes.TooLong is = too_long
fault_heard errors.TooLong (outcomes.Answered bytes) is = absurd is
fault_heard errors.TooLong outcomes.Failed is = absurd is
fault_heard errors.Memory outcome is = no_memory outcome

-- ---- one exchange

abbrev pub Untroubled : Result (Unit {0}) LinkError → Type 0
Untroubled (Err errors.Memory) = ⊥
Untroubled r = ⊤

answered_at : (request bytes : List ℕ) (peer : Peer) (before : List Exchange) (after : Option (List Exchange)) (result : Result Reply PeerError)
    → AddsExchange (Some before) after peer request (Ok tt) [] bytes → Heard IsReply (outcomes.Answered bytes) result
    → Exchanged peer request IsReply before after result
answered_at request bytes peer before after result (inl (outcome, comes, now)) heard =
    inl (outcome, subst (λ (o : ExchangeOutcome). Heard IsReply o result) (sym (answered_in bytes outcome comes)) heard, now)
answered_at request bytes peer before after result (inr none) heard = absurd (subst Untroubled none.0 tt)

exchange_answered : (request bytes : List ℕ) (peer : Peer) (shown after : Option (List Exchange)) (result : Result Reply PeerError) (before : List Exchange)
    → shown ≡ Some before → AddsExchange shown after peer request (Ok tt) [] bytes → Heard IsReply (outcomes.Answered bytes) result
    → Exchanged peer request IsReply before after result
exchange_answered request bytes peer shown after result before is adds heard =
    answered_at request bytes peer before after result (subst (λ (t : Option (List Exchange)). AddsExchange t after peer request (Ok tt) [] bytes) is adds) heard

failed_at : (request a b : List ℕ) (peer : Peer) (before : List Exchange) (after : Option (List Exchange)) (error : LinkError)
    → AddsExchange (Some before) after peer request (Err error) a b → Exchanged peer request IsReply before after (Err (told_as error))
failed_at request a b peer before after error (inl (outcome, fault, now)) = inl (outcome, fault_heard error outcome fault, now)
failed_at request a b peer before after errors.Memory (inr none) = inr (refl, none.1)
failed_at request a b peer before after errors.Failed (inr none) = absurd (subst Untroubled none.0 tt)
failed_at request a b peer before after errors.TooLong (inr none) = absurd (subst Untroubled none.0 tt)

exchange_failed : (request a b : List ℕ) (peer : Peer) (shown after : Option (List Exchange)) (error : LinkError) (before : List Exchange)
    → shown ≡ Some before → AddsExchange shown after peer request (Err error) a b → Exchanged peer request IsReply before after (Err (told_as error))
exchange_failed request a b peer shown after error before is adds =
    failed_at request a b peer before after error (subst (λ (t : Option (List Exchange)). AddsExchange t after peer request (Err error) a b) is adds)

unshown_after : (request a b : List ℕ) (peer : Peer) (shown after : Option (List Exchange)) (r : Result (Unit {0}) LinkError)
    → AddsExchange shown after peer request r a b → shown ≡ None → after ≡ None
unshown_after request a b peer shown after r adds is = subst (λ (t : Option (List Exchange)). AddsExchange t after peer request r a b) is adds

-- ---- from the reply to the answer

abbrev pub reply_in : Reply → Result Reply PeerError → Reply
reply_in other (Ok reply) = reply
reply_in other (Err e) = other

same_reply : (a b : Reply) → ◌≡◌ {A = Result Reply PeerError} (Ok a) (Ok b) → b ≡ a
same_reply a b is = sym (ap (reply_in a) is)

abbrev pub Gives : Result Reply PeerError → Type 0
Gives (Ok reply) = ⊤
Gives (Err e) = ⊥

abbrev pub Fails : Result Reply PeerError → Type 0
Fails (Ok reply) = ⊥
Fails (Err e) = ⊤

abbrev pub Serves : {T : Type 0} → Result T PeerError → Type 0
Serves (Err Link) = ⊥
Serves r = ⊤

carry : {T : Type 0} {Says : Reply → Result T PeerError → Type 0} {reply : Reply} {result : Result T PeerError} (outcome : ExchangeOutcome)
    → Heard IsReply outcome (Ok reply) → Says reply result → Heard Says outcome result
carry {Says = Says} {reply = reply} {result = result} outcome (accepted bytes other given frame code is) says =
    accepted bytes other result frame code (subst (λ (r : Reply). Says r result) (sym (same_reply reply other is)) says)

raise : {T : Type 0} {Says : Reply → Result T PeerError → Type 0} {e : PeerError} (outcome : ExchangeOutcome)
    → Heard IsReply outcome (Err e) → Heard Says outcome (Err e)
raise outcome link_failed = link_failed
raise outcome too_long = too_long
raise outcome (no_answer bytes error refused) = no_answer bytes error refused
raise outcome (not_accepted bytes reply frame code) = not_accepted bytes reply frame code
raise outcome (accepted bytes reply given frame code is) = absurd (subst Fails is tt)
raise outcome (no_memory same) = no_memory same

never_memory : (reply : Reply) → ◌≡◌ {A = Result Reply PeerError} (Ok reply) (Err Memory) → ⊥
never_memory reply is = subst Gives is tt

not_served : {T : Type 0} {result : Result T PeerError} → IsAnswered result → result ≢ Err NotServed
not_served of is = subst IsAnswered is of

not_link : {T : Type 0} {result : Result T PeerError} → IsAnswered result → IsErrOf result Link → ⊥
not_link of is = subst IsAnswered is of

-- ---- the whole call

-- a server of https
pub asks_unserved : {T : Type 0} {Says : Reply → Result T PeerError → Type 0} {request : List ℕ} {view : LinkView} (server : Server)
    → server.https ≡ true → Asks server request Says view view (Err NotServed)
asks_unserved server is = record {
  unserved = λ _. (refl, refl);
  served = λ other. absurd (false≢true (sym other ∙ is));
  unshown = λ none. none;
  exchanged = λ other. absurd (false≢true (sym other ∙ is));
  later = omega arith;
  link = λ same. absurd (subst Serves same tt);
}

-- no memory for the request
pub asks_unsent : {T : Type 0} {Says : Reply → Result T PeerError → Type 0} {request : List ℕ} {view : LinkView} (server : Server)
    → server.https ≡ false → Asks server request Says view view (Err Memory)
asks_unsent {T} server is = record {
  unserved = λ other. absurd (false≢true (sym is ∙ other));
  served = λ _. not_served {T = T} {result = Err Memory} tt;
  unshown = λ none. none;
  exchanged = λ _ before now. inr (refl, now);
  later = omega arith;
  link = λ same. absurd (not_link {T = T} {result = Err Memory} tt same);
}

-- an exchange that was made
pub asks_of : {T : Type 0} {Says : Reply → Result T PeerError → Type 0} {request : List ℕ} {before after : LinkView} {result : Result T PeerError} (server : Server)
    → server.https ≡ false → result ≢ Err NotServed → (before.shown ≡ None → after.shown ≡ None)
    → ((exchanges : List Exchange) → before.shown ≡ Some exchanges → Exchanged server.peer request Says exchanges after.shown result)
    → before.faults ≤ after.faults → (IsErrOf result Link → Rose before.faults after.faults) → Asks server request Says before after result
asks_of server is served unshown exchanged later link = record {
  unserved = λ other. absurd (false≢true (sym is ∙ other));
  served = λ _. served;
  unshown = unshown;
  exchanged = λ _. exchanged;
  later = later;
  link = link;
}

-- an exchange that gave no reply
raised_of : {T : Type 0} {Says : Reply → Result T PeerError → Type 0} {request : List ℕ} {before after : LinkView} {e : PeerError} (server : Server)
    → server.https ≡ false → Asks server request IsReply before after (Err e) → Asks server request Says before after (Err e)
raised_of {T} {Says} {request} {before} {after} {e} server is asks =
    asks_of server is (λ same. asks.served is (again same)) asks.unshown all asks.later (λ same. asks.link (again same))
  where
    error_in : Result T PeerError → PeerError
    error_in (Ok value) = e
    error_in (Err x) = x

    again : {other : PeerError} → ◌≡◌ {A = Result T PeerError} (Err e) (Err other) → ◌≡◌ {A = Result Reply PeerError} (Err e) (Err other)
    again same = ap (λ (r : Result T PeerError). Err (error_in r)) same

    reply_error : Result Reply PeerError → PeerError
    reply_error (Ok value) = e
    reply_error (Err x) = x

    go : (exchanges : List Exchange) → Exchanged server.peer request IsReply exchanges after.shown (Err e) → Exchanged server.peer request Says exchanges after.shown (Err e)
    go exchanges (inl (outcome, heard, last)) = inl (outcome, raise outcome heard, last)
    go exchanges (inr (short, last)) = inr (ap (λ (x : Result Reply PeerError). Err (reply_error x)) short, last)

    all : (exchanges : List Exchange) → before.shown ≡ Some exchanges → Exchanged server.peer request Says exchanges after.shown (Err e)
    all exchanges now = go exchanges (asks.exchanged is exchanges now)

-- an exchange that gave a reply
carried_of : {T : Type 0} {Says : Reply → Result T PeerError → Type 0} {request : List ℕ} {before after : LinkView} {reply : Reply} {result : Result T PeerError} (server : Server)
    → server.https ≡ false → Asks server request IsReply before after (Ok reply) → SaysOr Says reply result → Asks server request Says before after result
carried_of {T} {Says} {request} {before} {after} {reply} {result} server is asks says =
    asks_of server is (not_served says.1) asks.unshown all asks.later (λ same. absurd (not_link says.1 same))
  where
    said : (outcome : ExchangeOutcome) → Heard IsReply outcome (Ok reply) → Says reply result ⊎ (result ≡ Err Memory) → Heard Says outcome result
    said outcome heard (inl so) = carry outcome heard so
    said outcome heard (inr short) = rw short (no_memory outcome)

    go : (exchanges : List Exchange) → Exchanged server.peer request IsReply exchanges after.shown (Ok reply) → Exchanged server.peer request Says exchanges after.shown result
    go exchanges (inl (outcome, heard, last)) = inl (outcome, said outcome heard says.0, last)
    go exchanges (inr (short, last)) = absurd (never_memory reply short)

    all : (exchanges : List Exchange) → before.shown ≡ Some exchanges → Exchanged server.peer request Says exchanges after.shown result
    all exchanges now = go exchanges (asks.exchanged is exchanges now)

-- the same of the request that was sent
pub asks_raised : {T : Type 0} {Says : Reply → Result T PeerError → Type 0} {request sent : List ℕ} {before after : LinkView} {e : PeerError} (server : Server)
    → server.https ≡ false → sent ≡ request → Asks server sent IsReply before after (Err e) → Asks server request Says before after (Err e)
asks_raised {T} {Says} {request} {sent} {before} {after} {e} server is same asks =
    raised_of server is (subst (λ (bytes : List ℕ). Asks server bytes IsReply before after (Err e)) same asks)

pub asks_carried : {T : Type 0} {Says : Reply → Result T PeerError → Type 0} {request sent : List ℕ} {before after : LinkView} {reply : Reply} {result : Result T PeerError} (server : Server)
    → server.https ≡ false → sent ≡ request → Asks server sent IsReply before after (Ok reply) → SaysOr Says reply result
    → Asks server request Says before after result
asks_carried {T} {Says} {request} {sent} {before} {after} {reply} {result} server is same asks says =
    carried_of server is (subst (λ (bytes : List ℕ). Asks server bytes IsReply before after (Ok reply)) same asks) says

-- ---- of what the link answered

told_served : (e : LinkError) → IsAnswered {T = Reply} (Err (told_as e)) ⊎ (e ≡ errors.Failed)
told_served errors.Failed = inr refl
told_served errors.TooLong = inl tt
told_served errors.Memory = inl tt

told_link : (faults rose : ℕ) (e : LinkError) → HasCauseOf {T = Unit {0}} errors.Failed faults rose (Err e)
    → ◌≡◌ {A = Result Reply PeerError} (Err (told_as e)) (Err Link) → Rose faults rose
told_link faults rose errors.Failed cause same = cause.failed refl
told_link faults rose errors.TooLong cause same = absurd (not_link {T = Reply} {result = Err TooLong} tt same)
told_link faults rose errors.Memory cause same = absurd (not_link {T = Reply} {result = Err Memory} tt same)

told_unserved : (e : LinkError) → ◌≢◌ {A = Result Reply PeerError} (Err (told_as e)) (Err NotServed)
told_unserved errors.Failed same = subst IsServed same tt
  where
    IsServed : Result Reply PeerError → Type 0
    IsServed (Err NotServed) = ⊥
    IsServed r = ⊤
told_unserved errors.TooLong same = not_served {T = Reply} {result = Err TooLong} tt same
told_unserved errors.Memory same = not_served {T = Reply} {result = Err Memory} tt same

-- an error of the link
pub asks_failed : (request a b : List ℕ) (before after : LinkView) (e : LinkError) (server : Server)
    → server.https ≡ false → AddsExchange before.shown after.shown server.peer request (Err e) a b
    → HasCauseOf {T = Unit {0}} errors.Failed before.faults after.faults (Err e)
    → Asks server request IsReply before after (Err (told_as e))
asks_failed request a b before after e server is adds cause =
    asks_of server is (told_unserved e) (unshown_after request a b server.peer before.shown after.shown (Err e) adds)
    (λ exchanges now. exchange_failed request a b server.peer before.shown after.shown e exchanges now adds) cause.later (told_link before.faults after.faults e cause)

-- an answer
pub asks_answered : (request bytes : List ℕ) (before after : LinkView) (result : Result Reply PeerError) (server : Server)
    → server.https ≡ false → AddsExchange before.shown after.shown server.peer request (Ok tt) [] bytes → before.faults ≤ after.faults
    → Heard IsReply (outcomes.Answered bytes) result → IsAnswered result → Asks server request IsReply before after result
asks_answered request bytes before after result server is adds later heard of =
    asks_of server is (not_served of) (unshown_after request [] bytes server.peer before.shown after.shown (Ok tt) adds)
    (λ exchanges now. exchange_answered request bytes server.peer before.shown after.shown result exchanges now adds heard) later (λ same. absurd (not_link of same))

-- an error of the answer's reader
abbrev pub Judges : FrameError → Type 0
Judges frames.Memory = ⊥
Judges e = ⊤

judged : (bytes : List ℕ) (e : FrameError) → Judges e → NoAnswer bytes e → Heard IsReply (outcomes.Answered bytes) (Err (Frame e))
judged bytes e judges (inl is) = absurd (subst Judges is judges)
judged bytes e judges (inr refused) = no_answer bytes e ((λ is. subst Judges is judges), refused)

pub refused_answer : (bytes : List ℕ) (e : FrameError) → NoAnswer bytes e → Heard IsReply (outcomes.Answered bytes) (Err (frame_fault e)) × IsAnswered {T = Reply} (Err (frame_fault e))
refused_answer bytes frames.Memory refused = (no_memory _, tt)
refused_answer bytes frames.Head refused = (judged bytes frames.Head tt refused, tt)
refused_answer bytes frames.HeadTooLong refused = (judged bytes frames.HeadTooLong tt refused, tt)
refused_answer bytes frames.Coding refused = (judged bytes frames.Coding tt refused, tt)
refused_answer bytes frames.Length refused = (judged bytes frames.Length tt refused, tt)
refused_answer bytes frames.NoLength refused = (judged bytes frames.NoLength tt refused, tt)
refused_answer bytes frames.BodyTooLong refused = (judged bytes frames.BodyTooLong tt refused, tt)
refused_answer bytes (frames.Chunk at) refused = (judged bytes (frames.Chunk at) tt refused, tt)
refused_answer bytes (frames.Torn at) refused = (judged bytes (frames.Torn at) tt refused, tt)
