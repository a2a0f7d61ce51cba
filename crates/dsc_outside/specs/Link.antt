-- What a link shows of its exchanges.
use Rattle.std.specs.Prelude.{◌≡◌, ◌⊎◌, ◌<◌, ◌≤◌, ℕ, ◌+◌, List, [], ◌∷◌, ◌++◌, length, Option, Some, None, Result, Ok, Err, IsErrOf, ⊤}
use Rattle.std.specs.Io.{StartsWith}
use Rattle.dsc_outside.specs.declared.link.LinkError.{LinkError}
use Rattle.dsc_outside.specs.declared.link.LinkError.TheVariants as errors
use Rattle.dsc_outside.specs.declared.link.Peer.{Peer}
use Rattle.dsc_outside.specs.declared.link.TheConstants.{ANSWER_LIMIT}
use Rattle.dsc_outside.specs.declared.exchange.Exchange.{Exchange}
use Rattle.dsc_outside.specs.declared.exchange.ExchangeOutcome.{ExchangeOutcome}
use Rattle.dsc_outside.specs.declared.exchange.ExchangeOutcome.TheVariants.{Answered, Failed, TooLong}

-- an answer has fewer bytes
abbrev pub answer_limit : ℕ
answer_limit = ANSWER_LIMIT

-- the error is this outcome; `Memory` says nothing of it
abbrev pub IsFault : LinkError → ExchangeOutcome → Type 0
IsFault errors.Failed Failed = ⊤
IsFault errors.Failed (Answered bytes) = ⊥
IsFault errors.Failed TooLong = ⊥
IsFault errors.TooLong TooLong = ⊤
IsFault errors.TooLong (Answered bytes) = ⊥
IsFault errors.TooLong Failed = ⊥
IsFault errors.Memory outcome = ⊤

-- what the call answered, and appended, is this outcome
abbrev pub ComesTo : Result (Unit {0}) LinkError → List ℕ → List ℕ → ExchangeOutcome → Type 0
ComesTo (Ok done) old new (Answered bytes) = new ≡ old ++ bytes
ComesTo (Ok done) old new Failed = ⊥
ComesTo (Ok done) old new TooLong = ⊥
ComesTo (Err error) old new outcome = IsFault error outcome

-- where the exchanges are shown, the call adds its own at the end; out of memory, it adds at most its own. A link
-- that does not show them shows nothing afterwards either
abbrev pub AddsExchange : Option (List Exchange) → Option (List Exchange) → Peer → List ℕ → Result (Unit {0}) LinkError → List ℕ → List ℕ → Type 0
AddsExchange None after to request result old new = after ≡ None
AddsExchange (Some before) after to request result old new =
    ((outcome : ExchangeOutcome) × ComesTo result old new outcome × (after ≡ Some (before ++ record { peer = to; request = request; outcome = outcome } ∷ [])))
    ⊎ (IsErrOf result errors.Memory × (after ≡ Some before))

-- the buffer of an answer: its bytes stay, with the answer after them where there is one
abbrev pub LeavesAnswer : Result (Unit {0}) LinkError → List ℕ → List ℕ → Type 0
LeavesAnswer (Ok done) old new = StartsWith new old × (length new < length old + answer_limit)
LeavesAnswer (Err error) old new = new ≡ old

-- what a link shows: its exchanges, where it shows them, and how often it has failed
pub record LinkView : Type 0 where
  pub shown : Option (List Exchange)
  pub faults : ℕ

-- where the exchanges are shown, they are only added
abbrev pub AddsExchanges : Option (List Exchange) → Option (List Exchange) → Type 0
AddsExchanges None after = after ≡ None
AddsExchanges (Some before) after = (more : List Exchange) × (after ≡ Some (before ++ more))

-- so it is, and the count of faults never falls
pub record GoesOn (before after : LinkView) : Type 0 where
  pub shown : AddsExchanges before.shown after.shown
  pub later : before.faults ≤ after.faults
