-- A link in memory.
use Rattle.std.specs.Prelude.{◌≡◌, ◌⊎◌, ℕ, Bool, true, false, List, [], ◌∷◌, ◌++◌, nat_lt, length, drop, if◌then◌else◌, Some, Result, Ok, Err}
use Rattle.dsc_outside.specs.Link.{GoesOn, answer_limit}
use Rattle.memory_outside.specs.Memory.{CallCount, counted, is_to_fail, uncalled, with_fault}
use Rattle.dsc_outside.specs.declared.link.Peer.{Peer}
use Rattle.dsc_outside.specs.declared.link.LinkError.{LinkError}
use Rattle.dsc_outside.specs.declared.link.LinkError.TheVariants as errors
use Rattle.dsc_outside.specs.declared.exchange.Exchange.{Exchange}
use Rattle.dsc_outside.specs.declared.exchange.ExchangeOutcome.{ExchangeOutcome}
use Rattle.dsc_outside.specs.declared.exchange.ExchangeOutcome.TheVariants.{Answered, Failed, TooLong}

pub record LinkInMemory : Type 0 where
  -- the answers that are left, in order
  pub answers : List (List ℕ)
  -- the exchanges so far
  pub exchanges : List Exchange
  pub calls : CallCount

-- before the first request: a link of these answers
abbrev pub unasked : List (List ℕ) → List ℕ → LinkInMemory
unasked answers failing = record { answers = answers; exchanges = []; calls = uncalled failing }

-- an answer that is too long is none
abbrev pub answered : List ℕ → ExchangeOutcome
answered bytes = if nat_lt (length bytes) answer_limit then Answered bytes else TooLong

-- what the first of the answers is
abbrev pub first_outcome : List (List ℕ) → ExchangeOutcome
first_outcome [] = Failed
first_outcome (bytes ∷ answers) = answered bytes

-- what comes of the next request
abbrev pub next_outcome : LinkInMemory → ExchangeOutcome
next_outcome link = if is_to_fail link.calls then Failed else first_outcome link.answers

abbrev pub has_answer : List (List ℕ) → Bool
has_answer [] = false
has_answer (bytes ∷ answers) = true

-- after the next call, which failed where it was to fail, or where there was no answer
abbrev pub counted_with : Bool → CallCount → CallCount
counted_with has calls = if is_to_fail calls then counted calls else if has then counted calls else with_fault (counted calls)

abbrev pub next_exchange : LinkInMemory → Peer → List ℕ → Exchange
next_exchange link to request = record { peer = to; request = request; outcome = next_outcome link }

-- after the next request: the first answer is taken, also where the call failed
abbrev pub exchanged : LinkInMemory → Peer → List ℕ → LinkInMemory
exchanged link to request = record {
  answers = drop 1 link.answers;
  exchanges = link.exchanges ++ next_exchange link to request ∷ [];
  calls = counted_with (has_answer link.answers) link.calls;
}

abbrev pub result_of : ExchangeOutcome → Result (Unit {0}) LinkError
result_of (Answered bytes) = Ok tt
result_of Failed = Err errors.Failed
result_of TooLong = Err errors.TooLong

-- what was answered is appended
abbrev pub Appends : ExchangeOutcome → List ℕ → List ℕ → Type 0
Appends (Answered bytes) old new = new ≡ old ++ bytes
Appends Failed old new = new ≡ old
Appends TooLong old new = new ≡ old

-- what comes is given and shown; out of memory, nothing was done
abbrev pub Exchanges : LinkInMemory → Peer → List ℕ → Result (Unit {0}) LinkError → List ℕ → List ℕ → LinkInMemory → Type 0
Exchanges before to request result old new after =
    ((result ≡ result_of (next_outcome before)) × Appends (next_outcome before) old new × (after ≡ exchanged before to request))
    ⊎ ((result ≡ Err errors.Memory) × (new ≡ old) × (after ≡ before))

-- what the link may become: its exchanges are only added, and its count of faults does not fall
abbrev pub MayBecome : LinkInMemory → LinkInMemory → Type 0
MayBecome before after = GoesOn (record { shown = Some before.exchanges; faults = before.calls.faults })
    (record { shown = Some after.exchanges; faults = after.calls.faults })
