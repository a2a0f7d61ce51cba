-- One exchange of a link to a server, from what serving its connection did.
use Rattle.std.proofs.Common.{◌≡◌, ℕ, ◌≤◌, ◌<◌, List, [], ◌∷◌, ◌++◌, length, Some, Result, Ok, Err, IfOk, refl, ◌∙◌, subst}
use Rattle.dsc_outside.specs.declared.disk.Disk as disks
use Rattle.dsc_outside.specs.declared.exchange.Exchange.{Exchange}
use Rattle.dsc_outside.specs.declared.exchange.ExchangeOutcome.{ExchangeOutcome}
use Rattle.dsc_outside.specs.declared.exchange.ExchangeOutcome.TheVariants.{Answered, Failed, TooLong}
use Rattle.dsc_outside.specs.Link.{answer_limit}
use Rattle.mof_values.specs.declared.memory.Memory.{Memory}
use Rattle.pull_outside.specs.Door.{Known}
use Rattle.pull_outside.specs.declared.shelf.Shelf as shelves
use Rattle.pull_server.specs.Answers.{Replies}
use Rattle.pull_serving.specs.declared.connection.ConnectionEnd.{ConnectionEnd}
use Rattle.pull_serving.specs.ServerLink.{Becomes, Gives, IsOutcomeOf, ServerInMemory, TookAll, state_of}
use Rattle.pull_serving.specs.Turn.{IsServed, Turn}

-- what was taken of the connection, or it ran out of memory
gives_of : (t : Turn) (held : List ℕ) (taken : Result (List ℕ) Memory) (outcome : ExchangeOutcome) → IfOk taken (λ bytes. TookAll t.end t.went.faults × (bytes ≡ held)) → IsOutcomeOf taken outcome
    → Gives t held outcome
gives_of t held (Ok bytes) (Answered given) took is = (took.0, is.0 ∙ took.1, subst (λ (l : List ℕ). length l < answer_limit) took.1 is.1)
gives_of t held (Ok bytes) TooLong took long = (took.0, subst (λ (l : List ℕ). answer_limit ≤ length l) took.1 long)
gives_of t held (Ok bytes) Failed took is = tt
gives_of t held (Err e) (Answered given) took is = absurd is
gives_of t held (Err e) TooLong took is = absurd is
gives_of t held (Err e) Failed took is = tt

pub exchanged : {D F : Type 0} (d : disks.Ghosts D) (f : shelves.Ghosts F) (old new : ServerInMemory D F) (e : Exchange) (came went : Known) (held : List ℕ) (end : ConnectionEnd)
    (taken : Result (List ℕ) Memory)
    → IsServed Replies d old.disk new.disk (f.holds old.shelf) came went (state_of d f old) (state_of d f new) end
    → f.holds new.shelf ≡ f.holds old.shelf → f.faults old.shelf ≤ f.faults new.shelf → d.faults old.disk ≤ d.faults new.disk
    → new.exchanges ≡ old.exchanges ++ e ∷ [] → came.left ≡ Some e.request → came.held ≡ Some [] → went.held ≡ Some held
    → IfOk taken (λ bytes. TookAll end went.faults × (bytes ≡ held)) → IsOutcomeOf taken e.outcome
    → Becomes d f old new
exchanged d f old new e came went held end taken served holds shelf_later disk_later added left empty is_held took outcome =
    let t : Turn = record { came = came; went = went; received = served.received; before = state_of d f old; after = state_of d f new; end = end } in
    record {
      shelf = holds;
      more = e ∷ [];
      added = added;
      answers = (t, refl, served.turn, record { request = left; empty = empty; taken = held; held = is_held; gives = gives_of t held taken e.outcome took outcome }, refl);
      disk_count = disk_later;
      shelf_count = shelf_later;
      spent = λ fresh over. (served.turn.spent fresh over).0;
    }
