-- The exits of the sending of reports.
use Rattle.std.proofs.Common.{◌≡◌, ◌≢◌, inl, ℕ, true, false, List, [], ◌∷◌, ◌++◌, Option, Some, None, Result, Ok, Err, sym, ap, subst, ◌∙◌, append-nil}
use Rattle.std.specs.Prelude.{IfErr, OnOk, option_map}
use Rattle.dsc_outside.specs.declared.disk.Disk.{Ghosts}
use Rattle.node_state.specs.declared.node.Node.{Node}
use Rattle.node_state.specs.declared.event.Event.TheVariants as events
use Rattle.node_state.specs.Table.{Step}
use Rattle.node_store.specs.declared.error.StoreError.{StoreError}
use Rattle.node_store.specs.declared.error.StoreError.TheVariants as errors
use Rattle.node_store.specs.Store.{IsKept, StoreTerm}
use Rattle.pull_client.specs.declared.error.PeerError.{PeerError}
use Rattle.pull_client.specs.declared.error.PeerError.TheVariants as peers
use Rattle.node_pull.specs.Reporting.{SendsReport}
use Rattle.dsc_outside.specs.Link.{LinkView}
use Rattle.dsc_node.specs.declared.sending.Attempt.TheVariants.{Accepted, NotAccepted, NoMemory}
use Rattle.dsc_node.specs.declared.status.Status.{Status}
use Rattle.dsc_node.specs.Endings.{Answers, Ends, status_of}
use Rattle.dsc_node.specs.Path.{Carries, CommitGoes, SendsOn}
use Rattle.dsc_node.specs.Sending.{EndsAfterSending, PrintsTried, ToSend, Tried, attempt_of, before_later, no_memory, not_accepted, not_sent, sent, to_send, tried_line, tried_text, unmarked, unprinted}
use Rattle.dsc_node.proofs.Commits.{ends_after, ends_as, ends_here, ends_on}
use Rattle.dsc_node.proofs.Sends.{prints_later}

-- ---- what is next

pub none_left : {T : Type 0} (f : T → ToSend) (node shown : Node) (found : Option T) → shown ≡ node → option_map f found ≡ to_send shown → found ≡ None → to_send node ≡ None
none_left f node shown found same is none = ap to_send (sym same) ∙ sym is ∙ ap (option_map f) none

pub one_left : {T : Type 0} (f : T → ToSend) (node shown : Node) (found : Option T) (next : T) → shown ≡ node → option_map f found ≡ to_send shown → found ≡ Some next → to_send node ≡ Some (f next)
one_left f node shown found next same is some = ap to_send (sym same) ∙ sym is ∙ ap (option_map f) some

-- ---- attempts

never_accepted : {A : Type 0} (error : PeerError) → Accepted ≡ not_accepted error → A
never_accepted peers.NotServed is = absurd (cc is)
never_accepted peers.Link is = absurd (cc is)
never_accepted peers.TooLong is = absurd (cc is)
never_accepted (peers.Frame error) is = absurd (cc is)
never_accepted (peers.Status code) is = absurd (cc is)
never_accepted (peers.Message error) is = absurd (cc is)
never_accepted (peers.Retry name) is = absurd (cc is)
never_accepted (peers.Uncovered name) is = absurd (cc is)
never_accepted peers.NoChecksum is = absurd (cc is)
never_accepted (peers.Mismatch announced found) is = absurd (cc is)
never_accepted peers.Memory is = absurd (cc is)

other_error : (error : PeerError) → NotAccepted ≡ not_accepted error → error ≢ peers.Memory
other_error error is memory = let same : NotAccepted ≡ NoMemory = subst (λ (e : PeerError). NotAccepted ≡ not_accepted e) memory is in cc same

module _ {D : Type 0} (d : Ghosts D) (store : StoreTerm) (asked : LinkView) (next : ToSend) (to : to_send store.node ≡ Some next) where
  abbrev pub Goes : {T : Type 0} → D → D → LinkView → Result T StoreError → List ℕ → List ℕ → Type 0
  Goes old now heard result before after = (x : Result (List Tried) StoreError) × PrintsTried x result before after × SendsOn d old now store asked heard x

  pub not_accepted_goes : {T : Type 0} (now : D) (heard : LinkView) → IsKept d now store → (answer : Result (Unit {0}) PeerError) → SendsReport next.server next.agent next.report asked heard answer
      → NotAccepted ≡ attempt_of answer → (result : Result T StoreError) (before after : List ℕ)
      → OnOk result (after ≡ before ++ tried_line (record { job = next.report.job; sent = false })) → IfErr result (λ error. error ≡ errors.Memory)
      → Goes now now heard result before after
  not_accepted_goes now heard kept (Ok done) sends is result before after printed memory = absurd (cc is)
  not_accepted_goes now heard kept (Err error) sends is (Ok v) before after printed memory = (
    Ok (record { job = next.report.job; sent = false } ∷ []),
    printed ∙ ap (λ (line : List ℕ). before ++ line) (sym (append-nil (tried_line (record { job = next.report.job; sent = false })))),
    ends_here d kept (λ from counts work. not_sent work store.node asked heard next error to sends (other_error error is)),
  )
  not_accepted_goes now heard kept (Err error) sends is (Err refused) before after printed memory = (
    Err errors.Memory,
    memory,
    ends_here d kept (λ from counts work. no_memory work store.node asked heard next error to sends),
  )

  pub no_memory_goes : (now : D) (heard : LinkView) → IsKept d now store → (answer : Result (Unit {0}) PeerError) → SendsReport next.server next.agent next.report asked heard answer
      → NoMemory ≡ attempt_of answer → SendsOn d now now store asked heard (Err errors.Memory)
  no_memory_goes now heard kept (Ok done) sends is = absurd (cc is)
  no_memory_goes now heard kept (Err error) sends is = ends_here d kept (λ from counts work. no_memory work store.node asked heard next error to sends)

  accepted_sends : (heard : LinkView) (answer : Result (Unit {0}) PeerError) → SendsReport next.server next.agent next.report asked heard answer → Accepted ≡ attempt_of answer
      → SendsReport next.server next.agent next.report asked heard (Ok tt)
  accepted_sends heard (Ok done) sends is = sends
  accepted_sends heard (Err error) sends is = never_accepted error is

  pub unmarked_goes : (old now : D) (heard : LinkView) (answer : Result (Unit {0}) PeerError) → SendsReport next.server next.agent next.report asked heard answer → Accepted ≡ attempt_of answer
      → (error : StoreError) (after : StoreTerm) → CommitGoes {T = Unit {0}} d old now store (events.Sent next.report.job) (Err error) after → SendsOn d old now store asked heard (Err error)
  unmarked_goes old now heard answer sends is error after goes = ends_as d goes (λ from counts work committed broken refused.
      unmarked work store.node asked heard next error committed broken to (accepted_sends heard answer sends is) refused)

  module _ (old now : D) (mid : LinkView) (answer : Result (Unit {0}) PeerError) (sends : SendsReport next.server next.agent next.report asked mid answer) (is : Accepted ≡ attempt_of answer)
      (after : StoreTerm) (carries : Carries d old now store after (events.Sent next.report.job ∷ [])) where
    pub is_marked : Step store.node (events.Sent next.report.job) after.node
    is_marked = subst (λ (n : Node). Step store.node (events.Sent next.report.job) n) (sym carries.steps.2) carries.steps.1

    pub unprinted_goes : IsKept d now after → SendsOn d old now store asked mid (Err errors.Memory)
    unprinted_goes kept = ends_after d carries kept (λ from counts work. unprinted work store.node after.node asked mid next to (accepted_sends mid answer sends is) is_marked)

    pub sent_goes : {T : Type 0} (end : D) (heard : LinkView) (result : Result T StoreError) (before line last : List ℕ) → line ≡ before ++ tried_line (record { job = next.report.job; sent = true })
        → (x : Result (List Tried) StoreError) × PrintsTried x result line last × SendsOn d now end after mid heard x
        → Goes old end heard result before last
    sent_goes end heard result before line last printed (x, prints, rest) = (
      before_later (record { job = next.report.job; sent = true }) x,
      prints_later (record { job = next.report.job; sent = true }) x result before line last printed prints,
      ends_on d carries rest (λ from counts work committed broken s.
          sent work store.node after.node asked mid heard next x committed broken to (accepted_sends mid answer sends is) is_marked s),
    )

-- ---- the end of a start after it

module _ (text end : List ℕ) (status : Status) (lines : List ℕ) where
  pub ended_ok : {T : Type 0} (wanted : Status) (tried : Result (List Tried) StoreError) (v : T) (before after : List ℕ) → before ≡ [] → PrintsTried tried (Ok v) before after
      → Answers wanted (text ++ end ++ after) status lines → EndsAfterSending wanted text end tried status lines
  ended_ok wanted (Ok some) v before after none prints answers =
      subst (λ (t : List ℕ). Answers wanted (text ++ end ++ t) status lines) (prints ∙ ap (λ (b : List ℕ). b ++ tried_text some) none) answers
  ended_ok wanted (Err error) v before after none prints answers = absurd prints

  pub ended_err : (T : Type 0) (wanted : Status) (tried : Result (List Tried) StoreError) (error : StoreError) (before after : List ℕ) → PrintsTried {T = T} tried (Err error) before after
      → EndsAfterSending wanted text end (Err error) status lines → EndsAfterSending wanted text end tried status lines
  ended_err T wanted (Ok some) error before after prints ends = absurd prints
  ended_err T wanted (Err other) error before after prints ends = subst (λ (e : StoreError). EndsAfterSending wanted text end (Err e) status lines) prints ends

-- an end that prints nothing
pub silent_ended : (wanted : Status) (end : List ℕ) (status : Status) (lines : List ℕ) (error : StoreError) → Ends (status_of error) [] status lines → EndsAfterSending wanted [] end (Err error) status lines
silent_ended wanted end status lines errors.Memory ends = ends
silent_ended wanted end status lines errors.Disk ends = inl ends
silent_ended wanted end status lines errors.Spent ends = inl ends
silent_ended wanted end status lines (errors.NotAStore at) ends = inl ends
silent_ended wanted end status lines (errors.NotAllowed why) ends = inl ends
