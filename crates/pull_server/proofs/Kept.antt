-- What came of a change that is to be kept, from what the store answered to it.
use Rattle.std.proofs.Common.{◌≡◌, ◌≢◌, ◌⊎◌, inl, inr, ℕ, ◌≤◌, ◌<◌, Bool, true, false, ◌&&◌, nat_le, is_none, if◌then◌else◌, length, List, Option, Some, None, Result, Ok, Err, IfOk, OnErr, refl, sym, ◌∙◌, ap, subst, arith}
use Rattle.std.proofs.lemmas.Bool.{lt-ltb}
use Rattle.dsc_terms.specs.Counts.{Rose}
use Rattle.dsc_outside.specs.declared.disk.Disk.{Ghosts}
use Rattle.dsc_outside.proofs.Moments.{started, weaker}
use Rattle.gate_log.specs.Log.{capacity_in}
use Rattle.gate_log.specs.Standing.{StandsAtAnyMoment, StandsFor}
use Rattle.gate_log.specs.Text.{need_of}
use Rattle.mof_values.specs.declared.memory.Memory.{Memory}
use Rattle.http_frames.specs.declared.message.Reply.{Reply}
use Rattle.pull_messages.specs.declared.registration.Registration.{Registration}
use Rattle.pull_store.specs.declared.row.Row.{Row}
use Rattle.pull_store.specs.declared.change.Change.{Change}
use Rattle.pull_store.specs.declared.change.Change.TheVariants.{Register}
use Rattle.pull_store.specs.declared.change.Refusal.{Refusal}
use Rattle.pull_store.specs.declared.change.Refusal.TheVariants.{TooMany, Unknown}
use Rattle.pull_store.specs.declared.error.PullError.{PullError}
use Rattle.pull_store.specs.declared.error.PullError.TheVariants as errors
use Rattle.pull_store.specs.Bodies.{body_of}
use Rattle.pull_store.specs.Rows.{after, most_rows, refusal, row_of}
use Rattle.pull_store.specs.Stands.{BeforeOrAfter, Stands}
use Rattle.pull_store.specs.Store.{Changed, IsFull, IsKept, IsReady, StoreTerm, Untouched, WasTried, bank_capacity, is_spent, whole_need}
use Rattle.pull_store.proofs.Committed.{kept_stands}
use Rattle.pull_server.specs.Asked.{is_full_for}
use Rattle.pull_server.specs.Keeping.{KeptBy, Keeps, MayKeep, Tells, made, was_spent, crowded, overfull, failed}
use Rattle.pull_server.specs.Replies.{plain}
use Rattle.pull_server.proofs.Judged.{never}

-- ---- the reply to a change

of_reply : (P : Reply → Type 0) (told : Result Reply Memory) (reply : Reply) → told ≡ Ok reply → P reply → IfOk told P
of_reply P told reply is holds = subst (λ (t : Result Reply Memory). IfOk t P) (sym is) holds

no_reply : (P : Reply → Type 0) (told : Result Reply Memory) → IfOk told (λ reply. ⊥) → IfOk told P
no_reply P (Ok reply) never = absurd never
no_reply P (Err e) never = tt

replied : (X : Type 0) (told : Result Reply Memory) (reply : Reply) → told ≡ Ok reply → OnErr told X
replied X told reply is = subst (λ (t : Result Reply Memory). OnErr t X) (sym is) tt

so_on_err : (X : Type 0) (told : Result Reply Memory) → X → OnErr told X
so_on_err X (Ok reply) x = tt
so_on_err X (Err e) x = x

is_full : (store : StoreTerm) (change : Change) (need capacity : ℕ) → IsFull store change need capacity → is_full_for store (Some change) ≡ true
is_full store change need capacity full =
    let rows : bank_capacity < whole_need (after change store.rows) = omega (arith, full.rows, full.bank, full.needs) in
    rw (lt-ltb (capacity_in store.log) (need_of (body_of change)) full.cell, lt-ltb bank_capacity (whole_need (after change store.rows)) rows) refl

-- a registration is never refused for lack of a row
abbrev pub many_or_none : Bool → Option Refusal
many_or_none b = if b then Some TooMany else None

has_a_place : (b : Bool) → many_or_none b ≡ Some Unknown → ⊥
has_a_place true is = cc is
has_a_place false is = cc is

pub known_registration : (agent : ℕ) (r : Registration) (rows : List Row) → refusal (Register agent r) rows ≢ Some Unknown
known_registration agent r rows = has_a_place (is_none (row_of agent rows) && nat_le most_rows (length rows))

-- ---- the store and the disk

module _ {D : Type 0} (d : Ghosts D) (old new : StoreTerm) (change : Change) (before now : D) where
  -- the change was accepted and fits, or nothing was touched
  tried : {T : Type 0} (result : Result T PullError) → Changed d old change before now result new → WasTried old change ⊎ Untouched old new before now
  tried (Ok v) is = inl is.0
  tried (Err errors.Disk) is = inl is.0
  tried (Err errors.Spent) is = inr is.1
  tried (Err errors.Agents) is = inr is.2
  tried (Err errors.NoAgent) is = inr is.2
  tried (Err (errors.Full need capacity)) is = inr is.3
  tried (Err errors.Memory) is = inr is.2
  tried (Err (errors.NotAStore at)) is = absurd is

  where_tried : WasTried old change → (rows : List Row) → BeforeOrAfter old.rows change rows → MayKeep old change rows
  where_tried t rows (inl same) = inl same
  where_tried t rows (inr is) = inr (t, is)

  keeps_meanwhile : WasTried old change ⊎ Untouched old new before now → ((c : List ℕ) → d.left_since before (d.moment before) c → d.images before c)
      → StandsAtAnyMoment d before now Stands (BeforeOrAfter old.rows change) → IsKept d before old → StandsAtAnyMoment d before now Stands (MayKeep old change)
  keeps_meanwhile (inl t) only_now run kept = weaker d.moment d.left_since before now (StandsFor Stands (BeforeOrAfter old.rows change)) (StandsFor Stands (MayKeep old change)) run
      (λ c s. record { value = s.value; stands = s.stands; has = where_tried t s.value s.has })
  keeps_meanwhile (inr u) only_now run kept = subst (λ x. StandsAtAnyMoment d before x Stands (MayKeep old change)) (sym u.disk)
      (started d.moment d.left_since before (StandsFor Stands (MayKeep old change)) (λ c left.
      let s = kept_stands d before old kept c (only_now c left) in
      record { value = s.value; stands = s.stands; has = inl s.has }))

  -- what a crash may leave
  may_keep : {T : Type 0} (result : Result T PullError) → Changed d old change before now result new → ((c : List ℕ) → d.left_since before (d.moment before) c → d.images before c)
      → StandsAtAnyMoment d before now Stands (BeforeOrAfter old.rows change) → IsKept d before old → StandsAtAnyMoment d before now Stands (MayKeep old change)
  may_keep result changed = keeps_meanwhile (tried result changed)

  unchanged : Untouched old new before now → MayKeep old change new.rows
  unchanged u = inl (ap (λ (s : StoreTerm). s.rows) u.store)

  -- the rows after it
  rows_after : {T : Type 0} (result : Result T PullError) → Changed d old change before now result new → MayKeep old change new.rows
  rows_after (Ok v) is = inr (is.0, is.1)
  rows_after (Err errors.Disk) is = inl is.2
  rows_after (Err errors.Spent) is = unchanged is.1
  rows_after (Err errors.Agents) is = unchanged is.2
  rows_after (Err errors.NoAgent) is = unchanged is.2
  rows_after (Err (errors.Full need capacity)) is = unchanged is.3
  rows_after (Err errors.Memory) is = unchanged is.2
  rows_after (Err (errors.NotAStore at)) is = absurd is

  still : Untouched old new before now → is_spent old ≡ false → is_spent new ≡ false
  still u unspent = ap (λ (s : StoreTerm). is_spent s) u.store ∙ unspent

  -- ---- the reply

  abbrev Faults : Type 0
  Faults = Rose (d.faults before) (d.faults now)

  reply_is : (code : ℕ) {T : Type 0} (result : Result T PullError) (told : Result Reply Memory) → refusal change old.rows ≢ Some Unknown → Changed d old change before now result new → Tells result code told
      → IfOk told (λ reply. KeptBy old change code Faults reply new)
  reply_is code (Ok v) told known is tells = of_reply (λ reply. KeptBy old change code Faults reply new) told (plain code) tells (made is.0 refl is.1 is.2)
  reply_is code (Err errors.Disk) told known is tells = of_reply (λ reply. KeptBy old change code Faults reply new) told (plain 500) tells (failed is.0.unspent is.1 refl is.2)
  reply_is code (Err errors.Spent) told known is tells = of_reply (λ reply. KeptBy old change code Faults reply new) told (plain 500) tells (was_spent is.0 refl is.1.store)
  reply_is code (Err errors.Agents) told known is tells = of_reply (λ reply. KeptBy old change code Faults reply new) told (plain 503) tells (crowded is.0 is.1 refl is.2.store)
  reply_is code (Err errors.NoAgent) told known is tells = absurd (known is.1)
  reply_is code (Err (errors.Full need capacity)) told known is tells =
      of_reply (λ reply. KeptBy old change code Faults reply new) told (plain 507) tells (overfull is.0 is.1 (is_full old change need capacity is.2) refl is.3.store)
  reply_is code (Err errors.Memory) told known is tells = no_reply (λ reply. KeptBy old change code Faults reply new) told tells
  reply_is code (Err (errors.NotAStore at)) told known is tells = absurd is

  spent_is : (code : ℕ) {T : Type 0} (result : Result T PullError) (told : Result Reply Memory) → Changed d old change before now result new → Tells result code told
      → is_spent old ≡ false → is_spent new ≡ true → Faults × IfOk told (λ reply. reply ≡ plain 500)
  spent_is code (Ok v) told is tells unspent over = never (is_spent new) over is.2
  spent_is code (Err errors.Disk) told is tells unspent over = (is.1, of_reply (λ reply. reply ≡ plain 500) told (plain 500) tells refl)
  spent_is code (Err errors.Spent) told is tells unspent over = never (is_spent old) is.0 unspent
  spent_is code (Err errors.Agents) told is tells unspent over = never (is_spent new) over (still is.2 unspent)
  spent_is code (Err errors.NoAgent) told is tells unspent over = never (is_spent new) over (still is.2 unspent)
  spent_is code (Err (errors.Full need capacity)) told is tells unspent over = never (is_spent new) over (still is.3 unspent)
  spent_is code (Err errors.Memory) told is tells unspent over = never (is_spent new) over (still is.2 unspent)
  spent_is code (Err (errors.NotAStore at)) told is tells unspent over = absurd is

  refused_is : (code : ℕ) {T : Type 0} (result : Result T PullError) (told : Result Reply Memory) → refusal change old.rows ≢ Some Unknown → Changed d old change before now result new → Tells result code told
      → OnErr told (Untouched old new before now)
  refused_is code (Ok v) told known is tells = replied (Untouched old new before now) told (plain code) tells
  refused_is code (Err errors.Disk) told known is tells = replied (Untouched old new before now) told (plain 500) tells
  refused_is code (Err errors.Spent) told known is tells = replied (Untouched old new before now) told (plain 500) tells
  refused_is code (Err errors.Agents) told known is tells = replied (Untouched old new before now) told (plain 503) tells
  refused_is code (Err errors.NoAgent) told known is tells = absurd (known is.1)
  refused_is code (Err (errors.Full need capacity)) told known is tells = replied (Untouched old new before now) told (plain 507) tells
  refused_is code (Err errors.Memory) told known is tells = so_on_err (Untouched old new before now) told is.2
  refused_is code (Err (errors.NotAStore at)) told known is tells = absurd is

  rests_is : {T : Type 0} (result : Result T PullError) → Changed d old change before now result new → is_spent old ≡ true → Untouched old new before now
  rests_is (Ok v) is over = never (is_spent old) over is.0.unspent
  rests_is (Err errors.Disk) is over = never (is_spent old) over is.0.unspent
  rests_is (Err errors.Spent) is over = is.1
  rests_is (Err errors.Agents) is over = is.2
  rests_is (Err errors.NoAgent) is over = is.2
  rests_is (Err (errors.Full need capacity)) is over = is.3
  rests_is (Err errors.Memory) is over = is.2
  rests_is (Err (errors.NotAStore at)) is over = absurd is

  -- all that came of the change
  pub keeps : (code : ℕ) {T : Type 0} (result : Result T PullError) (told : Result Reply Memory) → refusal change old.rows ≢ Some Unknown
      → ((c : List ℕ) → d.left_since before (d.moment before) c → d.images before c) → Changed d old change before now result new → IsReady d now new
      → (IsKept d before old → StandsAtAnyMoment d before now Stands (BeforeOrAfter old.rows change)) → d.faults before ≤ d.faults now → Tells result code told
      → Keeps d old change code before told new now
  keeps code result told known only_now is ready run later tells = record {
    ready = ready;
    reply = reply_is code result told known is tells;
    rows = rows_after result is;
    any_moment = λ kept. may_keep result is only_now (run kept) kept;
    spent = spent_is code result told is tells;
    count = later;
    refused = refused_is code result told known is tells;
    rests = rests_is result is;
  }
