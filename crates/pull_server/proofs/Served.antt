-- What comes of a change that is to be kept, of the request that asked for it.
use Rattle.std.proofs.Common.{◌≡◌, ◌⊎◌, inl, inr, ℕ, ◌==◌, Bool, true, false, ◌&&◌, nat_le, nat_lt, is_none, if◌then◌else◌, length, List, [], Option, Some, None, Result, Ok, Err, IfOk, IsErr, refl, sym, ◌∙◌, ap, subst, arith}
use Rattle.std.proofs.lemmas.Bool.{eq-eqb, le-ltb}
use Rattle.std.proofs.lemmas.Option.{same_Some}
use Rattle.dsc_terms.specs.Counts.{Rose}
use Rattle.dsc_outside.specs.declared.disk.Disk.{Ghosts}
use Rattle.dsc_outside.proofs.Moments.{started, weaker}
use Rattle.gate_log.specs.Log.{capacity_in}
use Rattle.gate_log.specs.Standing.{StandsFor, StandsAtAnyMoment}
use Rattle.gate_log.specs.Text.{need_of}
use Rattle.mof_values.specs.declared.memory.Memory.{Memory}
use Rattle.http_frames.specs.declared.message.Request.{Request}
use Rattle.http_frames.specs.declared.message.Reply.{Reply}
use Rattle.pull_messages.specs.declared.registration.Registration.{Registration}
use Rattle.pull_messages.specs.declared.target_kinds.Target.{Target}
use Rattle.pull_messages.specs.declared.target_kinds.Target.TheVariants.{Node, SendReport}
use Rattle.pull_messages.specs.Targets.{IsTarget}
use Rattle.pull_store.specs.declared.row.Row.{Row}
use Rattle.pull_store.specs.declared.change.Change.{Change}
use Rattle.pull_store.specs.declared.change.Change.TheVariants.{Register, Report}
use Rattle.pull_store.specs.declared.change.Refusal.{Refusal}
use Rattle.pull_store.specs.declared.change.Refusal.TheVariants.{TooMany, Unknown}
use Rattle.pull_store.specs.Rows.{after, most_rows, row_of}
use Rattle.pull_store.specs.Bodies.{body_of}
use Rattle.pull_store.specs.Stands.{Stands}
use Rattle.pull_store.specs.Store.{StoreTerm, IsReady, WasTried, bank_capacity, is_spent, whole_need}
use Rattle.pull_store.proofs.Committed.{is_kept, kept_stands}
use Rattle.pull_outside.specs.Shelf.{Contents}
use Rattle.pull_server.specs.Answers.{IsAcknowledged, IsCrowded, IsMade, IsOverfull, LeavesRows, Pulled, Replies, by_table, Serves, is_done}
use Rattle.pull_server.specs.Answers.{failed as rose_failed}
use Rattle.pull_server.specs.Asked.{Asks, IsAim, Over, asked, change_to, is_full_for}
use Rattle.pull_server.specs.Judging.{Passes, change_asked, kept_outcome}
use Rattle.pull_server.specs.Keeping.{KeptBy, Keeps, MayKeep, made, was_spent, crowded, overfull, failed}
use Rattle.pull_server.specs.Replies.{plain}
use Rattle.pull_server.specs.Table.{makes, outcome_of, says}
use Rattle.pull_server.proofs.Judged.{never}
use Rattle.pull_server.proofs.Kept.{many_or_none}
use Rattle.pull_server.proofs.Shelves.{of_told, then_of}

code_of : Reply → ℕ
code_of reply = reply.code

undone : {X : Type 0} (reply : Reply) (code : ℕ) → reply ≡ plain code → is_done code ≡ false → is_done reply.code ≡ true → X
undone reply code is never_done done = never (is_done code) (sym (ap (λ (r : Reply). is_done r.code) is) ∙ done) never_done

-- a change that was made is answered by a code that says so
unlike : {X : Type 0} (other code : ℕ) (reply : Reply) → is_done code ≡ true → reply ≡ plain code → reply.code ≡ other → is_done other ≡ false → X
unlike other code reply done is same isnt = never (is_done other) (sym (ap is_done same) ∙ ap (λ (r : Reply). is_done r.code) is ∙ done) isnt

-- a reply has one code
differs : {X : Type 0} (code other : ℕ) (reply : Reply) → reply ≡ plain code → reply.code ≡ other → (code == other) ≡ false → X
differs code other reply is same isnt = never (code == other) (eq-eqb code other (sym (ap (λ (r : Reply). r.code) is) ∙ same)) isnt

no_fault : {X : Type 0} (reply : Reply) (code : ℕ) → reply ≡ plain code → (code == 500) ≡ false → reply.code ≡ 500 → X
no_fault reply code is other fault = never (code == 500) (eq-eqb code 500 (sym (ap (λ (r : Reply). r.code) is) ∙ fault)) other

-- ---- the store and the disk

module _ {D : Type 0} (d : Ghosts D) (request : Request) (old : StoreTerm) (before : D) (target : Target) (change : Change)
    (aim : IsTarget request.target target) (asks : change_to target request.body ≡ Some change) (only : (other : Change) → Asks request other → change ≡ other)
    (shelf : Option Contents) (made_by : WasTried old change → Over shelf (λ contents. IsMade (asked old contents request (Ok target)))) where
  leaves_rows : (rows : List Row) → MayKeep old change rows → LeavesRows old shelf request rows
  leaves_rows rows (inl same) = inl same
  leaves_rows rows (inr now) = inr (change, record { asks = record { target = target; aim = aim; is_change = asks }; made = made_by now.0 }, now.1)

  leaves_meanwhile : (now : D) → StandsAtAnyMoment d before now Stands (MayKeep old change) → StandsAtAnyMoment d before now Stands (LeavesRows old shelf request)
  leaves_meanwhile now run = weaker d.moment d.left_since before now _ (StandsFor Stands (LeavesRows old shelf request)) run
      (λ c s. record { value = s.value; stands = s.stands; has = leaves_rows s.value s.has })

  acknowledges : (code : ℕ) (rose : Type 0) (reply : Reply) (new : StoreTerm) (now : D) → IsReady d now new → KeptBy old change code rose reply new
      → is_done reply.code ≡ true → IsAcknowledged d request old now new
  acknowledges code rose reply new now ready (made tried is rows fresh) done = record {
    each = λ other is_asked.
        let rows_are = rows ∙ ap (λ (c : Change). after c old.rows) (only other is_asked) in
        let stand = kept_stands d now new (is_kept d now new ready fresh) in
        (rows_are, λ c here. let s = stand c here in record { value = s.value; stands = s.stands; has = s.has ∙ rows_are });
  }
  acknowledges code rose reply new now ready (was_spent spent is same) done = undone reply 500 is refl done
  acknowledges code rose reply new now ready (crowded unspent many is same) done = undone reply 503 is refl done
  acknowledges code rose reply new now ready (overfull unspent accepted full is same) done = undone reply 507 is refl done
  acknowledges code rose reply new now ready (failed unspent rises is rows) done = undone reply 500 is refl done

  leaves : (code : ℕ) (rose : Type 0) (reply : Reply) (new : StoreTerm) → is_done code ≡ true → KeptBy old change code rose reply new
      → is_done reply.code ≡ false → new.rows ≡ old.rows
  leaves code rose reply new done (made tried is rows fresh) undone = never (is_done code) done (sym (ap (λ (r : Reply). is_done r.code) is) ∙ undone)
  leaves code rose reply new done (was_spent spent is same) undone = ap (λ (s : StoreTerm). s.rows) same
  leaves code rose reply new done (crowded unspent many is same) undone = ap (λ (s : StoreTerm). s.rows) same
  leaves code rose reply new done (overfull unspent accepted full is same) undone = ap (λ (s : StoreTerm). s.rows) same
  leaves code rose reply new done (failed unspent rises is rows) undone = rows

  leaves_ok : (code : ℕ) (rose : Type 0) (result : Result Reply Memory) (new : StoreTerm) → is_done code ≡ true → IfOk result (λ reply. KeptBy old change code rose reply new)
      → IfOk result (λ reply. is_done reply.code ≡ false → new.rows ≡ old.rows)
  leaves_ok code rose (Ok reply) new done kept = leaves code rose reply new done kept
  leaves_ok code rose (Err e) new done kept = tt

  acknowledges_ok : (code : ℕ) (rose : Type 0) (result : Result Reply Memory) (new : StoreTerm) (now : D) → IsReady d now new → IfOk result (λ reply. KeptBy old change code rose reply new)
      → IfOk result (λ reply. is_done reply.code ≡ true → IsAcknowledged d request old now new)
  acknowledges_ok code rose (Ok reply) new now ready kept = acknowledges code rose reply new now ready kept
  acknowledges_ok code rose (Err e) new now ready kept = tt

  pub served : (code : ℕ) (result : Result Reply Memory) (new : StoreTerm) (now : D) → is_done code ≡ true → Keeps d old change code before result new now → Serves d request shelf old before result new now
  served code result new now done keeps = record {
    ready = keeps.ready;
    rows = leaves_rows new.rows keeps.rows;
    any_moment = λ kept. leaves_meanwhile now (keeps.any_moment kept);
    acknowledged = acknowledges_ok code (Rose (d.faults before) (d.faults now)) result new now keeps.ready keeps.reply;
    undone = leaves_ok code (Rose (d.faults before) (d.faults now)) result new done keeps.reply;
    spent = keeps.spent;
    count = keeps.count;
    refused = keeps.refused;
    rests = keeps.rests;
  }

-- where nothing is kept
pub unserved : {D : Type 0} (d : Ghosts D) (request : Request) (shelf : Option Contents) (store : StoreTerm) (disk : D) (reply : Reply)
    → ((c : List ℕ) → d.left_since disk (d.moment disk) c → d.images disk c) → IsReady d disk store → (is_done reply.code ≡ true → (change : Change) → Asks request change → ⊥)
    → Serves d request shelf store disk (Ok reply) store disk
unserved d request shelf store disk reply now ready none = record {
  ready = ready;
  rows = inl refl;
  any_moment = λ kept. started d.moment d.left_since disk (StandsFor Stands (LeavesRows store shelf request)) (λ c left.
      let s = kept_stands d disk store kept c (now c left) in
      record { value = s.value; stands = s.stands; has = inl s.has });
  acknowledged = λ done. record { each = λ change asks. absurd (none done change asks) };
  undone = λ undone. refl;
  spent = λ fresh over. never (is_spent store) over fresh;
  count = omega arith;
  refused = tt;
  rests = λ spent. record { store = refl; disk = refl };
}

pub unserved_err : {D : Type 0} (d : Ghosts D) (request : Request) (shelf : Option Contents) (store : StoreTerm) (disk : D) (e : Memory)
    → ((c : List ℕ) → d.left_since disk (d.moment disk) c → d.images disk c) → IsReady d disk store → Serves d request shelf store disk (Err e) store disk
unserved_err d request shelf store disk e now ready = record {
  ready = ready;
  rows = inl refl;
  any_moment = λ kept. started d.moment d.left_since disk (StandsFor Stands (LeavesRows store shelf request)) (λ c left.
      let s = kept_stands d disk store kept c (now c left) in
      record { value = s.value; stands = s.stands; has = inl s.has });
  acknowledged = tt;
  undone = tt;
  spent = λ fresh over. never (is_spent store) over fresh;
  count = omega arith;
  refused = record { store = refl; disk = refl };
  rests = λ spent. record { store = refl; disk = refl };
}

-- ---- the cause of 500

pub fault_cause : (store new : StoreTerm) (change : Change) (code : ℕ) (rose other : Type 0) (reply : Reply) → (code == 500) ≡ false → KeptBy store change code rose reply new
    → reply.code ≡ 500 → (rose ⊎ other) ⊎ (is_spent store ≡ true)
fault_cause store new change code rose other reply isnt (made tried is rows fresh) fault = no_fault reply code is isnt fault
fault_cause store new change code rose other reply isnt (was_spent spent is same) fault = inr spent
fault_cause store new change code rose other reply isnt (crowded unspent many is same) fault = no_fault reply 503 is refl fault
fault_cause store new change code rose other reply isnt (overfull unspent accepted full is same) fault = no_fault reply 507 is refl fault
fault_cause store new change code rose other reply isnt (failed unspent rises is rows) fault = inl (inl rises)

-- ---- the rows of the table

abbrev unknown_or_none : Bool → Option Refusal
unknown_or_none b = if b then Some Unknown else None

not_many : (b : Bool) → many_or_none b ≡ None → b ≡ false
not_many true is = absurd (cc is)
not_many false is = refl

is_many : (b : Bool) → many_or_none b ≡ Some TooMany → b ≡ true
is_many true is = refl
is_many false is = absurd (cc is)

never_many : (b : Bool) → unknown_or_none b ≡ Some TooMany → ⊥
never_many true is = cc is
never_many false is = cc is

-- a change that was accepted and fits is not refused as one that does not
fits : (store : StoreTerm) (change : Change) → WasTried store change → is_full_for store (Some change) ≡ false
fits store change tried = elim tried.capacity [
  | inl cell ↦ rw (le-ltb (capacity_in store.log) (need_of (body_of change)) cell) refl
  | inr bank ↦ both (nat_lt (capacity_in store.log) (need_of (body_of change))) (le-ltb bank_capacity (whole_need (after change store.rows)) bank)
]
  where
    both : (a : Bool) {b : Bool} → b ≡ false → (a && b) ≡ false
    both true is = is
    both false is = refl

-- the table makes a change that no row before refuses, and that was accepted and fits
module _ (store : StoreTerm) (contents : Contents) (request : Request) where
  makes_registration : (agent : ℕ) (r : Registration) → change_to (Node agent) request.body ≡ Some (Register agent r)
      → outcome_of (asked store contents request (Ok (Node agent))) ≡ kept_outcome (asked store contents request (Ok (Node agent)))
      → WasTried store (Register agent r) → outcome_of (asked store contents request (Ok (Node agent))) ≡ Some (makes (plain 204))
  unfolding kept_outcome asked
  makes_registration agent r asks passes tried =
      passes ∙ rw (tried.unspent, not_many (is_none (row_of agent store.rows) && nat_le most_rows (length store.rows)) tried.accepted, asks, fits store (Register agent r) tried) refl

  makes_report : (agent job : ℕ) (body : List ℕ) → change_to (SendReport agent) request.body ≡ Some (Report agent job body)
      → outcome_of (asked store contents request (Ok (SendReport agent))) ≡ kept_outcome (asked store contents request (Ok (SendReport agent)))
      → WasTried store (Report agent job body) → outcome_of (asked store contents request (Ok (SendReport agent))) ≡ Some (makes (plain 200))
  unfolding kept_outcome asked
  makes_report agent job body asks passes tried = passes ∙ rw (tried.unspent, asks, fits store (Report agent job body) tried) refl

rows_same : (old new : StoreTerm) → new ≡ old → new.rows ≡ old.rows
rows_same old new same = ap (λ (s : StoreTerm). s.rows) same

module _ (store new : StoreTerm) (shelf : Contents) (request : Request) (rose other : Type 0) (reply : Reply) where
  pub pulled_registration : (agent : ℕ) (r : Registration) → change_to (Node agent) request.body ≡ Some (Register agent r)
      → outcome_of (asked store shelf request (Ok (Node agent))) ≡ kept_outcome (asked store shelf request (Ok (Node agent)))
      → KeptBy store (Register agent r) 204 rose reply new → Pulled store shelf request (Ok (Node agent)) (rose ⊎ other) reply new.rows
  unfolding kept_outcome asked
  pulled_registration agent r asks passes (made tried is rows fresh) =
      by_table (makes (plain 204)) (makes_registration store shelf request agent r asks passes tried) is (rw asks rows)
  pulled_registration agent r asks passes (was_spent spent is same) = by_table (says 500 []) (passes ∙ rw spent refl) is (rows_same store new same)
  pulled_registration agent r asks passes (crowded unspent many is same) =
      by_table (says 503 []) (passes ∙ rw (unspent, is_many (is_none (row_of agent store.rows) && nat_le most_rows (length store.rows)) many) refl) is (rows_same store new same)
  pulled_registration agent r asks passes (overfull unspent accepted full is same) =
      by_table (says 507 []) (passes ∙ rw (unspent, not_many (is_none (row_of agent store.rows) && nat_le most_rows (length store.rows)) accepted, asks, full) refl) is (rows_same store new same)
  pulled_registration agent r asks passes (failed unspent rises is rows) = rose_failed (inl rises) is rows

  pub pulled_report : (agent job : ℕ) (body : List ℕ) → change_to (SendReport agent) request.body ≡ Some (Report agent job body)
      → outcome_of (asked store shelf request (Ok (SendReport agent))) ≡ kept_outcome (asked store shelf request (Ok (SendReport agent)))
      → KeptBy store (Report agent job body) 200 rose reply new → Pulled store shelf request (Ok (SendReport agent)) (rose ⊎ other) reply new.rows
  unfolding kept_outcome asked
  pulled_report agent job body asks passes (made tried is rows fresh) = by_table (makes (plain 200)) (makes_report store shelf request agent job body asks passes tried) is (rw asks rows)
  pulled_report agent job body asks passes (was_spent spent is same) = by_table (says 500 []) (passes ∙ rw spent refl) is (rows_same store new same)
  pulled_report agent job body asks passes (crowded unspent many is same) = absurd (never_many (is_none (row_of agent store.rows)) many)
  pulled_report agent job body asks passes (overfull unspent accepted full is same) = by_table (says 507 []) (passes ∙ rw (unspent, asks, full) refl) is (rows_same store new same)
  pulled_report agent job body asks passes (failed unspent rises is rows) = rose_failed (inl rises) is rows

-- another count may have risen too
pub wider : (store : StoreTerm) (shelf : Contents) (request : Request) (target : Result Target ℕ) (rose other : Type 0) (reply : Reply) (rows : List Row)
    → Pulled store shelf request target rose reply rows → Pulled store shelf request target (other ⊎ rose) reply rows
wider store shelf request target rose other reply rows (by_table outcome row is now) = by_table outcome row is now
wider store shelf request target rose other reply rows (rose_failed rises is now) = rose_failed (inr rises) is now

-- ---- an answer

module _ {D : Type 0} (d : Ghosts D) (request : Request) (old : StoreTerm) (before : D) (aim : Result Target ℕ) (target : Target) (change : Change) (same : aim ≡ Ok target)
    (is_aim : IsAim request.target aim) (asks : change_asked request aim ≡ Some change) (only : (other : Change) → Asks request other → change_asked request aim ≡ Some other) where
  pub target_is : IsTarget request.target target
  target_is = subst (λ (a : Result Target ℕ). IsAim request.target a) same is_aim

  pub asks_is : change_to target request.body ≡ Some change
  asks_is = subst (λ (a : Result Target ℕ). change_asked request a ≡ Some change) same asks

  pub kept_serves : (shelf : Option Contents) → (WasTried old change → Over shelf (λ contents. IsMade (asked old contents request (Ok target)))) → (code : ℕ) (result : Result Reply Memory) (new : StoreTerm) (now : D)
      → is_done code ≡ true → Keeps d old change code before result new now → Serves d request shelf old before result new now
  kept_serves shelf made_by code result new now done keeps =
      served d request old before target change target_is asks_is (λ other is. same_Some change other (sym asks ∙ only other is)) shelf made_by code result new now done keeps

  -- the causes of 503 and 507
  is_asked : Asks request change
  is_asked = record { target = target; aim = target_is; is_change = asks_is }

  pub crowds : (code : ℕ) (rose : Type 0) (reply : Reply) (new : StoreTerm) → is_done code ≡ true → KeptBy old change code rose reply new → reply.code ≡ 503 → IsCrowded old request
  crowds code rose reply new done (made tried is rows fresh) many = unlike 503 code reply done is many refl
  crowds code rose reply new done (was_spent spent is same) many = differs 500 503 reply is many refl
  crowds code rose reply new done (crowded unspent too_many is same) many = record { change = change; asks = is_asked; unspent = unspent; many = too_many }
  crowds code rose reply new done (overfull unspent accepted full is same) many = differs 507 503 reply is many refl
  crowds code rose reply new done (failed unspent rises is rows) many = differs 500 503 reply is many refl

  pub overfills : (code : ℕ) (rose : Type 0) (reply : Reply) (new : StoreTerm) → is_done code ≡ true → KeptBy old change code rose reply new → reply.code ≡ 507 → IsOverfull old request
  overfills code rose reply new done (made tried is rows fresh) over = unlike 507 code reply done is over refl
  overfills code rose reply new done (was_spent spent is same) over = differs 500 507 reply is over refl
  overfills code rose reply new done (crowded unspent too_many is same) over = differs 503 507 reply is over refl
  overfills code rose reply new done (overfull unspent accepted full is same) over = record { change = change; asks = is_asked; unspent = unspent; accepted = accepted; full = full }
  overfills code rose reply new done (failed unspent rises is rows) over = differs 500 507 reply is over refl

  pub crowds_ok : (code : ℕ) (rose : Type 0) (result : Result Reply Memory) (new : StoreTerm) → is_done code ≡ true → IfOk result (λ reply. KeptBy old change code rose reply new)
      → IfOk result (λ reply. reply.code ≡ 503 → IsCrowded old request)
  crowds_ok code rose (Ok reply) new done kept = crowds code rose reply new done kept
  crowds_ok code rose (Err e) new done kept = tt

  pub overfills_ok : (code : ℕ) (rose : Type 0) (result : Result Reply Memory) (new : StoreTerm) → is_done code ≡ true → IfOk result (λ reply. KeptBy old change code rose reply new)
      → IfOk result (λ reply. reply.code ≡ 507 → IsOverfull old request)
  overfills_ok code rose (Ok reply) new done kept = overfills code rose reply new done kept
  overfills_ok code rose (Err e) new done kept = tt

-- over what the shelf holds
module _ (store : StoreTerm) (request : Request) (holds : Option Contents) (aim : Result Target ℕ) where
  moved_on : (target : Target) → aim ≡ Ok target → Passes store holds request aim → (shelf : Contents) → holds ≡ Some shelf
      → outcome_of (asked store shelf request (Ok target)) ≡ kept_outcome (asked store shelf request (Ok target))
  moved_on target same passes shelf told = subst (λ (a : Result Target ℕ). outcome_of (asked store shelf request a) ≡ kept_outcome (asked store shelf request a)) same
      (of_told (λ contents. outcome_of (asked store contents request aim) ≡ kept_outcome (asked store contents request aim)) holds passes shelf told)

  made_of : (target : Target) → aim ≡ Ok target → Passes store holds request aim → ((contents : Contents)
      → outcome_of (asked store contents request (Ok target)) ≡ kept_outcome (asked store contents request (Ok target)) → IsMade (asked store contents request (Ok target)))
      → Over holds (λ contents. IsMade (asked store contents request (Ok target)))
  made_of target same passes made_by = then_of (λ contents. outcome_of (asked store contents request aim) ≡ kept_outcome (asked store contents request aim))
      (λ contents. IsMade (asked store contents request (Ok target))) holds passes
      (λ contents is. made_by contents (subst (λ (a : Result Target ℕ). outcome_of (asked store contents request a) ≡ kept_outcome (asked store contents request a)) same is))

  pub registration_made : (agent : ℕ) (r : Registration) → aim ≡ Ok (Node agent) → change_asked request aim ≡ Some (Register agent r) → Passes store holds request aim
      → WasTried store (Register agent r) → Over holds (λ contents. IsMade (asked store contents request (Ok (Node agent))))
  registration_made agent r same asks passes tried = made_of (Node agent) same passes (λ contents is.
      (plain 204, makes_registration store contents request agent r (subst (λ (a : Result Target ℕ). change_asked request a ≡ Some (Register agent r)) same asks) is tried))

  pub report_made : (agent job : ℕ) (body : List ℕ) → aim ≡ Ok (SendReport agent) → change_asked request aim ≡ Some (Report agent job body) → Passes store holds request aim
      → WasTried store (Report agent job body) → Over holds (λ contents. IsMade (asked store contents request (Ok (SendReport agent))))
  report_made agent job body same asks passes tried = made_of (SendReport agent) same passes (λ contents is.
      (plain 200, makes_report store contents request agent job body (subst (λ (a : Result Target ℕ). change_asked request a ≡ Some (Report agent job body)) same asks) is tried))

module _ (store new : StoreTerm) (request : Request) (holds : Option Contents) (rose other : Type 0) (aim : Result Target ℕ) (is_aim : IsAim request.target aim) where
  pub registration_replies : (agent : ℕ) (r : Registration) → aim ≡ Ok (Node agent) → change_asked request aim ≡ Some (Register agent r) → Passes store holds request aim
      → (result : Result Reply Memory) → IfOk result (λ reply. KeptBy store (Register agent r) 204 rose reply new)
      → IfOk result (λ reply. (shelf : Contents) → holds ≡ Some shelf → Replies store shelf request (rose ⊎ other) reply new.rows)
  registration_replies agent r same asks passes (Ok reply) kept = λ shelf told. record {
    aim = Ok (Node agent);
    is_aim = subst (λ (a : Result Target ℕ). IsAim request.target a) same is_aim;
    pulled = pulled_registration store new shelf request rose other reply agent r (subst (λ (a : Result Target ℕ). change_asked request a ≡ Some (Register agent r)) same asks)
        (moved_on store request holds aim (Node agent) same passes shelf told) kept;
  }
  registration_replies agent r same asks passes (Err e) kept = tt

  pub report_replies : (agent job : ℕ) (body : List ℕ) → aim ≡ Ok (SendReport agent) → change_asked request aim ≡ Some (Report agent job body) → Passes store holds request aim
      → (result : Result Reply Memory) → IfOk result (λ reply. KeptBy store (Report agent job body) 200 rose reply new)
      → IfOk result (λ reply. (shelf : Contents) → holds ≡ Some shelf → Replies store shelf request (rose ⊎ other) reply new.rows)
  report_replies agent job body same asks passes (Ok reply) kept = λ shelf told. record {
    aim = Ok (SendReport agent);
    is_aim = subst (λ (a : Result Target ℕ). IsAim request.target a) same is_aim;
    pulled = pulled_report store new shelf request rose other reply agent job body (subst (λ (a : Result Target ℕ). change_asked request a ≡ Some (Report agent job body)) same asks)
        (moved_on store request holds aim (SendReport agent) same passes shelf told) kept;
  }
  report_replies agent job body same asks passes (Err e) kept = tt

pub unserved_not_ok : {D : Type 0} (d : Ghosts D) (request : Request) (shelf : Option Contents) (store : StoreTerm) (disk : D) (result : Result Reply Memory) → IsErr result
    → ((c : List ℕ) → d.left_since disk (d.moment disk) c → d.images disk c) → IsReady d disk store → Serves d request shelf store disk result store disk
unserved_not_ok d request shelf store disk (Ok reply) isnt now ready = absurd (cc isnt)
unserved_not_ok d request shelf store disk (Err e) is now ready = unserved_err d request shelf store disk e now ready
