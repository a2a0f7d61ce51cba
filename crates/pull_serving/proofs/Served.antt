-- What serving a connection did, from what its calls answered.
use Rattle.std.proofs.Common.{◌≡◌, ◌⊎◌, inl, inr, ℕ, ◌≤◌, Bool, true, false, not, ◌&&◌, List, Option, Some, Result, Ok, Err, IsErr, IfSome, refl, sym, ◌∙◌, ap, subst, arith}
use Rattle.dsc_terms.specs.Counts.{Rose}
use Rattle.dsc_outside.specs.declared.disk.Disk.{Ghosts}
use Rattle.dsc_outside.proofs.Moments.{started}
use Rattle.gate_log.specs.Standing.{StandsAtAnyMoment, StandsFor}
use Rattle.mof_values.specs.declared.memory.Memory.{Memory}
use Rattle.http_frames.specs.declared.frame_error.FrameError.{FrameError}
use Rattle.http_frames.specs.declared.message.Request.{Request}
use Rattle.http_frames.specs.declared.message.Reply.{Reply}
use Rattle.pull_exchange.specs.declared.exchange.Received.{Received}
use Rattle.pull_exchange.specs.declared.exchange.Received.TheVariants as received
use Rattle.pull_exchange.specs.Exchange.{IsReceived, IsRefusal, refusal_of}
use Rattle.pull_outside.specs.Door.{Known}
use Rattle.pull_outside.specs.Shelf.{Contents}
use Rattle.pull_store.specs.Stands.{Stands}
use Rattle.pull_store.specs.Store.{IsKept, StoreTerm, Untouched, is_spent}
use Rattle.pull_store.proofs.Committed.{kept_stands}
use Rattle.pull_server.specs.Answers.{IsAcknowledged, IsCrowded, IsOverfull, Serves, is_done}
use Rattle.pull_serving.specs.declared.connection.ConnectionEnd.{ConnectionEnd}
use Rattle.pull_serving.specs.declared.connection.ConnectionEnd.TheVariants as ends
use Rattle.pull_serving.specs.Sent.{IsSentEnd}
use Rattle.pull_serving.specs.Turn.{Acknowledges, Answering, IsEnd, IsServed, MayLeave, State, Leaves, Rests, state}
use Rattle.pull_serving.proofs.Ends.{Broke, end_is, newly, newly_is, shows}
use Rattle.pull_serving.proofs.Pushed.{may_stay}

never : {X : Type 0} (b : Bool) → b ≡ true → b ≡ false → X
never b holds fails = absurd (cc (holds, fails))

module _ {D : Type 0} (how : Answering) (d : Ghosts D) (before : D) (shelf : Option Contents) (came went : Known) (store : StoreTerm) (shelf_faults : ℕ) where
  -- ---- a request

  module _ (now : D) (new : StoreTerm) (shelf_faults_after : ℕ) (request : Request) (heard : IfSome came.left (λ bytes. IsReceived bytes (received.Request request))) where
    abbrev old_state : State
    old_state = state d before store shelf_faults

    abbrev new_state : State
    new_state = state d now new shelf_faults_after

    acknowledges : (reply : Reply) (broken : Bool) (mid : ℕ) (end : ConnectionEnd) → IsSentEnd came.held went.held reply mid went.faults broken end
        → (is_done reply.code ≡ true → IsAcknowledged d request store now new) → Acknowledges d (received.Request request) store now new end
    acknowledges reply broken mid (ends.Answered code) sent known = λ done. known (ap is_done sent.1 ∙ done)
    acknowledges reply broken mid ends.DiskFault sent known = tt
    acknowledges reply broken mid (ends.Torn at) sent known = tt
    acknowledges reply broken mid ends.ReadFault sent known = tt
    acknowledges reply broken mid ends.WriteFault sent known = tt
    acknowledges reply broken mid ends.Memory sent known = tt

    pub served_request : (reply : Reply) (broken : Bool) (mid : ℕ) (end : ConnectionEnd) → came.faults ≤ mid → broken ≡ (not (is_spent store) && is_spent new) → Serves d request shelf store before (Ok reply) new now
        → ((contents : Contents) → shelf ≡ Some contents → how store contents request (Rose (d.faults before) (d.faults now) ⊎ Rose shelf_faults shelf_faults_after) reply new.rows)
        → (reply.code ≡ 500 → (Rose (d.faults before) (d.faults now) ⊎ Rose shelf_faults shelf_faults_after) ⊎ (is_spent store ≡ true))
        → (reply.code ≡ 503 → IsCrowded store request) → (reply.code ≡ 507 → IsOverfull store request)
        → IsSentEnd came.held went.held reply mid went.faults broken end → shelf_faults ≤ shelf_faults_after → came.faults ≤ went.faults
        → IsServed how d before now shelf came went old_state new_state end
    served_request reply broken mid end later is_broken serves replies cause crowded overfull sent shelf_later conn_later =
        let broke : broken ≡ true → Broke old_state new_state reply = λ is.
        let n = newly (is_spent store) (is_spent new) broken is_broken is in
        let rose = serves.spent n.0 n.1 in
        record { fresh = n.0; spent = n.1; rose = rose.0; is = rose.1 } in
        record {
          received = received.Request request;
          turn = record {
            heard = heard;
            rows = serves.rows;
            leaves = tt;
            end = end_is how shelf came went mid later old_state new_state (received.Request request) reply broken broke end (record {
              table = replies;
              cause = cause;
              crowded = crowded;
              overfull = overfull;
              done = λ done change asks. ((serves.acknowledged done).each change asks).0;
              undone = serves.undone;
            }) sent;
            spent = λ fresh over. (
              (serves.spent fresh over).0,
              shows how shelf came went mid later old_state new_state (received.Request request) reply broken broke end sent (newly_is (is_spent store) (is_spent new) broken is_broken fresh over),
            );
            disk_count = serves.count;
            shelf_count = shelf_later;
            connection_count = conn_later;
          };
          any_moment = serves.any_moment;
          acknowledged = acknowledges reply broken mid end sent serves.acknowledged;
          rests = serves.rests;
        }

    -- memory was refused for the reply
    pub served_without_memory : (result : Result Reply Memory) → IsErr result → Serves d request shelf store before result new now → went.held ≡ came.held
        → shelf_faults ≤ shelf_faults_after → came.faults ≤ went.faults → IsServed how d before now shelf came went old_state new_state ends.Memory
    served_without_memory (Ok reply) fails serves silent shelf_later conn_later = absurd (cc fails)
    served_without_memory (Err e) fails serves silent shelf_later conn_later = record {
      received = received.Request request;
      turn = record {
        heard = heard;
        rows = serves.rows;
        leaves = tt;
        end = (silent, inl serves.refused.store);
        spent = λ fresh over. ((serves.spent fresh over).0, inr refl);
        disk_count = serves.count;
        shelf_count = shelf_later;
        connection_count = conn_later;
      };
      any_moment = serves.any_moment;
      acknowledged = tt;
      rests = serves.rests;
    }

  -- ---- no request

  module _ (only_now : (c : List ℕ) → d.left_since before (d.moment before) c → d.images before c) where
    abbrev here : State
    here = state d before store shelf_faults

    stays : (r : Received) → IsKept d before store → StandsAtAnyMoment d before before Stands (MayLeave shelf r store)
    stays r kept = started d.moment d.left_since before (StandsFor Stands (MayLeave shelf r store)) (λ c left.
        let s = kept_stands d before store kept c (only_now c left) in
        record { value = s.value; stands = s.stands; has = subst (λ rows. MayLeave shelf r store rows) (sym s.has) (may_stay shelf r store) })

    same : (r : Received) → Leaves r here here
    same (received.Request request) = tt
    same (received.Refused e) = refl
    same (received.Torn at) = refl
    same received.ReadFault = refl
    same received.Memory = refl

    untouched : Untouched store store before before
    untouched = record { store = refl; disk = refl }

    resting : (r : Received) → Rests r store (Untouched store store before before)
    resting (received.Request request) = λ spent. untouched
    resting (received.Refused e) = untouched
    resting (received.Torn at) = untouched
    resting received.ReadFault = untouched
    resting received.Memory = untouched

    -- what was received is no request
    pub served_otherwise : (r : Received) (end : ConnectionEnd) → IfSome came.left (λ bytes. IsReceived bytes r)
        → IsEnd how shelf (record { came = came; went = went; received = r; before = here; after = here; end = end }) end → Acknowledges d r store before store end → came.faults ≤ went.faults
        → IsServed how d before before shelf came went here here end
    served_otherwise r end heard is acknowledged later = record {
      received = r;
      turn = record {
        heard = heard;
        rows = may_stay shelf r store;
        leaves = same r;
        end = is;
        spent = λ fresh over. never (is_spent store) over fresh;
        disk_count = omega arith;
        shelf_count = omega arith;
        connection_count = later;
      };
      any_moment = stays r;
      acknowledged = acknowledged;
      rests = resting r;
    }

    refused_end : (e : FrameError) (reply : Reply) (mid : ℕ) (end : ConnectionEnd) → came.faults ≤ mid → IsRefusal e → reply ≡ refusal_of e → IsSentEnd came.held went.held reply mid went.faults false end
        → IsEnd how shelf (record { came = came; went = went; received = received.Refused e; before = here; after = here; end = end }) end
    refused_end e reply mid end later fault is sent =
        end_is how shelf came went mid later here here (received.Refused e) reply false (λ x. absurd (cc x)) end (fault, is) sent

    quiet : (e : FrameError) (end : ConnectionEnd) → Acknowledges d (received.Refused e) store before store end
    quiet e end = tt

    -- what was received is no request, and was refused
    pub served_refused : (e : FrameError) (reply : Reply) (mid : ℕ) (end : ConnectionEnd) → IfSome came.left (λ bytes. IsReceived bytes (received.Refused e)) → came.faults ≤ mid → IsRefusal e → reply ≡ refusal_of e
        → IsSentEnd came.held went.held reply mid went.faults false end → came.faults ≤ went.faults → IsServed how d before before shelf came went here here end
    served_refused e reply mid end heard later fault is sent conn_later = served_otherwise (received.Refused e) end heard (refused_end e reply mid end later fault is sent) (quiet e end) conn_later
