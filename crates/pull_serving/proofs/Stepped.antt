-- One turn, from what its calls answered.
use Rattle.std.proofs.Common.{◌≡◌, ℕ, List, Option, refl}
use Rattle.dsc_outside.specs.declared.disk.Disk.{Ghosts}
use Rattle.pull_outside.specs.Door.{GetsBack, HandedBack, Known, TakesFirst}
use Rattle.pull_outside.specs.Shelf.{Contents}
use Rattle.pull_store.specs.Store.{IsKept, IsReady, StoreTerm}
use Rattle.pull_store.proofs.Committed.{is_kept, kept_stands}
use Rattle.pull_serving.specs.declared.connection.ConnectionEnd.{ConnectionEnd}
use Rattle.pull_serving.specs.Parting.{parting_of}
use Rattle.pull_serving.specs.Turn.{Answering, IsServed, state}
use Rattle.pull_serving.specs.Turns.{IsStep}

pub stepped : {D : Type 0} (how : Answering) (d : Ghosts D) (old new : D) (shelf : Option Contents) (store store_after : StoreTerm) (shelf_faults shelf_faults_after : ℕ) (came went : Known) (end : ConnectionEnd)
    → IsKept d old store → IsReady d new store_after
    → IsServed how d old new shelf came went (state d old store shelf_faults) (state d new store_after shelf_faults_after) end
    → ((c : List ℕ) → d.left_since new (d.moment new) c → d.images new c)
    → (coming coming_after : Option (List Known)) (back back_after : Option (List HandedBack)) (out out_after : ℕ)
    → TakesFirst coming coming_after came → GetsBack back back_after (record { known = went; parting = parting_of end }) → out_after ≡ out
    → IsStep how d old new shelf (state d old store shelf_faults) (state d new store_after shelf_faults_after) (record { coming = coming; back = back; out = out })
    (record { coming = coming_after; back = back_after; out = out_after }) end
stepped how d old new shelf store store_after shelf_faults shelf_faults_after came went end kept ready served now coming coming_after back back_after out out_after took gave none_out = record {
  turn = record {
    came = came;
    went = went;
    received = served.received;
    before = state d old store shelf_faults;
    after = state d new store_after shelf_faults_after;
    end = end;
  };
  starts = refl;
  leaves = refl;
  ends = refl;
  fresh = kept.unspent;
  is_turn = served.turn;
  took = took;
  gave = gave;
  none_out = none_out;
  goes = record {
    is_state = refl;
    ready = ready;
    any_moment = served.any_moment kept;
    acknowledged = served.acknowledged;
    rests = served.rests;
  };
  ends_now = refl;
  stands = λ fresh c left. kept_stands d new store_after (is_kept d new store_after ready fresh) c (now c left);
}
