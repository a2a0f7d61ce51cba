-- Bodies that are added after a Format, where there is one.
use Rattle.std.proofs.Common.{◌≡◌, ℕ, ◌+◌, ◌≤◌, Bool, true, false, List, [], ◌∷◌, ◌++◌, map, length, Result, Ok, Err, refl, sym, ap, ◌∙◌, arith, append_assoc, length-append}
use Rattle.std.specs.Prelude.{IsErr}
use Rattle.dsc_outside.specs.declared.disk.Disk.{Ghosts}
use Rattle.dsc_outside.proofs.Moments.{weaker}
use Rattle.gate_log.specs.declared.error.LogError.{LogError}
use Rattle.gate_log.specs.declared.error.LogError.TheVariants.{Disk, NotAStore, Memory}
use Rattle.gate_log.specs.Calls.{StaysInBank}
use Rattle.gate_log.specs.Log.{Appended, IsLogOf, LogTerm, capacity_in, grown}
use Rattle.gate_log.specs.Several.{AppendedAll, GivesFront, LeavesFront, grown_by}
use Rattle.gate_log.specs.Text.{after_gate, cells, need_of}
use Rattle.gate_log.proofs.Cells.{length-after_gate}
use Rattle.gate_log.proofs.OneByOne.{AddedSoFar}
use Rattle.node_state.specs.declared.event.Event.{Event}
use Rattle.node_store.specs.declared.blob.Blob.{Blob}
use Rattle.node_store.specs.Digests.{blob_body, format_body}
use Rattle.node_store.specs.Growing.{bodies_of_format, bytes_in, event_body}

-- the bodies of these Blobs, and of the event
abbrev pub left_bodies : List Blob → Event → List (List ℕ)
left_bodies blobs event = map blob_body (bytes_in blobs) ++ event_body event ∷ []

-- an error says the same, whatever was to be added
pub same_error : {T : Type 0} (old new : LogTerm) (one all : List (List ℕ)) (a b : ℕ) (r : Result T LogError) → IsErr r → AppendedAll old one a b r new → AppendedAll old all a b r new
same_error old new one all a b (Ok v) err answer = absurd (cc err)
same_error old new one all a b (Err Disk) err answer = answer
same_error old new one all a b (Err (NotAStore at)) err never = never
same_error old new one all a b (Err Memory) err never = never

-- the last body was appended
pub answered : {T : Type 0} (old mid new : LogTerm) (all : List (List ℕ)) (body : List ℕ) (a b c : ℕ) → a ≤ b → grown_by old all ≡ grown mid (need_of body) → (r : Result T LogError) → Appended mid body b c r new
    → AppendedAll old all a c r new
answered old mid new all body a b c le same (Ok v) is = is ∙ sym same
answered old mid new all body a b c le same (Err Disk) (rose, is) = (omega (arith, le, rose), ap (λ (l : LogTerm). l.spent) is)
answered old mid new all body a b c le same (Err (NotAStore at)) never = never
answered old mid new all body a b c le same (Err Memory) never = never

-- the first of fewer bodies are the first of more
pub fewer_moment : {D : Type 0} (d : Ghosts D) (before now : D) (log : LogTerm) (one left : List (List ℕ)) → LeavesFront d before now log one → LeavesFront d before now log (one ++ left)
fewer_moment d before now log one left leaves bodies of =
    weaker d.moment d.left_since before now _ (GivesFront log.shape bodies (one ++ left)) (leaves bodies of) (λ c given. record {
      front = given.front;
      rest = given.rest ++ left;
      is = ap (λ (l : List (List ℕ)). l ++ left) given.is ∙ append_assoc given.front given.rest left;
      gives = given.gives;
    })

pub format_long : (left : List (List ℕ)) → length (cells (format_body ∷ left)) ≡ 7 + length (cells left)
format_long left = omega (arith, length-append (after_gate format_body) (cells left), length-after_gate format_body)

module _ {D : Type 0} (d : Ghosts D) (before now : D) (old new : LogTerm) where
  pub after_format : (empty : Bool) (left : List (List ℕ)) → new ≡ grown_by old (bodies_of_format empty) → old.spent ≡ false → length (cells (bodies_of_format empty ++ left)) ≤ capacity_in old
      → ((bodies : List (List ℕ)) → IsLogOf d before old bodies → IsLogOf d now new (bodies ++ bodies_of_format empty)) → LeavesFront d before now old (bodies_of_format empty) → StaysInBank d before now old
      → d.faults before ≤ d.faults now → AddedSoFar d before now old new (bodies_of_format empty ++ left) left
  after_format true left is unspent fits of any bank count = record {
    added = format_body ∷ [];
    is = refl;
    log = ap (λ (l : LogTerm). grown_by l left) (sym is);
    shape = ap (λ (l : LogTerm). l.shape) is;
    second = ap (λ (l : LogTerm). l.second) is;
    unspent = ap (λ (l : LogTerm). l.spent) is;
    capacity = omega (arith, fits, format_long left, ap (λ (l : LogTerm). capacity_in l) is);
    of = of;
    any_moment = fewer_moment d before now old (format_body ∷ []) left any;
    same_bank = bank;
    count = count;
  }
  after_format false left is unspent fits of any bank count = record {
    added = [];
    is = refl;
    log = ap (λ (l : LogTerm). grown_by l left) (sym is);
    shape = ap (λ (l : LogTerm). l.shape) is;
    second = ap (λ (l : LogTerm). l.second) is;
    unspent = ap (λ (l : LogTerm). l.spent) is ∙ unspent;
    capacity = omega (arith, fits, ap (λ (l : LogTerm). capacity_in l) is);
    of = of;
    any_moment = fewer_moment d before now old [] left any;
    same_bank = bank;
    count = count;
  }
