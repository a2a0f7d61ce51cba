-- What an answer to a target of the fleet leaves and says.
use Rattle.std.proofs.Common.{◌≡◌, ◌⊎◌, inl, inr, ℕ, Bool, true, false, not, List, [], ◌∷◌, length, map, codes, Option, Some, None, Result, Ok, Err, IfOk, bytes_eq, refl, sym, ◌∙◌, ap}
use Rattle.std.proofs.lemmas.List.{length-map}
use Rattle.dsc_outside.specs.declared.disk.Disk.{Ghosts}
use Rattle.mof_values.specs.declared.memory.Memory.{Memory}
use Rattle.http_frames.specs.declared.message.Reply.{Reply}
use Rattle.http_frames.specs.declared.message.Request.{Request}
use Rattle.http_frames.specs.Headers.{all_named}
use Rattle.pull_messages.specs.declared.target_kinds.FleetTarget.{FleetTarget}
use Rattle.pull_messages.specs.declared.target_kinds.FleetTarget.TheVariants.{Report, Summary}
use Rattle.pull_messages.specs.declared.target_kinds.Target.{Target}
use Rattle.pull_messages.specs.Targets.{IsTarget}
use Rattle.pull_outside.specs.Shelf.{Contents}
use Rattle.pull_store.specs.declared.row.Row.{Row}
use Rattle.pull_store.specs.Store.{IsReady, StoreTerm}
use Rattle.pull_store.proofs.Building.{tells}
use Rattle.pull_server.specs.Answers.{Serves}
use Rattle.pull_server.specs.Own.{is_shared}
use Rattle.pull_server.specs.Replies.{message_reply}
use Rattle.pull_server.specs.Table.{is_known, is_version}
use Rattle.pull_server.proofs.Served.{unserved, unserved_err}
use Rattle.agent_class.specs.declared.class.Class.{Class}
use Rattle.fleet_view.specs.declared.member.Member.{Member}
use Rattle.agent_class.specs.Classes.{class_of_row}
use Rattle.fleet_view.specs.Counting.{counts_of, fleet_of, summary_text}
use Rattle.fleet_view.specs.FleetReplies.{fleet_reply, kept_body, told, told_of}
use Rattle.fleet_view.specs.Members.{classes_in, member_of, members_of}

-- ---- the numbers

classes_of : (rows : List Row) → classes_in (members_of rows) ≡ map class_of_row rows
classes_of [] = refl
classes_of (row ∷ rows) = ap (λ (l : List Class). class_of_row row ∷ l) (classes_of rows)

-- the numbers of members that are those of rows
pub counted : (members : List Member) (rows : List Row) → members ≡ members_of rows → counts_of (classes_in members) ≡ fleet_of rows
counted members rows is = ap (λ (l : List Member). counts_of (classes_in l)) is ∙ ap counts_of (classes_of rows)

pub summary_of : (members : List Member) (rows : List Row) → members ≡ members_of rows
    → summary_text (length members) (counts_of (classes_in members)) ≡ summary_text (length rows) (fleet_of rows)
summary_of members rows is =
    let size : length members ≡ length rows = ap length is ∙ length-map rows member_of in
    (λ i. summary_text (size i) (counted members rows is i))

-- ---- the code of a reply

kept_code : (body : Option (List ℕ)) → is_shared (told_of body).code ≡ false
unfolding message_reply
kept_code None = refl
kept_code (Some body) = refl

told_code : (target : FleetTarget) (rows : List Row) → is_shared (told target rows).code ≡ false
unfolding message_reply
told_code (Report agent job) rows = kept_code (kept_body agent job rows)
told_code Summary rows = refl

pub own_code : (target : FleetTarget) (request : Request) (rows : List Row) → is_shared (fleet_reply target request rows).code ≡ false
unfolding fleet_reply
own_code target request rows = elim (tells (not (is_known request.method))) [
  | inl unknown ↦ rw unknown refl
  | inr known ↦ elim (tells (not (bytes_eq request.method (codes "GET")))) [
    | inl other ↦ rw (known, other) refl
    | inr get ↦ elim (tells (not (all_named (codes "ProtocolVersion") is_version request.headers))) [
      | inl wrong ↦ rw (known, get, wrong) refl
      | inr right ↦ rw (known, get, right) (told_code target rows)
    ]
  ]
]

abbrev IsTold : FleetTarget → Request → List Row → Result Reply Memory → Type 0
IsTold target request rows result = IfOk result (λ reply. reply ≡ fleet_reply target request rows)

-- a shared code needs no cause, since it does not come
pub no_cause : (target : FleetTarget) (request : Request) (rows : List Row) (result : Result Reply Memory) (code : ℕ) (P : Type 0) → is_shared code ≡ true
    → IsTold target request rows result → IfOk result (λ reply. reply.code ≡ code → P)
no_cause target request rows (Ok reply) code P shared is = λ same.
    absurd (let no : true ≡ false = sym shared ∙ ap is_shared (sym same) ∙ ap (λ (r : Reply). is_shared r.code) is ∙ own_code target request rows in cc no)
no_cause target request rows (Err e) code P shared is = tt

-- ---- the store and the disk

pub told_serves : {D : Type 0} (d : Ghosts D) (request : Request) (shelf : Option Contents) (store : StoreTerm) (disk : D) (target : FleetTarget)
    (result : Result Reply Memory) → ((c : List ℕ) → d.left_since disk (d.moment disk) c → d.images disk c) → IsReady d disk store
    → ((t : Target) → IsTarget request.target t → ⊥) → Serves d request shelf store disk result store disk
told_serves d request shelf store disk target (Ok reply) now ready apart =
    unserved d request shelf store disk reply now ready (λ done change asks. apart asks.target asks.aim)
told_serves d request shelf store disk target (Err e) now ready apart = unserved_err d request shelf store disk e now ready
