-- Nodes whose fields are in range.
use Rattle.std.proofs.Common.{inl, inr, ◌≡◌, ◌<◌, ◌-◌, ◌^◌, ℕ, true, List, Option, Some, None, [], ◌∷◌, ◌++◌, drop, length, map, sym, subst, arith, zero, suc}
use Rattle.std.specs.Prelude.{IfSome}
use Rattle.std.specs.List.{AllByRecursion}
use Rattle.std.specs.Int.{w64, w128}
use Rattle.std.proofs.lemmas.Bool.Decides.{nat_tests}
use Rattle.store_fields.specs.Fields.{IsNumber}
use Rattle.partial_merge.specs.declared.part.Part.{Part}
use Rattle.report_log.specs.declared.report.Report.{Report}
use Rattle.node_state.specs.declared.node.Kept.{Kept}
use Rattle.node_state.specs.declared.node.Node.{Node}
use Rattle.node_state.specs.declared.piece.Piece.{Piece}
use Rattle.node_state.specs.declared.piece.Piece.TheVariants as pieces
use Rattle.node_state.specs.declared.event.Event.{Event}
use Rattle.node_state.specs.declared.event.Event.TheVariants as events
use Rattle.node_state.specs.declared.event.Stage.{Stage}
use Rattle.node_state.specs.declared.event.Stage.TheVariants.{Pending, Current, Previous}
use Rattle.node_state.specs.Lists.{IsStaged}
use Rattle.node_state.specs.Pieces.{Builds, front, placed, report_of, slot_of}
use Rattle.node_state.specs.Sound.{Sound}
use Rattle.node_state.proofs.Building.{built_is_sound}
use Rattle.node_state.proofs.SoundSteps.{checked, steps_are_sound}
use Rattle.node_state.specs.Table.{Steps, after, is_next, marked, new_node, newest, promoted, refusal, unsent, with_report, without}
use Rattle.node_state.specs.declared.limits.TheConstants.{OLDER_REPORTS}
use Rattle.node_store.specs.Bodies.{IsEventInRange, IsPieceInRange}
use Rattle.node_store.specs.Parts.{AreParts}
use Rattle.node_store.specs.Reports.{IsReport}
use Rattle.node_store.specs.Stands.{Leads, LeadsInFull}

-- its numbers, parts and reports are in range
pub record InRange (node : Node) : Type 0 where
  pub agent : IfSome node.agent (IsNumber w128)
  pub job : IsNumber w64 node.next_job
  pub pending : IfSome node.pending AreParts
  pub current : IfSome node.current AreParts
  pub previous : IfSome node.previous AreParts
  pub reports : AllByRecursion (λ kept. IsReport kept.report) node.reports

abbrev AreReports : List Kept → Type 0
AreReports reports = AllByRecursion (λ (kept : Kept). IsReport kept.report) reports

dropped : (n : ℕ) (reports : List Kept) → AreReports reports → AreReports (drop n reports)
dropped zero reports all = all
dropped (suc n) [] all = tt
dropped (suc n) (x ∷ xs) all = dropped n xs all.1

pushed : (reports : List Kept) (kept : Kept) → AreReports reports → IsReport kept.report → AreReports (reports ++ kept ∷ [])
pushed [] kept all is = (is, tt)
pushed (x ∷ xs) kept all is = (all.0, pushed xs kept all.1 is)

all_marked : (job : ℕ) (reports : List Kept) → AreReports reports → AreReports (map (marked job) reports)
all_marked job [] all = tt
all_marked job (x ∷ xs) all = (all.0, all_marked job xs all.1)

-- a report that is kept: its job has a next one
noted : (node : Node) (report : Report) → InRange node → node.next_job < 2 ^ 64 - 1 → IsReport report → InRange (with_report report node)
noted node report range next is = record {
  agent = range.agent;
  job = omega (arith, next);
  pending = range.pending;
  current = range.current;
  previous = range.previous;
  reports = pushed (newest OLDER_REPORTS node.reports) (unsent report) (dropped (length node.reports - OLDER_REPORTS) node.reports range.reports) is;
}

without_parts : (stage : Stage) (node : Node) → InRange node → InRange (without stage node)
without_parts Pending node range = record { agent = range.agent; job = range.job; pending = tt; current = range.current; previous = range.previous; reports = range.reports }
without_parts Current node range = record { agent = range.agent; job = range.job; pending = range.pending; current = tt; previous = range.previous; reports = range.reports }
without_parts Previous node range = record { agent = range.agent; job = range.job; pending = range.pending; current = range.current; previous = tt; reports = range.reports }

below_end : (next job : ℕ) → is_next next job ≡ true → next < 2 ^ 64 - 1
below_end next job is = grind (arith, nat_tests)

-- an allowed event in range leaves a node in range
pub step_in_range : (node : Node) (event : Event) → InRange node → IsEventInRange event → refusal node event ≡ None → InRange (after node event)
step_in_range node (events.Init agent) range fields allowed = record { agent = fields; job = range.job; pending = range.pending; current = range.current; previous = range.previous; reports = range.reports }
step_in_range node (events.SetMeta meta) range fields allowed = record { agent = range.agent; job = range.job; pending = range.pending; current = range.current; previous = range.previous; reports = range.reports }
step_in_range node events.Registered range fields allowed = record { agent = range.agent; job = range.job; pending = range.pending; current = range.current; previous = range.previous; reports = range.reports }
step_in_range node (events.Stage staged) range fields allowed = record { agent = range.agent; job = range.job; pending = fields; current = range.current; previous = range.previous; reports = range.reports }
step_in_range node (events.Promote report) range fields allowed =
    let a = checked _ _ _ allowed in let b = checked _ _ _ a.1 in let c = checked _ _ _ b.1 in
    noted (promoted node) report (record { agent = range.agent; job = range.job; pending = tt; current = range.pending; previous = range.current; reports = range.reports })
    (below_end node.next_job report.job c.0) fields
step_in_range node (events.Note report) range fields allowed =
    let a = checked _ _ _ allowed in let b = checked _ _ _ a.1 in let c = checked _ _ _ b.1 in
    noted node report range (below_end node.next_job report.job c.0) fields
step_in_range node (events.AskReboot report) range fields allowed =
    let a = checked _ _ _ allowed in let b = checked _ _ _ a.1 in let c = checked _ _ _ b.1 in
    noted (record node { reboot = true }) report (record { agent = range.agent; job = range.job; pending = range.pending; current = range.current; previous = range.previous; reports = range.reports })
    (below_end node.next_job report.job c.0) fields
step_in_range node events.Boot range fields allowed = record { agent = range.agent; job = range.job; pending = range.pending; current = range.current; previous = range.previous; reports = range.reports }
step_in_range node (events.Sent job) range fields allowed = record { agent = range.agent; job = range.job; pending = range.pending; current = range.current; previous = range.previous; reports = all_marked job node.reports range.reports }
step_in_range node (events.Remove stage) range fields allowed = without_parts stage node range
step_in_range node events.Restore range fields allowed = record { agent = range.agent; job = range.job; pending = range.previous; current = range.current; previous = range.previous; reports = range.reports }

placed_in_range : (node : Node) (piece : Piece) → InRange node → IsPieceInRange piece → InRange (placed node piece)
placed_in_range node (pieces.Base agent registered reboot next_job meta) range fields = record { agent = fields.0.0; job = fields.0.1; pending = range.pending; current = range.current; previous = range.previous; reports = range.reports }
placed_in_range node (pieces.Slot Pending parts) range fields = record { agent = range.agent; job = range.job; pending = fields.0; current = range.current; previous = range.previous; reports = range.reports }
placed_in_range node (pieces.Slot Current parts) range fields = record { agent = range.agent; job = range.job; pending = range.pending; current = fields.0; previous = range.previous; reports = range.reports }
placed_in_range node (pieces.Slot Previous parts) range fields = record { agent = range.agent; job = range.job; pending = range.pending; current = range.current; previous = fields.0; reports = range.reports }
placed_in_range node (pieces.Kept kept) range fields = record { agent = range.agent; job = range.job; pending = range.pending; current = range.current; previous = range.previous; reports = pushed node.reports kept range.reports fields }

new_in_range : InRange new_node
new_in_range = record { agent = tt; job = omega arith; pending = tt; current = tt; previous = tt; reports = tt }

built_in_range : (old new : Node) (made : List Piece) → Builds old made new → AllByRecursion IsPieceInRange made → InRange old → InRange new
built_in_range old new [] is fields range = subst (λ (n : Node). InRange n) (sym is) range
built_in_range old new (piece ∷ made) (is, fit, more) fields range = built_in_range (placed old piece) new made more fields.1 (placed_in_range old piece range fields.0)

steps_in_range : (old new : Node) (happened : List Event) → Steps old happened new → AllByRecursion IsEventInRange happened → InRange old → InRange new
steps_in_range old new [] is fields range = subst (λ (n : Node). InRange n) (sym is) range
steps_in_range old new (event ∷ happened) (mid, step, more) fields range =
    steps_in_range mid new happened more fields.1 (subst (λ (n : Node). InRange n) (sym step.is) (step_in_range old event range fields.0 step.allowed))

steps_sound : (old new : Node) (happened : List Event) → Steps old happened new → Sound old → Sound new
steps_sound old new [] is sound = subst (λ (n : Node). Sound n) (sym is) sound
steps_sound old new (event ∷ happened) (mid, step, more) sound = steps_sound mid new happened more (steps_are_sound old event mid sound step)

-- a node that bodies lead to is sound and in range
pub full_sound : (bodies : List (List ℕ)) (node : Node) → LeadsInFull bodies node → Sound node
full_sound bodies node leads = steps_sound leads.first node leads.events leads.steps (built_is_sound leads.front leads.first leads.builds)

full_in_range : (bodies : List (List ℕ)) (node : Node) → LeadsInFull bodies node → InRange node
full_in_range bodies node leads = steps_in_range leads.first node leads.events leads.steps leads.ranges (built_in_range new_node leads.first leads.front leads.builds leads.pieces new_in_range)

pub leads_sound : (bodies : List (List ℕ)) (node : Node) → Leads bodies node → Sound node
leads_sound bodies node (inl leads) = full_sound bodies node leads
leads_sound bodies node (inr leads) = full_sound leads.1.said node leads.1.leads

pub leads_in_range : (bodies : List (List ℕ)) (node : Node) → Leads bodies node → InRange node
leads_in_range bodies node (inl leads) = full_in_range bodies node leads
leads_in_range bodies node (inr leads) = full_in_range leads.1.said node leads.1.leads

-- ---- the pieces of a node

both_all : {X : Type 0} (P : X → Type 0) (xs ys : List X) → AllByRecursion P xs → AllByRecursion P ys → AllByRecursion P (xs ++ ys)
both_all P [] ys p q = q
both_all P (x ∷ xs) ys p q = (p.0, both_all P xs ys p.1 q)

slot_in_range : (stage : Stage) (slot : Option (List Part)) → IfSome slot AreParts → IfSome slot IsStaged → AllByRecursion IsPieceInRange (slot_of stage slot)
slot_in_range stage None parts staged = tt
slot_in_range stage (Some list) parts staged = ((parts, staged), tt)

reports_in_range : (reports : List Kept) → AreReports reports → AllByRecursion IsPieceInRange (map report_of reports)
reports_in_range [] all = tt
reports_in_range (x ∷ xs) all = (all.0, reports_in_range xs all.1)

pub front_in_range : (agent : ℕ) (node : Node) → node.agent ≡ Some agent → Sound node → InRange node → AllByRecursion IsPieceInRange (front agent node)
front_in_range agent node is sound range =
    let number : IsNumber w128 agent = subst (λ (o : Option ℕ). IfSome o (IsNumber w128)) is range.agent in (
      ((number, range.job), sound.meta),
      both_all IsPieceInRange (slot_of Pending node.pending) _ (slot_in_range Pending node.pending range.pending sound.pending)
          (both_all IsPieceInRange (slot_of Current node.current) _ (slot_in_range Current node.current range.current sound.current)
          (both_all IsPieceInRange (slot_of Previous node.previous) _ (slot_in_range Previous node.previous range.previous sound.previous) (reports_in_range node.reports range.reports))),
    )
