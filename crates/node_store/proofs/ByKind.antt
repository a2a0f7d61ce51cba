-- Of which event or piece a body of a kind is.
use Rattle.std.proofs.Common.{◌≡◌, ℕ, Bool, true, false, ◌==◌, List, [], ◌∷◌, ◌++◌, refl, sym, ap, subst}
use Rattle.std.specs.Int.{w64, w128}
use Rattle.std.specs.Prelude.{⊤}
use Rattle.store_fields.specs.Fields.{bytes_of_number, bytes_of_flag, IsNumber}
use Rattle.meta_config.specs.declared.meta.Meta.{Meta}
use Rattle.meta_config.specs.Writing.{text_of_meta}
use Rattle.partial_merge.specs.declared.part.Part.{Part}
use Rattle.report_log.specs.declared.report.Report.{Report}
use Rattle.node_state.specs.declared.event.Event.{Event}
use Rattle.node_state.specs.declared.event.Event.TheVariants as events
use Rattle.node_state.specs.declared.event.Stage.{Stage}
use Rattle.node_state.specs.declared.list.Staged.{Staged}
use Rattle.node_state.specs.declared.node.Kept.{Kept}
use Rattle.node_state.specs.declared.piece.Piece.TheVariants as pieces
use Rattle.node_state.specs.Lists.{IsStaged}
use Rattle.node_state.specs.StagedParts.{parts_of}
use Rattle.node_store.specs.declared.body.Body.{Body}
use Rattle.node_store.specs.declared.body.Body.TheVariants as bodies
use Rattle.node_store.specs.Bodies.{bytes_of_base, bytes_of_stage, IsBase, IsBody, IsWhole, SpellsMeta}
use Rattle.node_store.specs.Parts.{bytes_of_parts, AreParts}
use Rattle.node_store.specs.Reports.{bytes_of_report, IsReport}

-- the first where it holds, and otherwise the second
abbrev pub when : Bool → Type 0 → Type 0 → Type 0
when true A B = A
when false A B = B

-- bytes after a first field
abbrev pub After : {X : Type 0} → (X → List ℕ) → List ℕ → X → List ℕ → Type 0
After f rest x more = rest ≡ f x ++ more

-- ---- what stands after the first byte, kind by kind

abbrev pub Agent : List ℕ → Body → Type 0
Agent rest body = (agent : ℕ) × (IsWhole (bytes_of_number w128) (IsNumber w128) rest agent × (body ≡ bodies.Event (events.Init agent)))

abbrev pub Brings : List ℕ → Body → Type 0
Brings rest body = (meta : Meta) × (SpellsMeta rest meta × (body ≡ bodies.Event (events.SetMeta meta)))

abbrev pub Alone : Event → List ℕ → Body → Type 0
Alone event rest body = (rest ≡ []) × (body ≡ bodies.Event event)

abbrev pub Parts : List ℕ → Body → Type 0
Parts rest body = (staged : Staged) × (IsWhole bytes_of_parts AreParts rest (parts_of staged) × (body ≡ bodies.Event (events.Stage staged)))

abbrev pub Run : (Report → Event) → List ℕ → Body → Type 0
Run of rest body = (report : Report) × (IsWhole bytes_of_report IsReport rest report × (body ≡ bodies.Event (of report)))

abbrev pub Job : List ℕ → Body → Type 0
Job rest body = (job : ℕ) × (IsWhole (bytes_of_number w64) (IsNumber w64) rest job × (body ≡ bodies.Event (events.Sent job)))

abbrev pub Removed : List ℕ → Body → Type 0
Removed rest body = (stage : Stage) × (IsWhole bytes_of_stage (λ s. ⊤) rest stage × (body ≡ bodies.Event (events.Remove stage)))

abbrev pub base : ℕ × Bool × Bool × ℕ → Meta → Body
base b meta = bodies.Piece (pieces.Base b.0 b.1 b.2 b.3 meta)

abbrev pub Based : List ℕ → Body → Type 0
Based rest body = (b : ℕ × Bool × Bool × ℕ) × ((meta : Meta) × ((more : List ℕ) × (IsBase b × (After bytes_of_base rest b more × (SpellsMeta more meta × (body ≡ base b meta))))))

abbrev pub Slotted : List ℕ → Body → Type 0
Slotted rest body = (stage : Stage) × ((parts : List Part) × ((more : List ℕ) × (After bytes_of_stage rest stage more × (IsStaged parts × (IsWhole bytes_of_parts AreParts more parts × (body ≡ bodies.Piece (pieces.Slot stage parts)))))))

abbrev pub kept_of : Report → Bool → Kept
kept_of report sent = record { report = report; sent = sent }

abbrev pub WasKept : List ℕ → Body → Type 0
WasKept rest body = (sent : Bool) × ((report : Report) × ((more : List ℕ) × (After bytes_of_flag rest sent more × (IsWhole bytes_of_report IsReport more report × (body ≡ bodies.Piece (pieces.Kept (kept_of report sent)))))))

abbrev pub IsOfKind : ℕ → List ℕ → Body → Type 0
IsOfKind kind rest body =
    when (kind == 1) (Agent rest body)
    (when (kind == 2) (Brings rest body)
    (when (kind == 3) (Alone events.Registered rest body)
    (when (kind == 4) (Parts rest body)
    (when (kind == 5) (Run (λ report. events.Promote report) rest body)
    (when (kind == 6) (Run (λ report. events.Note report) rest body)
    (when (kind == 7) (Run (λ report. events.AskReboot report) rest body)
    (when (kind == 8) (Alone events.Boot rest body)
    (when (kind == 9) (Job rest body)
    (when (kind == 10) (Removed rest body)
    (when (kind == 11) (Alone events.Restore rest body)
    (when (kind == 12) (Based rest body)
    (when (kind == 13) (Slotted rest body)
    (when (kind == 14) (WasKept rest body) ⊥)))))))))))))

first_of : List ℕ → ℕ
first_of [] = 0
first_of (x ∷ xs) = x

others_of : List ℕ → List ℕ
others_of [] = []
others_of (x ∷ xs) = xs

first_is : (k j : ℕ) (rest more : List ℕ) → k ∷ rest ≡ j ∷ more → k ≡ j
unfolding first_of
first_is k j rest more e = ap first_of e

others_are : (k j : ℕ) (rest more : List ℕ) → k ∷ rest ≡ j ∷ more → rest ≡ more
unfolding others_of
others_are k j rest more e = ap others_of e

kind_moved : (P : ℕ → List ℕ → Type 0) (k j : ℕ) (rest more : List ℕ) → k ∷ rest ≡ j ∷ more → P j more → P k rest
kind_moved P k j rest more e p =
    subst (λ (n : ℕ). P n rest) (sym (first_is k j rest more e)) (subst (λ (l : List ℕ). P j l) (sym (others_are k j rest more e)) p)

-- what the rest of a body is, by its first byte
pub of_kind : (kind : ℕ) (rest : List ℕ) (body : Body) → IsBody (kind ∷ rest) body → IsOfKind kind rest body
of_kind kind rest (bodies.Event (events.Init agent)) is =
    kind_moved (λ k l. IsOfKind k l (bodies.Event (events.Init agent))) kind 1 rest _ is.0 (agent, (record { in_range = is.1; is = refl }, refl))
of_kind kind rest (bodies.Event (events.SetMeta meta)) is =
    kind_moved (λ k l. IsOfKind k l (bodies.Event (events.SetMeta meta))) kind 2 rest _ is.0 (meta, (record { is = is.1; spelled = refl }, refl))
of_kind kind rest (bodies.Event events.Registered) is =
    kind_moved (λ k l. IsOfKind k l (bodies.Event events.Registered)) kind 3 rest _ is.0 (refl, refl)
of_kind kind rest (bodies.Event (events.Stage staged)) is =
    kind_moved (λ k l. IsOfKind k l (bodies.Event (events.Stage staged))) kind 4 rest _ is.0 (staged, (record { in_range = is.1; is = refl }, refl))
of_kind kind rest (bodies.Event (events.Promote report)) is =
    kind_moved (λ k l. IsOfKind k l (bodies.Event (events.Promote report))) kind 5 rest _ is.0 (report, (record { in_range = is.1; is = refl }, refl))
of_kind kind rest (bodies.Event (events.Note report)) is =
    kind_moved (λ k l. IsOfKind k l (bodies.Event (events.Note report))) kind 6 rest _ is.0 (report, (record { in_range = is.1; is = refl }, refl))
of_kind kind rest (bodies.Event (events.AskReboot report)) is =
    kind_moved (λ k l. IsOfKind k l (bodies.Event (events.AskReboot report))) kind 7 rest _ is.0 (report, (record { in_range = is.1; is = refl }, refl))
of_kind kind rest (bodies.Event events.Boot) is =
    kind_moved (λ k l. IsOfKind k l (bodies.Event events.Boot)) kind 8 rest _ is.0 (refl, refl)
of_kind kind rest (bodies.Event (events.Sent job)) is =
    kind_moved (λ k l. IsOfKind k l (bodies.Event (events.Sent job))) kind 9 rest _ is.0 (job, (record { in_range = is.1; is = refl }, refl))
of_kind kind rest (bodies.Event (events.Remove stage)) is =
    kind_moved (λ k l. IsOfKind k l (bodies.Event (events.Remove stage))) kind 10 rest _ is.0 (stage, (record { in_range = tt; is = refl }, refl))
of_kind kind rest (bodies.Event events.Restore) is =
    kind_moved (λ k l. IsOfKind k l (bodies.Event events.Restore)) kind 11 rest _ is.0 (refl, refl)
of_kind kind rest (bodies.Piece (pieces.Base agent registered reboot next_job meta)) is =
    kind_moved (λ k l. IsOfKind k l (bodies.Piece (pieces.Base agent registered reboot next_job meta))) kind 12 rest _ is.0
    ((agent, registered, reboot, next_job), (meta, (text_of_meta meta, (is.1.0, (refl, (record { is = is.2; spelled = refl }, refl))))))
of_kind kind rest (bodies.Piece (pieces.Slot stage parts)) is =
    kind_moved (λ k l. IsOfKind k l (bodies.Piece (pieces.Slot stage parts))) kind 13 rest _ is.0
    (stage, (parts, (bytes_of_parts parts, (refl, (is.2, (record { in_range = is.1.0; is = refl }, refl))))))
of_kind kind rest (bodies.Piece (pieces.Kept kept)) is =
    kind_moved (λ k l. IsOfKind k l (bodies.Piece (pieces.Kept kept))) kind 14 rest _ is.0
    (kept.sent, (kept.report, (bytes_of_report kept.report, (refl, (record { in_range = is.1; is = refl }, refl)))))
