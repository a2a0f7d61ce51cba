-- The bodies under which events and pieces of a node are stored.
use Rattle.std.specs.Prelude.{◌≡◌, ℕ, Bool, List, [], ◌∷◌, ◌++◌, All, ⊤}
use Rattle.std.specs.Int.{w64, w128}
use Rattle.store_fields.specs.Fields.{bytes_of_number, bytes_of_byte, bytes_of_flag, IsDigest, IsNumber}
use Rattle.meta_config.specs.declared.meta.Meta.{Meta}
use Rattle.meta_config.specs.Writing.{text_of_meta}
use Rattle.node_state.specs.declared.event.Event.{Event}
use Rattle.node_state.specs.declared.event.Event.TheVariants as events
use Rattle.node_state.specs.declared.event.Stage.{Stage}
use Rattle.node_state.specs.declared.event.Stage.TheVariants.{Pending, Current, Previous}
use Rattle.node_state.specs.declared.piece.Piece.{Piece}
use Rattle.node_state.specs.declared.piece.Piece.TheVariants as pieces
use Rattle.node_state.specs.Lists.{IsStaged}
use Rattle.node_state.specs.Pieces.{IsPiece}
use Rattle.node_state.specs.Table.{IsWithin}
use Rattle.node_state.specs.Metas.{IsNodeMeta}
use Rattle.node_state.specs.StagedParts.{parts_of}
use Rattle.node_store.specs.declared.body.Body.{Body}
use Rattle.node_store.specs.declared.body.Body.TheVariants as bodies
use Rattle.node_store.specs.Parts.{bytes_of_parts, AreParts}
use Rattle.report_log.specs.declared.report.Report.{Report}
use Rattle.node_store.specs.Reports.{bytes_of_report, IsReport}

abbrev pub byte_of_stage : Stage → ℕ
byte_of_stage Pending = 0
byte_of_stage Current = 1
byte_of_stage Previous = 2

abbrev pub bytes_of_stage : Stage → List ℕ
bytes_of_stage stage = bytes_of_byte (byte_of_stage stage)

abbrev pub body_of_event : Event → List ℕ
body_of_event (events.Init agent) = 1 ∷ bytes_of_number w128 agent
body_of_event (events.SetMeta meta) = 2 ∷ text_of_meta meta
body_of_event events.Registered = 3 ∷ []
body_of_event (events.Stage staged) = 4 ∷ bytes_of_parts (parts_of staged)
body_of_event (events.Promote report) = 5 ∷ bytes_of_report report
body_of_event (events.Note report) = 6 ∷ bytes_of_report report
body_of_event (events.AskReboot report) = 7 ∷ bytes_of_report report
body_of_event events.Boot = 8 ∷ []
body_of_event (events.Sent job) = 9 ∷ bytes_of_number w64 job
body_of_event (events.Remove stage) = 10 ∷ bytes_of_stage stage
body_of_event events.Restore = 11 ∷ []

-- the fields of a base before its meta-configuration: agent, registered, reboot, next job
unfoldable pub bytes_of_base : ℕ × Bool × Bool × ℕ → List ℕ
bytes_of_base base = bytes_of_number w128 base.0 ++ (bytes_of_flag base.1 ++ (bytes_of_flag base.2 ++ bytes_of_number w64 base.3))

-- all of a node but its parts and reports, with the text of its meta-configuration
abbrev pub base_body : ℕ → Bool → Bool → ℕ → List ℕ → List ℕ
base_body agent registered reboot next_job text =
    12 ∷ (bytes_of_base (agent, registered, reboot, next_job) ++ text)

abbrev pub body_of_piece : Piece → List ℕ
body_of_piece (pieces.Base agent registered reboot next_job meta) = base_body agent registered reboot next_job (text_of_meta meta)
body_of_piece (pieces.Slot stage parts) = 13 ∷ (bytes_of_stage stage ++ bytes_of_parts parts)
body_of_piece (pieces.Kept kept) = 14 ∷ (bytes_of_flag kept.sent ++ bytes_of_report kept.report)

-- the bytes are the canonical text of a meta-configuration that a node may have
pub record SpellsMeta (text : List ℕ) (meta : Meta) : Type 0 where
  pub is : IsNodeMeta meta
  pub spelled : text ≡ text_of_meta meta

-- the text is that of the meta-configuration that the event brings, if it brings one
abbrev pub BringsText : Event → List ℕ → Type 0
BringsText (events.SetMeta meta) text = text ≡ text_of_meta meta
BringsText _ text = ⊤

-- ---- the events and pieces that have such bodies: each field is in its range

abbrev pub IsEventInRange : Event → Type 0
IsEventInRange (events.Init agent) = IsNumber w128 agent
IsEventInRange (events.SetMeta meta) = IsNodeMeta meta
IsEventInRange events.Registered = ⊤
IsEventInRange (events.Stage staged) = AreParts (parts_of staged)
IsEventInRange (events.Promote report) = IsReport report
IsEventInRange (events.Note report) = IsReport report
IsEventInRange (events.AskReboot report) = IsReport report
IsEventInRange events.Boot = ⊤
IsEventInRange (events.Sent job) = IsNumber w64 job
IsEventInRange (events.Remove stage) = ⊤
IsEventInRange events.Restore = ⊤

abbrev pub IsBase : ℕ × Bool × Bool × ℕ → Type 0
IsBase base = IsNumber w128 base.0 × IsNumber w64 base.3

abbrev pub IsPieceInRange : Piece → Type 0
IsPieceInRange (pieces.Base agent registered reboot next_job meta) = IsBase (agent, registered, reboot, next_job) × IsNodeMeta meta
IsPieceInRange (pieces.Slot stage parts) = AreParts parts × IsStaged parts
IsPieceInRange (pieces.Kept kept) = IsReport kept.report

-- the digests of its parts have 32 bytes, as the type of a digest has it
abbrev pub HasDigests : Report → Type 0
HasDigests report = All (λ mark. IsDigest mark.digest) report.parts

abbrev pub HaveDigests : Event → Type 0
HaveDigests (events.Promote report) = HasDigests report
HaveDigests (events.Note report) = HasDigests report
HaveDigests (events.AskReboot report) = HasDigests report
HaveDigests _ = ⊤

-- ---- what bodies are of

-- the bytes are all of the bytes of this value
pub record IsWhole {X : Type 0} (bytes_of : X → List ℕ) (IsInRange : X → Type 0) (bytes : List ℕ) (value : X) : Type 0 where
  pub in_range : IsInRange value
  pub is : bytes ≡ bytes_of value

-- the bytes are the body of this event or piece, which is as a node may have it
abbrev pub IsBody : List ℕ → Body → Type 0
IsBody bytes (bodies.Event event) = (bytes ≡ body_of_event event) × IsEventInRange event × IsWithin event
IsBody bytes (bodies.Piece piece) = (bytes ≡ body_of_piece piece) × IsPieceInRange piece × IsPiece piece
