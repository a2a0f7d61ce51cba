-- Nodes in pieces.
use Rattle.std.specs.Prelude.{◌≡◌, ℕ, ◌≤◌, Bool, true, not, ◌&&◌, ◌||◌, ltb, leb, ◌==◌, List, [], ◌∷◌, ◌++◌, length, map, Option, Some, None, is_some, is_none}
use Rattle.std.specs.List.{list_all}
use Rattle.partial_merge.specs.declared.part.Part.{Part}
use Rattle.report_log.specs.Sizes.{ReportInSize}
use Rattle.node_state.specs.declared.node.Kept.{Kept}
use Rattle.node_state.specs.declared.node.Node.{Node}
use Rattle.node_state.specs.declared.event.Stage.{Stage}
use Rattle.node_state.specs.declared.event.Stage.TheVariants.{Pending, Current, Previous}
use Rattle.node_state.specs.declared.piece.Piece.{Piece}
use Rattle.node_state.specs.declared.piece.Piece.TheVariants as pieces
use Rattle.node_state.specs.Lists.{IsStaged}
use Rattle.node_state.specs.Metas.{IsNodeMeta}
use Rattle.node_state.specs.Sound.{Sound}
use Rattle.node_state.specs.Table.{new_node}
use Rattle.node_state.specs.declared.limits.TheConstants.{OLDER_REPORTS}

-- ---- the pieces of a node

abbrev pub base_of : ℕ → Node → Piece
base_of agent node = pieces.Base agent node.registered node.reboot node.next_job node.meta

abbrev pub slot_of : Stage → Option (List Part) → List Piece
slot_of stage None = []
slot_of stage (Some parts) = pieces.Slot stage parts ∷ []

abbrev pub report_of : Kept → Piece
report_of kept = pieces.Kept kept

-- all of a node of this agent
abbrev pub front : ℕ → Node → List Piece
front agent node =
    base_of agent node
    ∷ (slot_of Pending node.pending
    ++ (slot_of Current node.current
    ++ (slot_of Previous node.previous
    ++ map report_of node.reports)))

-- ---- nodes made of them

-- no parts of this stage or a later one
abbrev pub is_free : Stage → Node → Bool
is_free Pending node = is_none node.pending && (is_none node.current && is_none node.previous)
is_free Current node = is_none node.current && is_none node.previous
is_free Previous node = is_none node.previous

abbrev pub is_before : ℕ → Kept → Bool
is_before job kept = ltb kept.report.job job

-- the piece may come next: Base first, then parts by their stages, then the reports by their jobs
abbrev pub fits : Node → Piece → Bool
fits node (pieces.Base agent registered reboot next_job meta) = is_none node.agent && (not registered || is_some meta.server)
fits node (pieces.Slot stage parts) = is_some node.agent && (is_free stage node && (length node.reports == 0))
fits node (pieces.Kept kept) =
    is_some node.agent
    && (ltb kept.report.job node.next_job && (list_all (is_before kept.report.job) node.reports && leb (length node.reports) OLDER_REPORTS))

abbrev pub with_parts : Stage → List Part → Node → Node
with_parts Pending parts node = record node { pending = Some parts }
with_parts Current parts node = record node { current = Some parts }
with_parts Previous parts node = record node { previous = Some parts }

abbrev pub placed : Node → Piece → Node
placed node (pieces.Base agent registered reboot next_job meta) =
    record node { agent = Some agent; registered = registered; reboot = reboot; next_job = next_job; meta = meta }
placed node (pieces.Slot stage parts) = with_parts stage parts node
placed node (pieces.Kept kept) = record node { reports = node.reports ++ kept ∷ [] }

-- what the piece carries is as a node may have it
abbrev pub IsPiece : Piece → Type 0
IsPiece (pieces.Base agent registered reboot next_job meta) = IsNodeMeta meta
IsPiece (pieces.Slot stage parts) = IsStaged parts
IsPiece (pieces.Kept kept) = ReportInSize kept.report

-- these pieces, one after another
abbrev pub Builds : Node → List Piece → Node → Type 0
Builds old [] new = new ≡ old
Builds old (piece ∷ rest) new = IsPiece piece × (fits old piece ≡ true) × Builds (placed old piece) rest new

-- ---- laws

-- a sound node of an agent is made of its pieces
abbrev pub FrontsBuild : Type 0
FrontsBuild = (agent : ℕ) (node : Node) → node.agent ≡ Some agent → Sound node → Builds new_node (front agent node) node

-- these are at most 20
abbrev pub FrontsAreSmall : Type 0
FrontsAreSmall = (agent : ℕ) (node : Node) → Sound node → length (front agent node) ≤ 20

-- what pieces make of a new node is sound
abbrev pub BuiltIsSound : Type 0
BuiltIsSound = (made : List Piece) (node : Node) → Builds new_node made node → Sound node
