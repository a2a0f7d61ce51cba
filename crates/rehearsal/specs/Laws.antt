-- What holds of the steps of a script, whatever the program does.
use Rattle.std.specs.Prelude.{◌≡◌, List, [], ◌∷◌, ◌++◌, ℕ, Option, None}
use Rattle.node_state.specs.declared.node.Node.{Node}
use Rattle.node_store.specs.Stands.{Stands}
use Rattle.pull_outside.specs.ReliableShelf.{with_configuration, with_key}
use Rattle.pull_outside.specs.Shelf.{Contents}
use Rattle.rehearsal.specs.Playing.{Plays, Starts}
use Rattle.rehearsal.specs.Rows.{slots_of}
use Rattle.rehearsal.specs.World.{World}
use Rattle.rehearsal.specs.declared.row.Ending.TheVariants.{Stopped}
use Rattle.rehearsal.specs.declared.row.StartRow.{StartRow}
use Rattle.rehearsal.specs.declared.starter.Starter as starters
use Rattle.rehearsal.specs.declared.step.Step.{Step}
use Rattle.rehearsal.specs.declared.step.Step.TheVariants.{Shelf, Key, Wants, Start}
use Rattle.rehearsal.specs.declared.step.StopAt.{StopAt}

-- the first of these steps lead to a world in which the others begin
abbrev pub PlaysInParts : {S : Type 0} → starters.Ghosts S → Type 0
PlaysInParts program =
    (world : World) (front back : List Step) (rows : List StartRow) (last : World) → Plays program world (front ++ back) rows last
    → (mid : World) × (own more : List StartRow) × (rows ≡ own ++ more) × Plays program world front own mid × Plays program mid back more last

-- the shelf after the lines of these steps that change it
abbrev pub shelf_after : List Step → Contents → Contents
shelf_after [] shelf = shelf
shelf_after (Shelf configuration content ∷ steps) shelf = shelf_after steps (with_configuration configuration content shelf)
shelf_after (Key key ∷ steps) shelf = shelf_after steps (with_key key shelf)
shelf_after (Wants id ∷ steps) shelf = shelf_after steps shelf
shelf_after (Start words input stop ∷ steps) shelf = shelf_after steps shelf

-- no start changes the shelf: it is made of the lines alone
abbrev pub ShelvesAreOfLines : {S : Type 0} → starters.Ghosts S → Type 0
ShelvesAreOfLines program =
    (world : World) (steps : List Step) (rows : List StartRow) (last : World) → Plays program world steps rows last
    → last.server.shelf ≡ shelf_after steps world.server.shelf

-- a start without a stop is not said to be stopped
abbrev pub OnlyStopsStop : {S : Type 0} → starters.Ghosts S → Type 0
OnlyStopsStop program =
    (words : List (List ℕ)) (input : List ℕ) (world : World) (row : StartRow) (next : World) → Starts program None words input world row next
    → row.ending ≡ Stopped → ⊥

-- a row tells of the one node that the next start finds on the disk
abbrev pub RowsTellNodes : {S : Type 0} → starters.Ghosts S → Type 0
RowsTellNodes program =
    (stop : Option StopAt) (words : List (List ℕ)) (input : List ℕ) (world : World) (row : StartRow) (next : World) → Starts program stop words input world row next
    → (node : Node) → Stands next.image node → row.slots ≡ slots_of node
