-- What the starts of a play hear of the server: the replies of its table.
use Rattle.std.specs.Prelude.{List, [], ◌∷◌, ℕ, Option, Some, None, ⊤}
use Rattle.dsc_outside.specs.declared.exchange.Exchange.{Exchange}
use Rattle.pull_outside.specs.ReliableShelf.{empty_shelf, with_configuration, with_key}
use Rattle.pull_outside.specs.Shelf.{Contents}
use Rattle.pull_serving.specs.Heard.{AnyCountRose, AreAnswered}
use Rattle.pull_serving.specs.ServerLink.{state_of}
use Rattle.pull_serving.specs.Turn.{State}
use Rattle.rehearsal.specs.Objects.{disk_ghosts, shelf_ghosts}
use Rattle.rehearsal.specs.Playing.{Plays, Starts, input_of}
use Rattle.rehearsal.specs.World.{IsFirst, World, link_to}
use Rattle.rehearsal.specs.declared.row.StartRow.{StartRow}
use Rattle.rehearsal.specs.declared.server.Server.{Server}
use Rattle.rehearsal.specs.declared.starter.Starter as starters
use Rattle.rehearsal.specs.declared.step.Step.{Step}
use Rattle.rehearsal.specs.declared.step.Step.TheVariants.{Shelf, Key, Wants, Start}
use Rattle.rehearsal.specs.declared.step.StopAt.{StopAt}

-- what the connections of a server are served over between two starts
abbrev pub serving : Server → State
serving server = state_of disk_ghosts shelf_ghosts (link_to server)

-- the exchanges of a start, which begins without one
abbrev pub exchanges_of : {S : Type 0} (program : starters.Ghosts S) (stop : Option StopAt) (words : List (List ℕ)) (input : List ℕ) (world : World) (row : StartRow) (next : World)
    → Starts program stop words input world row next → List Exchange
exchanges_of program None words input world row next start = start.after.link.exchanges
exchanges_of program (Some stop) words input world row next start = start.after.link.exchanges

-- The exchanges are answered by the server's table over a shelf that holds this, each over the rows that the one before it left: what is heard of one is
-- the text of the table's reply to what was sent, and is read as that alone. No count of faults of the server rose.
pub record HearsTable (shelf : Contents) (first : State) (exchanges : List Exchange) (last : State) : Type 0 where
  pub answered : AreAnswered shelf first exchanges last
  pub unfailed : (before : State) → AnyCountRose before last → ⊥

-- so does each start of a play, over the shelf that the lines above it made of this one, and the rows that the start before it left
abbrev pub PlayHears : {S : Type 0} (program : starters.Ghosts S) (world : World) (steps : List Step) (rows : List StartRow) (last : World)
    → Plays program world steps rows last → Contents → State → Type 0
PlayHears program world [] rows last plays shelf state = ⊤
PlayHears program world (Shelf configuration content ∷ steps) rows last (own, more, next, is, takes, plays) shelf state =
    PlayHears program next steps more last plays (with_configuration configuration content shelf) state
PlayHears program world (Key key ∷ steps) rows last (own, more, next, is, takes, plays) shelf state =
    PlayHears program next steps more last plays (with_key key shelf) state
PlayHears program world (Wants id ∷ steps) rows last (own, more, next, is, takes, plays) shelf state = PlayHears program next steps more last plays shelf state
PlayHears program world (Start words input stop ∷ steps) rows last (own, more, next, is, (row, alone, start), plays) shelf state =
    HearsTable shelf state (exchanges_of program stop words (input_of input) world row next start) (serving next.server)
    × PlayHears program next steps more last plays shelf (serving next.server)

-- so it is from the first world on, with nothing on the shelf
abbrev pub PlaysHearTheTable : {S : Type 0} → starters.Ghosts S → Type 0
PlaysHearTheTable program =
    (first : World) (steps : List Step) (rows : List StartRow) (last : World) → IsFirst first → (plays : Plays program first steps rows last)
    → PlayHears program first steps rows last plays empty_shelf (serving first.server)
