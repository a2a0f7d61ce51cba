-- Where the parts of the nodes of a rehearsal come from: texts that its starts push, and what is on the shelf that its lines make.
use Rattle.std.specs.Prelude.{◌≡◌, ◌⊎◌, ℕ, List, [], ◌∷◌, Option, Some, None, codes}
use Rattle.std.specs.Str.{chars}
use Rattle.dsc_outside.specs.declared.exchange.Exchange.{Exchange}
use Rattle.link_laws.specs.PulledParts.{IsGivenOf}
use Rattle.meta_config.specs.declared.server.Server.{Server}
use Rattle.partial_merge.specs.declared.part.Part.{Part}
use Rattle.partial_merge.specs.Parts.{unnamed_part}
use Rattle.node_state.specs.declared.node.Node.{Node}
use Rattle.node_state.specs.Slots.{IsSlot}
use Rattle.node_store.specs.Stands.{Stands}
use Rattle.pull_outside.specs.Shelf.{Contents, configuration_of}
use Rattle.rehearsal.specs.Playing.{Plays, Starts, input_of}
use Rattle.rehearsal.specs.World.{IsFirst, World}
use Rattle.rehearsal.specs.declared.row.StartRow.{StartRow}
use Rattle.rehearsal.specs.declared.starter.Starter as starters
use Rattle.rehearsal.specs.declared.step.Step.{Step}
use Rattle.rehearsal.specs.declared.step.Step.TheVariants.{Shelf, Key, Wants, Start}
use Rattle.rehearsal.specs.declared.step.StopAt.{StopAt}
use Rattle.dsc_node.specs.Headline.{WasPushed}

-- a configuration on the shelf has these bytes
abbrev pub IsOnShelf : Contents → List ℕ → Type 0
IsOnShelf shelf bytes = (name : List ℕ) × (configuration_of name shelf ≡ Some bytes)

-- A start with these words and this input brought the part, in a world where the node and the server are so: it pushed the input, without a name or under that of
-- a partial configuration of the node, or it pulled what the shelf has, and the server gave it in one of these exchanges under its checksum.
pub data BringsPart (words : List (List ℕ)) (input : List ℕ) (world : World) (exchanges : List Exchange) (part : Part) : Type 0 where
  pushed : words ≡ codes "push" ∷ [] → part ≡ unnamed_part input → BringsPart words input world exchanges part
  pushed_under : (name : List ℕ) (node : Node) → words ≡ codes "push" ∷ name ∷ [] → Stands world.image node → WasPushed node (chars name) input part
      → BringsPart words input world exchanges part
  pulled : (node : Node) (server : Server) → words ≡ codes "pull" ∷ [] → Stands world.image node → node.meta.server ≡ Some server
      → IsOnShelf world.server.shelf part.bytes → IsGivenOf world.server.shelf exchanges server part → BringsPart words input world exchanges part

-- so it is of a start of a rehearsal, which begins without an exchange
abbrev pub StartBrings : {P : Type 0} (program : starters.Ghosts P) (stop : Option StopAt) (words : List (List ℕ)) (input : List ℕ) (world : World) (row : StartRow) (next : World)
    → Starts program stop words input world row next → Part → Type 0
StartBrings program None words input world row next start = BringsPart words input world start.after.link.exchanges
StartBrings program (Some stop) words input world row next start = BringsPart words input world start.after.link.exchanges

-- one of the starts of a play brought the part
abbrev pub PlayBrings : {P : Type 0} (program : starters.Ghosts P) (world : World) (steps : List Step) (rows : List StartRow) (last : World)
    → Plays program world steps rows last → Part → Type 0
PlayBrings program world [] rows last plays part = ⊥
PlayBrings program world (Shelf configuration content ∷ steps) rows last (own, more, next, is, takes, plays) part = PlayBrings program next steps more last plays part
PlayBrings program world (Key key ∷ steps) rows last (own, more, next, is, takes, plays) part = PlayBrings program next steps more last plays part
PlayBrings program world (Wants id ∷ steps) rows last (own, more, next, is, takes, plays) part = PlayBrings program next steps more last plays part
PlayBrings program world (Start words input stop ∷ steps) rows last (own, more, next, is, (row, alone, start), plays) part =
    StartBrings program stop words (input_of input) world row next start part ⊎ PlayBrings program next steps more last plays part

-- so it is with each part of the node that a play leaves, from the first world on
abbrev pub PartsAreOfStarts : {P : Type 0} → starters.Ghosts P → Type 0
PartsAreOfStarts program =
    (first : World) (steps : List Step) (rows : List StartRow) (last : World) → IsFirst first → (plays : Plays program first steps rows last)
    → (node : Node) (part : Part) → Stands last.image node → IsSlot node part → PlayBrings program first steps rows last plays part
