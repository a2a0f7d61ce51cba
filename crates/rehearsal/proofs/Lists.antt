-- What holds of the steps of a script, whatever the program does.
use Rattle.std.proofs.Common.{◌≡◌, List, [], ◌∷◌, ◌++◌, ℕ, Option, Some, None, refl, sym, ap, ◌∙◌, append_assoc}
use Rattle.node_state.specs.declared.node.Node.{Node}
use Rattle.node_store.specs.Laws.{NodesAreOne}
use Rattle.node_store.specs.Stands.{Stands}
use Rattle.pull_outside.specs.Shelf.{Contents}
use Rattle.rehearsal.specs.Laws.{OnlyStopsStop, PlaysInParts, RowsTellNodes, ShelvesAreOfLines, shelf_after}
use Rattle.rehearsal.specs.Playing.{Starts}
use Rattle.rehearsal.specs.Rows.{IsRow, slots_of}
use Rattle.rehearsal.specs.World.{World}
use Rattle.rehearsal.specs.declared.row.Ending.{Ending}
use Rattle.rehearsal.specs.declared.row.StartRow.{StartRow}
use Rattle.rehearsal.specs.declared.starter.Starter as starters
use Rattle.rehearsal.specs.declared.step.Step.TheVariants.{Shelf, Key, Wants, Start}
use Rattle.rehearsal.specs.declared.step.StopAt.{StopAt}

module _ {S : Type 0} (program : starters.Ghosts S) where
  pub plays_in_parts : PlaysInParts program
  plays_in_parts world [] back rows last plays = (world, [], rows, refl, (refl, refl), plays)
  plays_in_parts world (step ∷ front) back rows last (own, more, next, is, takes, plays) =
      let rest = plays_in_parts next front back more last plays in (
        rest.0,
        own ++ rest.1,
        rest.2,
        is ∙ ap (λ (l : List StartRow). own ++ l) rest.3 ∙ sym (append_assoc own rest.1 rest.2),
        (own, rest.1, next, refl, takes, rest.4),
        rest.5,
      )

  -- a start leaves the shelf
  same_shelf : (stop : Option StopAt) (words : List (List ℕ)) (input : List ℕ) (world : World) (row : StartRow) (next : World) → Starts program stop words input world row next → next.server.shelf ≡ world.server.shelf
  same_shelf None words input world row next ends = ap (λ (w : World). w.server.shelf) ends.leaves
  same_shelf (Some stop) words input world row next ends = ap (λ (w : World). w.server.shelf) ends.leaves

  pub shelves_are_of_lines : ShelvesAreOfLines program
  shelves_are_of_lines world [] rows last plays = ap (λ (w : World). w.server.shelf) plays.1
  shelves_are_of_lines world (Shelf configuration content ∷ steps) rows last (own, more, next, is, takes, plays) =
      shelves_are_of_lines next steps more last plays ∙ ap (λ (w : World). shelf_after steps w.server.shelf) takes.1
  shelves_are_of_lines world (Key key ∷ steps) rows last (own, more, next, is, takes, plays) =
      shelves_are_of_lines next steps more last plays ∙ ap (λ (w : World). shelf_after steps w.server.shelf) takes.1
  shelves_are_of_lines world (Wants id ∷ steps) rows last (own, more, next, is, takes, plays) =
      shelves_are_of_lines next steps more last plays ∙ ap (λ (w : World). shelf_after steps w.server.shelf) takes.1
  shelves_are_of_lines world (Start words input stop ∷ steps) rows last (own, more, next, is, takes, plays) =
      shelves_are_of_lines next steps more last plays ∙ ap (λ (s : Contents). shelf_after steps s) (same_shelf stop words _ world takes.0 next takes.2)

  pub only_stops_stop : OnlyStopsStop program
  only_stops_stop words input world row next ends stopped = absurd (cc (ends.tells.ends, stopped))

  module _ (one : NodesAreOne) where
    row_tells : (ending : Ending) (row : StartRow) (next : World) → IsRow ending next row → (node : Node) → Stands next.image node → row.slots ≡ slots_of node
    row_tells ending row next is node stands = is.slots ∙ ap slots_of (one next.image is.node node is.stands stands)

    pub rows_tell_nodes : RowsTellNodes program
    rows_tell_nodes None words input world row next ends = row_tells _ row next ends.tells
    rows_tell_nodes (Some stop) words input world row next ends = row_tells _ row next ends.tells
