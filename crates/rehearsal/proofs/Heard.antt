-- What the starts of a play hear of the server.
use Rattle.std.proofs.Common.{◌≡◌, ◌⊎◌, inl, inr, ℕ, List, [], ◌∷◌, Option, Some, None, refl, sym, ap, ◌∙◌, subst, arith}
use Rattle.dsc_outside.specs.Host.{HostState}
use Rattle.dsc_outside.specs.declared.exchange.Exchange.{Exchange}
use Rattle.dsc_terms.specs.Counts.{Rose}
use Rattle.mof_values.specs.Fold.{fold_case}
use Rattle.pull_outside.specs.ReliableShelf.{empty_shelf, with_configuration, with_key}
use Rattle.pull_outside.specs.Shelf.{Contents}
use Rattle.pull_serving.specs.Heard.{AnyCountRose, AreAnswered, LinksAreHeard}
use Rattle.pull_serving.specs.ServerLink.{Becomes, state_of}
use Rattle.pull_serving.specs.Turn.{State}
use Rattle.rehearsal.specs.Heard.{HearsTable, PlayHears, PlaysHearTheTable, exchanges_of, serving}
use Rattle.rehearsal.specs.Objects.{Link, disk_ghosts, shelf_ghosts}
use Rattle.rehearsal.specs.Playing.{Plays, Starts, input_of}
use Rattle.rehearsal.specs.World.{HasLasted, IsFirst, World, after_start, link_to, with_shelf, with_wish}
use Rattle.rehearsal.specs.declared.row.StartRow.{StartRow}
use Rattle.rehearsal.specs.declared.server.Server.{Server}
use Rattle.rehearsal.specs.declared.starter.Starter as starters
use Rattle.rehearsal.specs.declared.step.Step.{Step}
use Rattle.rehearsal.specs.declared.step.Step.TheVariants.{Shelf, Key, Wants, Start}
use Rattle.rehearsal.specs.declared.step.StopAt.{StopAt}

not_risen : (before now : ℕ) → now ≡ 0 → Rose before now → ⊥
not_risen before now none rose = omega (arith, none, rose)

-- ---- one start

-- over a server's link, which left a server with this store and this disk
heard_over : LinksAreHeard disk_ghosts shelf_ghosts → (before after : Link) (server next : Server) → before ≡ link_to server → Becomes disk_ghosts shelf_ghosts before after
    → next ≡ record { store = after.store; disk = after.disk; shelf = server.shelf } → HasLasted after.disk
    → HearsTable server.shelf (serving server) after.exchanges (serving next)
heard_over heard before after server next begins becomes is lasted =
    subst (λ (s : Server). HearsTable server.shelf (serving server) after.exchanges (serving s)) (sym is) here
  where
    of_server : Becomes disk_ghosts shelf_ghosts (link_to server) after
    of_server = subst (λ (l : Link). Becomes disk_ghosts shelf_ghosts l after) begins becomes

    left : State
    left = state_of disk_ghosts shelf_ghosts after

    answered : AreAnswered server.shelf (serving server) after.exchanges left
    answered = subst (λ (es : List Exchange). AreAnswered server.shelf (serving server) es left) (sym of_server.added) (heard (link_to server) after server.shelf of_server refl)

    unfailed : (state : State) → AnyCountRose state left → ⊥
    unfailed state (inl rose) = not_risen state.disk_faults left.disk_faults lasted.unfailed rose
    unfailed state (inr rose) = not_risen state.shelf_faults left.shelf_faults refl rose

    here : HearsTable server.shelf (serving server) after.exchanges left
    here = record { answered = answered; unfailed = unfailed }

module _ {S : Type 0} (program : starters.Ghosts S) (heard : LinksAreHeard disk_ghosts shelf_ghosts) where
  start_hears : (stop : Option StopAt) (words : List (List ℕ)) (input : List ℕ) (world : World) (row : StartRow) (next : World) (start : Starts program stop words input world row next)
      → HearsTable world.server.shelf (serving world.server) (exchanges_of program stop words input world row next start) (serving next.server)
  start_hears None words input world row next start =
      heard_over heard start.before.link start.after.link world.server next.server start.runs.begins.link start.runs.becomes (ap (λ (w : World). w.server) start.leaves) start.server
  start_hears (Some stop) words input world row next start =
      heard_over heard start.before.link start.after.link world.server next.server start.runs.begins.link start.runs.becomes (ap (λ (w : World). w.server) start.leaves) start.server

  -- a start leaves the shelf
  keeps_shelf : (stop : Option StopAt) (words : List (List ℕ)) (input : List ℕ) (world : World) (row : StartRow) (next : World) → Starts program stop words input world row next
      → next.server.shelf ≡ world.server.shelf
  keeps_shelf None words input world row next start = ap (λ (w : World). w.server.shelf) start.leaves
  keeps_shelf (Some stop) words input world row next start = ap (λ (w : World). w.server.shelf) start.leaves

  -- ---- all of them

  play_hears : (world : World) (steps : List Step) (rows : List StartRow) (last : World) (plays : Plays program world steps rows last) (shelf : Contents) (state : State)
      → world.server.shelf ≡ shelf → serving world.server ≡ state → PlayHears program world steps rows last plays shelf state
  play_hears world [] rows last plays shelf state same served = tt
  play_hears world (Shelf configuration content ∷ steps) rows last (own, more, next, is, takes, plays) shelf state same served =
      play_hears next steps more last plays (with_configuration configuration content shelf) state
      (ap (λ (w : World). w.server.shelf) takes.1 ∙ ap (with_configuration configuration content) same)
      (ap (λ (w : World). serving w.server) takes.1 ∙ served)
  play_hears world (Key key ∷ steps) rows last (own, more, next, is, takes, plays) shelf state same served =
      play_hears next steps more last plays (with_key key shelf) state
      (ap (λ (w : World). w.server.shelf) takes.1 ∙ ap (with_key key) same)
      (ap (λ (w : World). serving w.server) takes.1 ∙ served)
  play_hears world (Wants id ∷ steps) rows last (own, more, next, is, takes, plays) shelf state same served =
      play_hears next steps more last plays shelf state (ap (λ (w : World). w.server.shelf) takes.1 ∙ same) (ap (λ (w : World). serving w.server) takes.1 ∙ served)
  play_hears world (Start words input stop ∷ steps) rows last (own, more, next, is, (row, alone, start), plays) shelf state same served =
      let exchanges = exchanges_of program stop words (input_of input) world row next start in
      let here = start_hears stop words (input_of input) world row next start in (
        subst (λ (c : Contents). HearsTable c state exchanges (serving next.server)) same
            (subst (λ (s : State). HearsTable world.server.shelf s exchanges (serving next.server)) served here),
        play_hears next steps more last plays shelf (serving next.server) (keeps_shelf stop words (input_of input) world row next start ∙ same) refl,
      )

  pub plays_hear_the_table : PlaysHearTheTable program
  plays_hear_the_table first steps rows last begins plays = play_hears first steps rows last plays empty_shelf (serving first.server) begins.server.shelf refl
