-- A play as a chain of starts.
use Rattle.std.proofs.Common.{◌≡◌, ℕ, List, [], ◌∷◌, ◌++◌, map, Option, Some, None, refl, sym, ap, ◌∙◌, subst, append_assoc, append-nil}
use Rattle.std.specs.List.{flat_map}
use Rattle.std.proofs.lemmas.List.Folds.{flat_map-map}
use Rattle.dsc_outside.specs.Host.{HostState}
use Rattle.memory_outside.specs.HonestDisk.{disk_is_honest, state_is_honest}
use Rattle.memory_outside.specs.MemoryDisk.{DiskInMemory, exposed_bytes, held_by, images_of, state_of}
use Rattle.memory_outside.specs.StoppedDisk.{DiskToStop, is_stopped, part_if}
use Rattle.memory_outside.proofs.DiskParts.{part_is_image}
use Rattle.memory_outside.proofs.Images.{one_image}
use Rattle.node_state.specs.Table.{new_node}
use Rattle.node_state.specs.declared.node.Node.{Node}
use Rattle.node_store.specs.Laws.{NodesAreSound}
use Rattle.node_store.specs.Stands.{Stands}
use Rattle.pull_outside.specs.ReliableShelf.{with_configuration, with_key}
use Rattle.pull_outside.specs.Shelf.{Contents}
use Rattle.mof_values.specs.Fold.{fold_case}
use Rattle.resource_kinds.specs.Kinds.{host_of}
use Rattle.rehearsal.specs.Chain.{Chain, EndsCross, LiesBetween, PlayedStart, PlaysAreStarts, StopsCross, starts_of, step_of}
use Rattle.rehearsal.specs.Playing.{Plays, Starts, disk_part, input_of}
use Rattle.rehearsal.specs.Rows.{row_line, slots_of}
use Rattle.rehearsal.specs.World.{World, with_shelf, with_wish}
use Rattle.rehearsal.specs.declared.row.StartRow.{StartRow}
use Rattle.rehearsal.specs.declared.server.Server.{Server}
use Rattle.rehearsal.specs.declared.starter.Starter as starters
use Rattle.rehearsal.specs.declared.step.Step.{Step}
use Rattle.rehearsal.specs.declared.step.Step.TheVariants.{Shelf, Key, Wants, Start}
use Rattle.rehearsal.specs.declared.step.StopAt.{StopAt}
use Rattle.rehearsal.proofs.Worlds.{nothing_stands}

-- ---- between two starts

same_host : (host : HostState) → host ≡ record host { wanting = host.wanting ++ [] }
same_host host = ap (λ (wanting : List (List ℕ)). record host { wanting = wanting }) (sym (append-nil host.wanting))

between_same : (world : World) → LiesBetween world world
between_same world = record { image = refl; wanting = []; host = same_host world.host; server = refl; starts = refl }

between_shelf : (change : Contents → Contents) (world next : World) → next ≡ with_shelf change world → LiesBetween world next
between_shelf change world next is =
    subst (λ (w : World). LiesBetween world w) (sym is) (record { image = refl; wanting = []; host = same_host world.host; server = refl; starts = refl })

between_wish : (id : List ℕ) (world next : World) → next ≡ with_wish id world → LiesBetween world next
between_wish id world next is =
    subst (λ (w : World). LiesBetween world w) (sym is) (record { image = refl; wanting = id ∷ []; host = refl; server = refl; starts = refl })

between_on : (a b c : World) → LiesBetween a b → LiesBetween b c → LiesBetween a c
between_on a b c first second = record {
  image = second.image ∙ first.image;
  wanting = first.wanting ++ second.wanting;
  host = second.host
      ∙ ap (λ (h : HostState). record h { wanting = h.wanting ++ second.wanting }) first.host
      ∙ ap (λ (wanting : List (List ℕ)). record a.host { wanting = wanting }) (append_assoc a.host.wanting first.wanting second.wanting);
  server = second.server ∙ ap (λ (s : Server). record s { shelf = c.server.shelf }) first.server;
  starts = second.starts ∙ first.starts;
}

module _ {S : Type 0} (program : starters.Ghosts S) where
  -- ---- the disk of one start

  pub ends_cross : EndsCross program
  ends_cross words input world row next start = record {
    reads = ap exposed_bytes start.runs.begins.disk;
    begins = λ image there. one_image world.image image (subst (λ (d : DiskInMemory). images_of d image) start.runs.begins.disk there);
    leaves = subst (images_of start.after.disk) (sym (ap (λ (w : World). w.image) start.leaves)) (disk_is_honest start.after.disk (held_by start.after.disk) refl);
  }

  pub stops_cross : StopsCross program
  stops_cross stop words input world row next start =
      let part = part_if (is_stopped start.after.disk (host_of start.after.machine)) (disk_part stop.part) in
      record {
        reads = ap (λ (d : DiskToStop). exposed_bytes d.disk) start.runs.begins.disk;
        begins = λ image there. one_image world.image image (subst (λ (d : DiskToStop). images_of d.disk image) start.runs.begins.disk there);
        leaves = subst (images_of start.after.disk.disk) (sym (ap (λ (w : World). w.image) start.leaves))
            (part_is_image part (state_of start.after.disk.disk) (state_is_honest start.after.disk.disk));
      }

  -- ---- the starts of a play

  -- the node that a start leaves, and its row tells of
  record Tells (row : StartRow) (next : World) : Type 0 where
    node : Node
    stands : Stands next.image node
    slots : row.slots ≡ slots_of node

  told_by : (stop : Option StopAt) (words : List (List ℕ)) (input : List ℕ) (world : World) (row : StartRow) (next : World) → Starts program stop words input world row next → Tells row next
  told_by None words input world row next start = record { node = start.tells.node; stands = start.tells.stands; slots = start.tells.slots }
  told_by (Some stop) words input world row next start = record { node = start.tells.node; stands = start.tells.stands; slots = start.tells.slots }

  -- the starts of these steps, from what lies behind the last one on
  record Chained (begin : World) (node : Node) (steps : List Step) (rows : List StartRow) (last : World) : Type 0 where
    starts : List (PlayedStart program)
    asked : map step_of starts ≡ starts_of steps
    chain : Chain begin node starts last
    rows_are : rows ≡ map (λ (one : PlayedStart program). one.row) starts

  -- a step that is no start
  passed : (begin : World) (node : Node) (steps : List Step) (rows own more : List StartRow) (last : World) → rows ≡ own ++ more → own ≡ [] → Chained begin node steps more last → Chained begin node steps rows last
  passed begin node steps rows own more last is none c = subst (λ (l : List StartRow). Chained begin node steps l last) (sym (is ∙ ap (λ (l : List StartRow). l ++ more) none)) c

  module _ (sound : NodesAreSound) where
    chained : (begin world : World) (node : Node) (steps : List Step) (rows : List StartRow) (last : World) → LiesBetween begin world → Stands begin.image node → Plays program world steps rows last
        → Chained begin node steps rows last
    chained begin world node [] rows last between stands plays = record {
      starts = [];
      asked = refl;
      chain = subst (λ (w : World). LiesBetween begin w) (sym plays.1) between;
      rows_are = plays.0;
    }
    chained begin world node (Shelf configuration content ∷ steps) rows last between stands (own, more, next, is, takes, plays) =
        let on = between_on begin world next between (between_shelf (with_configuration configuration content) world next takes.1) in
        let c = passed begin node steps rows own more last is takes.0 (chained begin next node steps more last on stands plays) in
        record { starts = c.starts; asked = c.asked; chain = c.chain; rows_are = c.rows_are }
    chained begin world node (Key key ∷ steps) rows last between stands (own, more, next, is, takes, plays) =
        let on = between_on begin world next between (between_shelf (with_key key) world next takes.1) in
        let c = passed begin node steps rows own more last is takes.0 (chained begin next node steps more last on stands plays) in
        record { starts = c.starts; asked = c.asked; chain = c.chain; rows_are = c.rows_are }
    chained begin world node (Wants id ∷ steps) rows last between stands (own, more, next, is, takes, plays) =
        let on = between_on begin world next between (between_wish (fold_case id) world next takes.1) in
        let c = passed begin node steps rows own more last is takes.0 (chained begin next node steps more last on stands plays) in
        record { starts = c.starts; asked = c.asked; chain = c.chain; rows_are = c.rows_are }
    chained begin world node (Start words input stop ∷ steps) rows last between stands (own, more, next, is, (row, alone, start), plays) =
        let one : PlayedStart program = record { words = words; input = input; stop = stop; world = world; row = row; next = next; starts = start } in
        let here = subst (λ (image : List ℕ). Stands image node) (sym between.image) stands in
        let after = told_by stop words (input_of input) world row next start in
        let c = chained next next after.node steps more last (between_same next) after.stands plays in
        record {
          starts = one ∷ c.starts;
          asked = ap (λ (l : List Step). Start words input stop ∷ l) c.asked;
          chain = (between, here, sound world.image node here, (after.node, after.stands, sound next.image after.node after.stands, after.slots, c.chain));
          rows_are = is ∙ ap (λ (l : List StartRow). l ++ more) alone ∙ ap (λ (l : List StartRow). row ∷ l) c.rows_are;
        }

    pub plays_are_starts : PlaysAreStarts program
    plays_are_starts steps text played =
        let begins = subst (λ (image : List ℕ). Stands image new_node) (sym played.begins.image) nothing_stands in
        let c = chained played.first played.first new_node steps played.from.rows played.from.last (between_same played.first) begins played.from.plays in
        record {
          first = played.first;
          begins = played.begins;
          starts = c.starts;
          asked = c.asked;
          last = played.from.last;
          chain = c.chain;
          is = played.from.is ∙ ap (flat_map row_line) c.rows_are ∙ flat_map-map row_line (λ (one : PlayedStart program). one.row) c.starts;
        }
