-- Where the parts of the nodes of a rehearsal come from.
use Rattle.std.proofs.Common.{◌≡◌, ◌⊎◌, inl, inr, ⊎_elim, ℕ, List, [], ◌∷◌, ◌++◌, Option, Some, None, refl, sym, ap, subst, ◌∙◌, codes}
use Rattle.std.specs.Prelude.{IfSome}
use Rattle.std.specs.Str.{chars}
use Rattle.std.proofs.lemmas.Option.{none-some}
use Rattle.dsc_outside.specs.declared.ends.Ends as ends
use Rattle.dsc_outside.specs.declared.disk.Disk as disks
use Rattle.dsc_outside.specs.declared.entries.Package.{Package}
use Rattle.dsc_outside.specs.declared.exchange.Exchange.{Exchange}
use Rattle.dsc_outside.specs.declared.host.Host as hosts
use Rattle.dsc_outside.specs.declared.link.Link as links
use Rattle.dsc_outside.specs.declared.clock.Clock as clocks
use Rattle.dsc_outside.specs.Link.{LinkView}
use Rattle.link_laws.specs.PulledParts.{IsGivenOf, PulledPartsAreOfTheShelf}
use Rattle.link_laws.specs.ShelfContents.{IsItem}
use Rattle.memory_outside.specs.MemoryDisk.{DiskInMemory}
use Rattle.memory_outside.specs.StoppedDisk.{DiskToStop}
use Rattle.memory_outside.specs.StoppedHost.{HostToStop}
use Rattle.memory_outside.specs.declared.contents.HostContents.{HostContents}
use Rattle.memory_outside.specs.declared.null_sink.NullSink.{NullSink}
use Rattle.memory_outside.specs.contracts.fixed_clock.FixedClockClock.TheImpl as fixed_clocks
use Rattle.memory_outside.specs.contracts.null_sink.NullSinkEnds.TheImpl as null_sinks
use Rattle.memory_outside.specs.contracts.reliable.ReliableHostHost.TheImpl as reliable_hosts
use Rattle.memory_outside.specs.contracts.reliable_source.ReliableSourceEnds.TheImpl as reliable_sources
use Rattle.memory_outside.specs.contracts.stopped_host.StoppedHostHost.TheImpl as stopped_hosts
use Rattle.partial_merge.specs.declared.part.Part.{Part}
use Rattle.partial_merge.specs.Parts.{unnamed_part}
use Rattle.pull_outside.specs.Shelf.{Contents, package_named}
use Rattle.pull_serving.specs.ServerLink.{Becomes}
use Rattle.node_state.specs.declared.node.Node.{Node}
use Rattle.node_state.specs.Slots.{IsSlot}
use Rattle.node_state.specs.Table.{new_node}
use Rattle.node_store.specs.Laws.{NodesAreOne}
use Rattle.node_store.specs.Stands.{Stands}
use Rattle.rehearsal.proofs.Worlds.{nothing_stands}
use Rattle.rehearsal.specs.Chain.{Crosses, EndsCross, StopsCross}
use Rattle.rehearsal.specs.Objects as rehearsals
use Rattle.rehearsal.specs.Objects.{disk_ghosts, shelf_ghosts, stopped_ghosts}
use Rattle.rehearsal.specs.Playing.{Plays, Starts, input_of}
use Rattle.rehearsal.specs.World.{World, link_to}
use Rattle.rehearsal.specs.declared.row.StartRow.{StartRow}
use Rattle.rehearsal.specs.declared.starter.Starter as starters
use Rattle.rehearsal.specs.declared.step.Step.{Step}
use Rattle.rehearsal.specs.declared.step.Step.TheVariants.{Shelf, Key, Wants, Start}
use Rattle.rehearsal.specs.declared.step.StopAt.{StopAt}
use Rattle.resource_kinds.specs.declared.kinds.Kinds.{Kinds}
use Rattle.dsc_node.specs.declared.command.Command.{Command as StartCommand}
use Rattle.dsc_node.specs.declared.command.Command.TheVariants as commands
use Rattle.dsc_node.specs.Headline.{IsBrought, WasPulled}
use Rattle.dsc_node.specs.HostHeadline.{kinds_of, machine_of}
use Rattle.dsc_node.specs.Start.{Outside}
use Rattle.dsc_node.specs.Starts.{Brings, PartsAreBrought}
use Rattle.lcm_program.specs.declared.words.Command.{Command}
use Rattle.lcm_program.specs.declared.words.Command.TheVariants.{Test, Check, Order, Canon, Checksum, Compile, Generate, Init, Meta, Register, Pull, Push, Consistency, Boot, Get, Restore, Remove, Reports}
use Rattle.lcm_program.specs.Complete.{StartsBy}
use Rattle.lcm_program.specs.Further.{further_of_host}
use Rattle.lcm_program.specs.Objects.{Known, Objects, known}
use Rattle.lcm_program.specs.Rehearse.{StartsNode, with_output}
use Rattle.lcm_program.specs.RehearsedParts.{BringsPart, IsOnShelf, PartsAreOfStarts, PlayBrings, StartBrings, pulled, pushed, pushed_under}
use Rattle.lcm_program.specs.StartsOrRests.{IsNodeStart, IsStartBy}
use Rattle.lcm_program.specs.Words.{IsForm}
use Rattle.lcm_program.proofs.RehearsedStarts.{exposed, found_is, left, stays, whole}
use Rattle.lcm_program.proofs.StartsOrRests.{goes}

-- ---- a start of the node, where its disk crosses from one world to the next

module _ {S K D M L C : Type 0} (o : Known S K D M L C) (before after : Objects S K D M L C) (world next : World) (crosses : Crosses o.outside.disk before.disk after.disk world next)
    (meaning : NodesAreOne) (node later : Node) (begins : Stands world.image node) (leaves : Stands next.image later) (is : IsNodeStart o before after) where
  -- a part that it leaves was there, or it brings it
  had_or_brings : PartsAreBrought o.outside → (part : Part) → IsSlot later part → IsSlot node part ⊎ Brings o.outside is.one part
  had_or_brings law part slot =
      ⊎_elim
      (λ had. inl (subst (λ (n : Node). IsSlot n part) (found_is o before after world next crosses meaning node later begins leaves is had.0 had.1) had.2))
      (λ brings. inr brings)
      (law is.one [] (exposed o before after world next crosses meaning node later begins leaves is, tt) (whole o before after world next crosses meaning node later begins leaves is) tt
      next.image later part (inr (left o before after world next crosses meaning node later begins leaves is)) leaves slot)

-- ---- a start of a rehearsal, over objects of one kind

-- no line of a script puts a package on the shelf
abbrev HasNoPackage : World → Type 0
HasNoPackage world = world.server.shelf.packages ≡ []

is_configuration : (shelf : Contents) (bytes : List ℕ) → shelf.packages ≡ [] → IsItem shelf bytes → IsOnShelf shelf bytes
is_configuration shelf bytes none (inl found) = found
is_configuration shelf bytes none (inr (name, version, found)) =
    absurd (none-some bytes (subst (λ (l : List Package). package_named name version l ≡ Some bytes) none found))

module _ {K D H : Type 0} (source : ends.Ghosts (List ℕ)) (sink : ends.Ghosts K) (disk : disks.Ghosts D) (host : hosts.Ghosts H) (link : links.Ghosts rehearsals.Link) (clock : clocks.Ghosts ℕ)
    (left_of : (s : List ℕ) → source.left s ≡ Some s) (shown_of : (l : rehearsals.Link) → link.shown l ≡ Some l.exchanges) (meaning : NodesAreOne)
    (of_shelf : PulledPartsAreOfTheShelf disk_ghosts shelf_ghosts) where
  abbrev o : Known (List ℕ) K D (Kinds H) rehearsals.Link ℕ
  o = known source sink disk (kinds_of host) (machine_of host) link clock

  module _ (words : List (List ℕ)) (input : List ℕ) (name : List ℕ) (before after : rehearsals.Objects D H) (world next : World)
      (done : StartsNode {K = K} source sink disk host link clock words before after name) (crosses : Crosses disk before.disk after.disk world next)
      (given : before.input ≡ input) (linked : before.link ≡ link_to world.server) (becomes : Becomes disk_ghosts shelf_ghosts before.link after.link)
      (none : HasNoPackage world) (node later : Node) (part : Part) (begins : Stands world.image node) (leaves : Stands next.image later) (slot : IsSlot later part) where
    abbrev objects_before : Objects (List ℕ) K D (Kinds H) rehearsals.Link ℕ
    objects_before = with_output done.old before

    abbrev objects_after : Objects (List ℕ) K D (Kinds H) rehearsals.Link ℕ
    objects_after = with_output done.new after

    abbrev Comes : Type 0
    Comes = BringsPart words input world after.link.exchanges part

    module _ (asked heard : LinkView) (shown_before : asked.shown ≡ Some before.link.exchanges) (shown_after : heard.shown ≡ Some after.link.exchanges) where
      -- it is on the shelf of the world
      was_pulled : (from : Node) → Stands world.image from → words ≡ codes "pull" ∷ [] → WasPulled from asked heard part → Comes
      was_pulled from stands form was =
          let of = of_shelf before.link after.link world.server.shelf becomes (ap (λ (l : rehearsals.Link). Some l.shelf) linked) asked heard shown_before shown_after
          from later part (world.image, stands) (next.image, leaves) slot was.server was.agent was.is_server was.is_agent was.accepted in
          let added : becomes.more ≡ after.link.exchanges = sym (becomes.added ∙ ap (λ (l : rehearsals.Link). l.exchanges ++ becomes.more) linked) in
          pulled from was.server form stands was.is_server (is_configuration world.server.shelf part.bytes none of.item) (subst (λ (l : List Exchange). IsGivenOf world.server.shelf l was.server part) added of)

      module _ (from : Node) (stands : Stands world.image from) where
        abbrev Brought : StartCommand → Type 0
        Brought start = IsBrought start from asked heard part

        -- what the command brings is pushed or pulled
        by_command : (command : Command) (start : StartCommand) → IsForm command words → StartsBy (Some input) command start → Brought start → Comes
        by_command Test start form by brought = absurd by
        by_command Check start form by brought = absurd by
        by_command Order start form by brought = absurd by
        by_command Canon start form by brought = absurd by
        by_command Checksum start form by brought = absurd by
        by_command (Compile target) start form by brought = absurd by
        by_command (Generate count) start form by brought = absurd by
        by_command (Init agent) start form by brought = absurd (subst Brought by brought)
        by_command Meta start form by brought = absurd (subst Brought by.2 brought)
        by_command (Register label) start form by brought = absurd (subst Brought by brought)
        by_command Pull start form by brought = was_pulled from stands form (subst Brought by brought)
        by_command (Push None) start form (bytes, reads, by) brought = pushed form (subst Brought by brought ∙ ap unnamed_part reads.0)
        by_command (Push (Some label)) start form (bytes, reads, by) brought =
            pushed_under label.now from form.0 stands (subst (λ (b : List ℕ). Brought (commands.Push (Some (chars label.now)) b)) reads.0 (subst Brought by brought))
        by_command Consistency start form by brought = absurd (subst Brought by brought)
        by_command Boot start form by brought = absurd (subst Brought by brought)
        by_command Get start form by brought = absurd (subst Brought by brought)
        by_command Restore start form by brought = absurd (subst Brought by brought)
        by_command (Remove stage) start form by brought = absurd (subst Brought by brought)
        by_command Reports start form by brought = absurd (subst Brought by brought)

    shown_at : (is : Outside D (Kinds H) ℕ) (l : rehearsals.Link) → is.beside.link.shown ≡ link.shown l → is.beside.link.shown ≡ Some l.exchanges
    shown_at is l same = same ∙ shown_of l

    comes : (command : Command) → IsForm command words → (is : IsStartBy o command done.status objects_before objects_after) → Brings o.outside is.start.one part → Comes
    comes command form is (from, reads, brought) =
        let one = is.start.one in
        let shown = ap (λ (x : Outside D (Kinds H) ℕ). disk.shown x.disk) is.start.begins ∙ crosses.reads in
        by_command one.before.beside.link one.after.beside.link
        (shown_at one.before before.link (ap (λ (x : Outside D (Kinds H) ℕ). x.beside.link.shown) is.start.begins))
        (shown_at one.after after.link (ap (λ (x : Outside D (Kinds H) ℕ). x.beside.link.shown) is.start.ends))
        from (subst (λ (s : Option (List ℕ)). IfSome s (λ held. Stands held from)) shown reads)
        command one.command form
        (subst (λ (s : Option (List ℕ)). IfSome s (λ all. StartsBy (Some all) command one.command)) (left_of before.input ∙ ap Some given) is.by) brought

    pub had_or_comes : PartsAreBrought o.outside → IsSlot node part ⊎ Comes
    had_or_comes law = by done.did.asked where
      kept : after.disk ≡ before.disk → IsSlot node part ⊎ Comes
      kept same = inl (subst (λ (n : Node). IsSlot n part) (stays o objects_before objects_after world next crosses meaning node later begins leaves same).same slot)

      of_goes : (command : Command) → IsForm command words → IsStartBy o command done.status objects_before objects_after ⊎ (after.disk ≡ before.disk) → IsSlot node part ⊎ Comes
      of_goes command form (inl is) =
          ⊎_elim (λ had. inl had) (λ brings. inr (comes command form is brings))
          (had_or_brings o objects_before objects_after world next crosses meaning node later begins leaves is.start law part slot)
      of_goes command form (inr same) = kept same

      by : (((command : Command) × IsForm command words) ⊎ ((command : Command) → IsForm command words → ⊥)) → IsSlot node part ⊎ Comes
      by (inl (command, form)) = of_goes command form (goes o (further_of_host disk host clock) done.status objects_before objects_after command (done.did.did command form))
      by (inr none) = kept (done.did.nothing none).untouched.offline.disk

-- ---- a play

module _ {P : Type 0} (program : starters.Ghosts P) (meaning : NodesAreOne) where
  -- a part that a start leaves was there, or it brought it
  abbrev StartsHadOrBring : Type 0
  StartsHadOrBring = (stop : Option StopAt) (words : List (List ℕ)) (input : List ℕ) (world : World) (row : StartRow) (next : World) (start : Starts program stop words input world row next)
      (node later : Node) (part : Part) → HasNoPackage world → Stands world.image node → Stands next.image later → IsSlot later part
      → IsSlot node part ⊎ StartBrings program stop words input world row next start part

  keeps_none : (stop : Option StopAt) (words : List (List ℕ)) (input : List ℕ) (world : World) (row : StartRow) (next : World) → Starts program stop words input world row next
      → HasNoPackage world → HasNoPackage next
  keeps_none None words input world row next start none = ap (λ (w : World). w.server.shelf.packages) start.leaves ∙ none
  keeps_none (Some stop) words input world row next start none = ap (λ (w : World). w.server.shelf.packages) start.leaves ∙ none

  left_by : (stop : Option StopAt) (words : List (List ℕ)) (input : List ℕ) (world : World) (row : StartRow) (next : World) → Starts program stop words input world row next
      → (node : Node) × Stands next.image node
  left_by None words input world row next start = (start.tells.node, start.tells.stands)
  left_by (Some stop) words input world row next start = (start.tells.node, start.tells.stands)

  module _ (of_start : StartsHadOrBring) where
    -- a part that is left was there, or one of the starts brought it
    had_or_plays : (world : World) (steps : List Step) (rows : List StartRow) (last : World) (plays : Plays program world steps rows last) (node later : Node) (part : Part)
        → HasNoPackage world → Stands world.image node → Stands last.image later → IsSlot later part → IsSlot node part ⊎ PlayBrings program world steps rows last plays part
    had_or_plays world [] rows last plays node later part none begins leaves slot =
        inl (subst (λ (n : Node). IsSlot n part) (meaning world.image later node (subst (λ (w : World). Stands w.image later) plays.1 leaves) begins) slot)
    had_or_plays world (Shelf configuration content ∷ steps) rows last (own, more, next, is, takes, plays) node later part none begins leaves slot =
        had_or_plays next steps more last plays node later part (ap (λ (w : World). w.server.shelf.packages) takes.1 ∙ none) (subst (λ (w : World). Stands w.image node) (sym takes.1) begins) leaves slot
    had_or_plays world (Key key ∷ steps) rows last (own, more, next, is, takes, plays) node later part none begins leaves slot =
        had_or_plays next steps more last plays node later part (ap (λ (w : World). w.server.shelf.packages) takes.1 ∙ none) (subst (λ (w : World). Stands w.image node) (sym takes.1) begins) leaves slot
    had_or_plays world (Wants id ∷ steps) rows last (own, more, next, is, takes, plays) node later part none begins leaves slot =
        had_or_plays next steps more last plays node later part (ap (λ (w : World). w.server.shelf.packages) takes.1 ∙ none) (subst (λ (w : World). Stands w.image node) (sym takes.1) begins) leaves slot
    had_or_plays world (Start words input stop ∷ steps) rows last (own, more, next, is, (row, alone, start), plays) node later part none begins leaves slot =
        let after = left_by stop words (input_of input) world row next start in
        ⊎_elim
        (λ had. ⊎_elim (λ before. inl before) (λ brings. inr (inl brings)) (of_start stop words (input_of input) world row next start node after.0 part none begins after.1 had))
        (λ brings. inr (inr brings))
        (had_or_plays next steps more last plays after.0 later part (keeps_none stop words (input_of input) world row next start none) after.1 leaves slot)

    none_at_first : (part : Part) → IsSlot new_node part → ⊥
    none_at_first part slot = ⊎_elim (λ never. never) (λ others. ⊎_elim (λ never. never) (λ never. never) others) slot

    pub parts_are_of_starts : PartsAreOfStarts program
    parts_are_of_starts first steps rows last begins plays node part stands slot =
        ⊎_elim (λ had. absurd (none_at_first part had)) (λ brings. brings)
        (had_or_plays first steps rows last plays new_node node part (ap (λ (shelf : Contents). shelf.packages) begins.server.shelf) (subst (λ (image : List ℕ). Stands image new_node) (sym begins.image) nothing_stands) stands slot)

-- ---- over the forms in memory

module _ {P : Type 0} (link : links.Ghosts rehearsals.Link) (shown_of : (l : rehearsals.Link) → link.shown l ≡ Some l.exchanges) (meaning : NodesAreOne)
    (of_shelf : PulledPartsAreOfTheShelf disk_ghosts shelf_ghosts) (program : starters.Ghosts P) where
  abbrev these : Known (List ℕ) NullSink DiskInMemory (Kinds HostContents) rehearsals.Link ℕ
  these = known reliable_sources.ghosts null_sinks.ghosts disk_ghosts (kinds_of reliable_hosts.ghosts) (machine_of reliable_hosts.ghosts) link fixed_clocks.ghosts

  abbrev those : Known (List ℕ) NullSink DiskToStop (Kinds HostToStop) rehearsals.Link ℕ
  those = known reliable_sources.ghosts null_sinks.ghosts stopped_ghosts (kinds_of stopped_hosts.ghosts) (machine_of stopped_hosts.ghosts) link fixed_clocks.ghosts

  pub parts_in_memory : ((words : List (List ℕ)) (before after : rehearsals.Objects DiskInMemory HostContents) (name : List ℕ)
      → program.does words before after name
      → StartsNode {K = NullSink} reliable_sources.ghosts null_sinks.ghosts disk_ghosts reliable_hosts.ghosts link fixed_clocks.ghosts words before after name)
      → ((words : List (List ℕ)) (before after : rehearsals.Objects DiskToStop HostToStop) (name : List ℕ)
      → program.does_to_stop words before after name
      → StartsNode {K = NullSink} reliable_sources.ghosts null_sinks.ghosts stopped_ghosts stopped_hosts.ghosts link fixed_clocks.ghosts words before after name)
      → EndsCross program → StopsCross program → PartsAreBrought these.outside → PartsAreBrought those.outside → PartsAreOfStarts program
  parts_in_memory does does_to_stop ends_cross stops_cross ends_law stops_law = parts_are_of_starts program meaning of_start where
    of_start : StartsHadOrBring program meaning
    of_start None words input world row next start node later part none begins leaves slot =
        had_or_comes reliable_sources.ghosts null_sinks.ghosts disk_ghosts reliable_hosts.ghosts link fixed_clocks.ghosts (λ s. refl) shown_of meaning of_shelf
        words input start.name start.before start.after world next (does words start.before start.after start.name start.runs.done) (ends_cross words input world row next start)
        start.runs.begins.input start.runs.begins.link start.runs.becomes none node later part begins leaves slot ends_law
    of_start (Some stop) words input world row next start node later part none begins leaves slot =
        had_or_comes reliable_sources.ghosts null_sinks.ghosts stopped_ghosts stopped_hosts.ghosts link fixed_clocks.ghosts (λ s. refl) shown_of meaning of_shelf
        words input start.name start.before start.after world next (does_to_stop words start.before start.after start.name start.runs.done) (stops_cross stop words input world row next start)
        start.runs.begins.input start.runs.begins.link start.runs.becomes none node later part begins leaves slot stops_law
