-- A start, from the run of the program and what it left.
use Rattle.std.proofs.Common.{◌≡◌, ℕ, ◌+◌, List, Bool, false, refl, ap, ◌∙◌, subst}
use Rattle.std.proofs.lemmas.Option.{same_Some}
use Rattle.dsc_outside.specs.Host.{HostState}
use Rattle.memory_outside.specs.MemoryDisk.{DiskInMemory, held_by}
use Rattle.memory_outside.specs.MemoryHost.{shown_of}
use Rattle.memory_outside.specs.ReliableHost.{shown_by, unfailing}
use Rattle.memory_outside.specs.StoppedDisk.{DiskToStop, is_stopped, left_of}
use Rattle.memory_outside.specs.StoppedHost.{HostToStop}
use Rattle.memory_outside.specs.declared.contents.HostContents.{HostContents}
use Rattle.memory_outside.specs.declared.shared_stop.Turn.TheVariants as turns
use Rattle.pull_outside.specs.Shelf.{Contents}
use Rattle.pull_serving.specs.ServerLink.{Becomes}
use Rattle.resource_kinds.specs.Kinds.{host_of}
use Rattle.rehearsal.specs.Living.{HasRun, IsBetween, left_world, world_of}
use Rattle.rehearsal.specs.Objects.{Link, disk_ghosts, shelf_ghosts}
use Rattle.rehearsal.specs.Playing.{Ends, EndsOrStops, HasUnfailed, disk_part, host_part}
use Rattle.rehearsal.specs.Rows.{IsRow, ending_of}
use Rattle.rehearsal.specs.World.{HasLasted, World, after_start, link_to}
use Rattle.rehearsal.specs.declared.row.Ending.{Ending}
use Rattle.rehearsal.specs.declared.row.Ending.TheVariants.{Named}
use Rattle.rehearsal.specs.declared.row.StartRow.{StartRow}
use Rattle.rehearsal.specs.declared.server.Server.{Server}
use Rattle.rehearsal.specs.declared.starter.Starter as starters
use Rattle.rehearsal.specs.declared.step.StopPart.{StopPart}
use Rattle.rehearsal.specs.declared.world.LiveWorld.{LiveWorld}

abbrev with_store : List ℕ → HostState → Link → ℕ → Contents → World
with_store image host link number shelf = record { image = image; host = host; server = record { store = link.store; disk = link.disk; shelf = shelf }; starts = number }

-- a start leaves the shelf
left_is : (image : List ℕ) (host : HostState) (number : ℕ) (world : World) (link before after : Link) → link ≡ after → number ≡ world.starts + 1 → before ≡ link_to world.server
    → Becomes disk_ghosts shelf_ghosts before after → left_world image host link number ≡ after_start image host after world
left_is image host number world link before after same next begins becomes =
    ap (λ (l : Link). left_world image host l number) same
    ∙ ap (λ (n : ℕ). left_world image host after n) next
    ∙ ap (with_store image host after (world.starts + 1)) (same_Some _ _ becomes.shelf ∙ ap (λ (l : Link). l.shelf) begins)

module _ {S : Type 0} (program : starters.Ghosts S) (words given : List (List ℕ)) (text input : List ℕ) (live : LiveWorld) (number : ℕ) (name : List ℕ) (link : Link) (next : World) (row : StartRow)
    (between : IsBetween live) (same : given ≡ words) (copied : input ≡ text) (counts : number ≡ live.starts + 1) (served : HasLasted link.disk) where
  pub ends : (disk : DiskInMemory) (host : HostContents) (ending : Ending) → HasRun program.does given input live.disk live.host live.server number name disk host link → HasLasted disk
      → next ≡ left_world (held_by disk) (shown_by host) link number → ending ≡ Named name → IsRow ending next row → Ends program words text (world_of live) row next
  ends disk host ending run lasted is named tells = record {
    before = run.before;
    after = run.after;
    name = name;
    runs = record {
      begins = record {
        input = run.runs.begins.input ∙ copied;
        disk = run.runs.begins.disk ∙ between.fresh;
        host = ap shown_by run.runs.begins.host;
        unasked = run.runs.begins.unasked;
        link = run.runs.begins.link;
        clock = run.runs.begins.clock ∙ counts;
      };
      done = subst (λ (w : List (List ℕ)). program.does w run.before run.after name) same run.runs.done;
      becomes = run.runs.becomes;
    };
    disk = subst HasLasted run.disk_is lasted;
    server = subst (λ (l : Link). HasLasted l.disk) run.link_is served;
    leaves = is
        ∙ ap (λ (d : DiskInMemory). left_world (held_by d) (shown_by host) link number) run.disk_is
        ∙ ap (λ (h : HostContents). left_world (held_by run.after.disk) (shown_by h) link number) run.host_is
        ∙ left_is (held_by run.after.disk) (shown_by (host_of run.after.machine)) number (world_of live) link run.before.link run.after.link run.link_is counts run.runs.begins.link run.runs.becomes;
    tells = subst (λ (e : Ending). IsRow e next row) named tells;
  }

  -- what holds of the disk and the machine after a start that was to stop
  record HasLeft (part : StopPart) (disk : DiskToStop) (host : HostToStop) : Type 0 where
    of_disk : disk.disk.short ≡ false
    of_host : host.host.short ≡ false
    unstopped : is_stopped disk host ≡ false → HasUnfailed disk host
    leaves : next ≡ left_world (left_of disk host (disk_part part)) (shown_of host.host) link number
    tells : IsRow (ending_of (is_stopped disk host) name) next row

  pub ends_or_stops : (part : StopPart) (server : Server) (fresh disk : DiskToStop) (machine host : HostToStop) (ending : Ending) (stopped : Bool)
      → server ≡ live.server
      → fresh ≡ record { disk = live.disk; turn = turns.Before }
      → machine ≡ record { host = unfailing live.host; done = host_part part; turn = turns.Before }
      → HasRun program.does_to_stop given input fresh machine server number name disk host link
      → disk.disk.short ≡ false → host.host.short ≡ false
      → stopped ≡ is_stopped disk host → (stopped ≡ false → HasUnfailed disk host)
      → next ≡ left_world (left_of disk host (disk_part part)) (shown_of host.host) link number
      → ending ≡ ending_of stopped name → IsRow ending next row → EndsOrStops program part words text (world_of live) row next
  ends_or_stops part server fresh disk machine host ending stopped of begins asked run whole lasted come unfailed is named tells =
      let left : HasLeft part disk host = record {
        of_disk = whole;
        of_host = lasted;
        unstopped = λ not. unfailed (come ∙ not);
        leaves = is;
        tells = subst (λ (e : Ending). IsRow e next row) (named ∙ ap (λ (b : Bool). ending_of b name) come) tells;
      } in
      let after = subst (λ (h : HostToStop). HasLeft part run.after.disk h) run.host_is (subst (λ (d : DiskToStop). HasLeft part d host) run.disk_is left) in
      record {
        before = run.before;
        after = run.after;
        name = name;
        runs = record {
          begins = record {
            input = run.runs.begins.input ∙ copied;
            disk = run.runs.begins.disk ∙ begins ∙ ap (λ (d : DiskInMemory). record { disk = d; turn = turns.Before }) between.fresh;
            host = (live.host, refl, run.runs.begins.host ∙ asked);
            unasked = run.runs.begins.unasked;
            link = run.runs.begins.link ∙ ap link_to of;
            clock = run.runs.begins.clock ∙ counts;
          };
          done = subst (λ (w : List (List ℕ)). program.does_to_stop w run.before run.after name) same run.runs.done;
          becomes = run.runs.becomes;
        };
        disk = after.of_disk;
        host = after.of_host;
        unstopped = after.unstopped;
        server = subst (λ (l : Link). HasLasted l.disk) run.link_is served;
        leaves = after.leaves
            ∙ left_is (left_of run.after.disk (host_of run.after.machine) (disk_part part)) (shown_of (host_of run.after.machine).host) number (world_of live) link run.before.link run.after.link run.link_is counts
            (run.runs.begins.link ∙ ap link_to of) run.runs.becomes;
        tells = after.tells;
      }
