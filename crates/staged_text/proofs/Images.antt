-- What the bytes of a store show, and the disk that holds them.
use Rattle.std.proofs.Common.{◌≡◌, ℕ, List, refl, sym, ap, ◌∙◌, subst, arith}
use Rattle.std.specs.Prelude.{Option, Some, None, IfSome, Result, Ok, Err, IfOk, IfErr}
use Rattle.dsc_terms.specs.Counts.{Rose}
use Rattle.dsc_outside.specs.declared.disk.Disk as disks
use Rattle.memory_outside.specs.MemoryDisk.{DiskInMemory, held_by}
use Rattle.memory_outside.specs.ReliableDisk.{fresh_disk}
use Rattle.memory_outside.specs.contracts.reliable_disk.ReliableDiskDisk.TheImpl as reliable_disks
use Rattle.node_state.specs.declared.event.Stage.{Stage}
use Rattle.node_state.specs.declared.node.Node.{Node}
use Rattle.node_store.specs.Stands.{FailsAt, Stands}
use Rattle.node_store.specs.Store.{Unopened}
use Rattle.node_store.specs.declared.error.StoreError.{StoreError}
use Rattle.node_store.specs.declared.error.StoreError.TheVariants as errors
use Rattle.staged_text.specs.declared.ending.Unshown.{Unshown}
use Rattle.staged_text.specs.declared.ending.Unshown.TheVariants.{DiskFault, NotAStore, Empty, Memory}
use Rattle.staged_text.specs.Endings.{IsUnread, IsUnshown}
use Rattle.staged_text.specs.Texts.{HasNoText, ShowsNothing, unopened}

pub of_whole : (shown : Option (List ℕ)) (image : List ℕ) (P : List ℕ → Type 0) → IfSome shown (λ held. image ≡ held) → P image → IfSome shown P
of_whole None image P is has = tt
of_whole (Some held) image P is has = subst P is has

for_any : (shown : Option (List ℕ)) (P : List ℕ → Type 0) → ((held : List ℕ) → P held) → IfSome shown P
for_any None P all = tt
for_any (Some held) P all = all held

module _ {D : Type 0} (d : disks.Ghosts D) (stage : Stage) (old new : D) where
  pub unread : (why : Unshown) → IsUnread (Rose (d.faults old) (d.faults new)) why → IsUnshown d stage old new why
  unread DiskFault rose = rose
  unread Memory lacked = for_any (d.shown old) (λ image. ShowsNothing stage image Memory) (λ image. tt)
  unread Empty never = absurd never
  unread (NotAStore at) never = absurd never

  pub shows_nothing : (image : List ℕ) (why : Unshown) → IfSome (d.shown old) (λ held. image ≡ held) → ShowsNothing stage image why → IsUnshown d stage old new why
  shows_nothing image DiskFault is never = absurd never
  shows_nothing image Memory is nothing = of_whole (d.shown old) image (λ held. ShowsNothing stage held Memory) is nothing
  shows_nothing image Empty is nothing = of_whole (d.shown old) image (λ held. ShowsNothing stage held Empty) is nothing
  shows_nothing image (NotAStore at) is nothing = of_whole (d.shown old) image (λ held. ShowsNothing stage held (NotAStore at)) is nothing

-- a node that has no text at the stage
pub of_node : (stage : Stage) (image : List ℕ) (node : Node) (why : Unshown) → Stands image node → HasNoText stage node why → ShowsNothing stage image why
of_node stage image node DiskFault stands never = absurd never
of_node stage image node (NotAStore at) stands never = absurd never
of_node stage image node Empty stands none = (node, stands, none)
of_node stage image node Memory stands lacked = tt

-- a store that was not opened in a copy of the bytes
pub of_opening : (stage : Stage) (image : List ℕ) (disk now : DiskInMemory) (error : StoreError) → disk ≡ fresh_disk image → now.count.faults ≡ 0
    → Unopened reliable_disks.ghosts disk now error → ShowsNothing stage image (unopened error)
of_opening stage image disk now errors.Disk is lasted rose = absurd (omega (arith, rose, ap (λ (d : DiskInMemory). d.count.faults) is, lasted))
of_opening stage image disk now (errors.NotAStore at) is lasted cause = subst (λ (l : List ℕ). FailsAt l at) (ap held_by is) cause.fails
of_opening stage image disk now errors.Memory is lasted cause = tt
of_opening stage image disk now errors.Spent is lasted cause = absurd cause
of_opening stage image disk now (errors.NotAllowed why) is lasted cause = absurd cause

-- the node that was found stands for the bytes of which the copy was made
pub stands_for : (image : List ℕ) (disk : DiskInMemory) (found node : Node) → disk ≡ fresh_disk image → Stands (held_by disk) found → node ≡ found → Stands image node
stands_for image disk found node is stands same =
    subst (λ (n : Node). Stands image n) (sym same) (subst (λ (l : List ℕ). Stands l found) (ap held_by is) stands)

module _ {A E : Type 0} where
  pub where_ok : (result : Result A E) (P Q : A → Type 0) → ((a : A) → P a → Q a) → IfOk result P → IfOk result Q
  where_ok (Ok a) P Q to has = to a has
  where_ok (Err e) P Q to has = tt

  pub where_err : (result : Result A E) (P Q : E → Type 0) → ((e : E) → P e → Q e) → IfErr result P → IfErr result Q
  where_err (Ok a) P Q to has = tt
  where_err (Err e) P Q to has = to e has
