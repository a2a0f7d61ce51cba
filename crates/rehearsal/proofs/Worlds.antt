-- What the images of the disks stand for between two starts.
use Rattle.std.proofs.Common.{◌≡◌, inl, ℕ, List, [], ◌∷◌, length, refl, sym, ap, ◌∙◌, subst, arith}
use Rattle.std.proofs.lemmas.Option.{same_Some}
use Rattle.dsc_outside.specs.Disk.{Each, Only}
use Rattle.dsc_outside.specs.Images.{IsImage, settled}
use Rattle.gate_log.specs.Standing.{Any, ReadsAs, StandsFor}
use Rattle.gate_log.specs.Text.{Gives, fresh, text}
use Rattle.memory_outside.specs.HonestDisk.{disk_is_honest}
use Rattle.memory_outside.specs.MemoryDisk.{DiskInMemory, exposed_bytes, held_by, images_of}
use Rattle.memory_outside.specs.ReliableDisk.{fresh_disk}
use Rattle.node_state.specs.Table.{new_node}
use Rattle.node_state.specs.declared.node.Node.{Node}
use Rattle.node_store.specs.Laws.{FailingStandForNone}
use Rattle.node_store.specs.Stands.{FailsAt, LeadsInFull, Stands}
use Rattle.node_store.specs.Store.{Unopened}
use Rattle.node_store.specs.declared.error.StoreError.{StoreError}
use Rattle.node_store.specs.declared.error.StoreError.TheVariants as errors
use Rattle.pull_store.specs.Stands as rows
use Rattle.pull_store.specs.declared.row.Row.{Row}
use Rattle.rehearsal.specs.Objects.{disk_ghosts}
use Rattle.rehearsal.specs.World.{HasLasted}
use Rattle.dsc_terms.specs.Counts.{Rose}

-- the image of no bytes stands for a new node
pub nothing_stands : Stands [] new_node
nothing_stands =
    let leads : LeadsInFull [] new_node = record { front = []; events = []; first = new_node; is = refl; builds = refl; steps = refl; pieces = tt; ranges = tt } in
    record { bodies = []; gives = fresh (omega arith); leads = inl leads }

new_stands : StandsFor Stands Any []
new_stands = record { value = new_node; stands = nothing_stands; has = tt }

no_bytes : (c : List ℕ) → IsImage (settled []) c → c ≡ []
no_bytes [] image = refl
no_bytes (byte ∷ c) image = absurd (omega (arith, image.no_longer))

pub first_stands : (disk : DiskInMemory) → disk ≡ fresh_disk [] → Each (images_of disk) (StandsFor Stands Any)
first_stands disk is c image =
    subst (λ (l : List ℕ). StandsFor Stands Any l) (sym (no_bytes c (subst (λ (d : DiskInMemory). images_of d c) is image))) new_stands

-- where what a read gives is the one image
pub only_stands : (disk : DiskInMemory) → Only (exposed_bytes disk) (images_of disk) → StandsFor Stands Any (held_by disk) → Each (images_of disk) (StandsFor Stands Any)
only_stands disk only stands c image = subst (λ (l : List ℕ). StandsFor Stands Any l) (same_Some _ _ (only c image)) stands

pub held_stands : (disk : DiskInMemory) → Each (images_of disk) (StandsFor Stands Any) → (node : Node) × Stands (held_by disk) node
held_stands disk all = let s = all (held_by disk) (disk_is_honest disk (held_by disk) refl) in (s.value, s.stands)

rows_of_none : (image : List ℕ) (bodies : List (List ℕ)) (after : List Row) → image ≡ [] → Gives rows.pull_shape image bodies → rows.Replays [] bodies after → after ≡ []
rows_of_none image bodies after none (fresh small) replays = replays
rows_of_none image bodies after none (text second closed given long is) replays = absurd (omega (arith, long, ap length none))

-- a server's disk of no bytes reads as no rows
pub no_rows : (disk : DiskInMemory) (bytes : List ℕ) (after : List Row) → disk ≡ fresh_disk bytes → bytes ≡ [] → ReadsAs disk_ghosts disk rows.Stands after → after ≡ []
no_rows disk bytes after is none stands = rows_of_none (held_by disk) stands.bodies after (ap held_by is ∙ none) stands.gives stands.leads

-- a disk that has lasted, and that stands for a node, is opened but for memory
module _ (none : FailingStandForNone) (disk now : DiskInMemory) (bytes image : List ℕ) (is : disk ≡ fresh_disk bytes) (copied : bytes ≡ image) (lasted : HasLasted now) (known : (node : Node) × Stands image node) where
  not_risen : Rose disk.count.faults now.count.faults → ⊥
  not_risen rose = absurd (omega (arith, rose, ap (λ (d : DiskInMemory). d.count.faults) is, lasted.unfailed))

  not_failing : (at : ℕ) → FailsAt (held_by disk) at → ⊥
  not_failing at fails = none image at known.0 (subst (λ (l : List ℕ). FailsAt l at) (ap held_by is ∙ copied) fails) known.1

  pub only_memory : (error : StoreError) → Unopened disk_ghosts disk now error → error ≡ errors.Memory
  only_memory errors.Spent cause = absurd cause
  only_memory (errors.NotAllowed why) cause = absurd cause
  only_memory errors.Disk cause = absurd (not_risen cause)
  only_memory (errors.NotAStore at) cause = absurd (not_failing at cause.fails)
  only_memory errors.Memory cause = refl
