-- What the images of a disk stand for, over any relation of images and values: a store's own definition says which.
use Rattle.std.specs.Prelude.{ℕ, List, IfSome}
use Rattle.dsc_outside.specs.declared.disk.Disk.{Ghosts}
use Rattle.dsc_outside.specs.Disk.{Each, AnyMoment}

-- it stands for a value of which P holds
pub record StandsFor {X : Type 0} (Stands : List ℕ → X → Type 0) (P : X → Type 0) (image : List ℕ) : Type 0 where
  pub value : X
  pub stands : Stands image value
  pub has : P value

-- a crash now may leave an image that stands for this value
pub record StoodFor {D X : Type 0} (d : Ghosts D) (disk : D) (Stands : List ℕ → X → Type 0) (value : X) : Type 0 where
  pub image : List ℕ
  pub there : d.images disk image
  pub stands : Stands image value

abbrev pub Any : {X : Type 0} → X → Type 0
Any value = Unit {0}

-- every image that a crash now may leave stands for a value of which P holds
abbrev pub AllStand : {D X : Type 0} → Ghosts D → D → (List ℕ → X → Type 0) → (X → Type 0) → Type 0
AllStand d disk Stands P = Each (d.images disk) (StandsFor Stands P)

-- every image that a crash at some moment since old might have left does
abbrev pub StandsAtAnyMoment : {D X : Type 0} → Ghosts D → D → D → (List ℕ → X → Type 0) → (X → Type 0) → Type 0
StandsAtAnyMoment d old new Stands P = AnyMoment d.moment d.left_since old new (StandsFor Stands P)

-- the disk reads as an image that stands for this value
abbrev pub ReadsAs : {D X : Type 0} → Ghosts D → D → (List ℕ → X → Type 0) → X → Type 0
ReadsAs d disk Stands value = IfSome (d.shown disk) (λ held. Stands held value)
