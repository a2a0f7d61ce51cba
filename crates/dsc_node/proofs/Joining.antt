-- Starts of one node in a row.
use Rattle.std.proofs.Common.{◌≡◌, ◌⊎◌, inl, inr, ⊎_elim, ℕ, ◌≤◌, List, [], ◌∷◌, Some, None, sym, subst, ◌∙◌}
use Rattle.gate_log.specs.Standing.{AllStand, Any, ReadsAs, StandsAtAnyMoment, StandsFor, StoodFor}
use Rattle.partial_merge.specs.declared.part.Part.{Part}
use Rattle.node_state.specs.declared.node.Node.{Node}
use Rattle.node_state.specs.Slots.{IsSlot}
use Rattle.node_store.specs.Stands.{Stands}
use Rattle.node_store.proofs.Meaning.{one_node}
use Rattle.dsc_node.specs.declared.command.Command.{Command}
use Rattle.dsc_node.specs.declared.status.Status.{Status}
use Rattle.dsc_node.specs.Commits.{all_of}
use Rattle.dsc_node.specs.Headline.{HasHeadline, IsBrought, WasThere}
use Rattle.dsc_node.specs.Path.{IsOnTheWay}
use Rattle.dsc_node.specs.Start.{Outside, Start, opened, refused, unopened}
use Rattle.dsc_node.specs.Starts.{BeginsWhole, Brings, Finds, FindsPart, FindsWhatIsRead, GoesBefore, IsExposed, IsLeftAnywhere, Leaves, LeavesImage, MayLeave, OneStart, PartsAreBrought, SomeBrings, StartsGoOn, StartsJoin}
use Rattle.dsc_node.specs.Work.{Known}

-- of an image that stands for a value with P, the node has P
pub has_it : (P : Node → Type 0) (image : List ℕ) (node : Node) → StandsFor Stands P image → Stands image node → P node
has_it P image node it stands = subst P (one_node image it.value node it.stands stands) it.has

pub or_later : {A B C : Type 0} → A ⊎ B → A ⊎ (B ⊎ C)
or_later (inl a) = inl a
or_later (inr b) = inr (inl b)

module _ {D S C : Type 0} (o : Known D S C) (counts_now : (disk : D) (t : ℕ) (c : List ℕ) → t ≤ o.disk.moment disk → o.disk.images disk c → o.disk.left_since disk t c)
    (only_now : (disk : D) (c : List ℕ) → o.disk.left_since disk (o.disk.moment disk) c → o.disk.images disk c)
    (honest : (disk : D) (held : List ℕ) → o.disk.shown disk ≡ Some held → o.disk.images disk held) where
  -- what holds at any moment holds of each image that is left
  at_any : (old now : D) (P : Node → Type 0) (image : List ℕ) → StandsAtAnyMoment o.disk old now Stands P → o.disk.left_since now (o.disk.moment old) image ⊎ o.disk.images now image
      → StandsFor Stands P image
  at_any old now P image moments (inl left) = moments.each image left
  at_any old now P image moments (inr there) = moments.each image (counts_now now (o.disk.moment old) image moments.later there)

  -- where nothing was called, an image that is left was there
  untouched : (disk : D) (image : List ℕ) → o.disk.left_since disk (o.disk.moment disk) image ⊎ o.disk.images disk image → o.disk.images disk image
  untouched disk image (inl left) = only_now disk image left
  untouched disk image (inr there) = there

  stood : (disk : D) (image : List ℕ) → AllStand o.disk disk Stands Any → o.disk.images disk image → StandsFor Stands (StoodFor o.disk disk Stands) image
  stood disk image all there =
      let s = all image there in
      record { value = s.value; stands = s.stands; has = record { image = image; there = there; stands = s.stands } }

  -- ---- one start

  -- each image that is left at some moment stands for a node that the start may leave
  may_leave : (command : Command) (before after : Outside D S C) (status : Status) (lines : List ℕ) (start : Start o command before after status lines) → AllStand o.disk before.disk Stands Any
      → (image : List ℕ) → o.disk.left_since after.disk (o.disk.moment before.disk) image ⊎ o.disk.images after.disk image
      → StandsFor Stands (MayLeave o command before after status lines start) image
  may_leave command before after status lines (refused error unmerged same ends) all image left =
      stood before.disk image all
      (untouched before.disk image (subst (λ (x : Outside D S C). o.disk.left_since x.disk (o.disk.moment before.disk) image ⊎ o.disk.images x.disk image) same left))
  may_leave command before after status lines (unopened plan error is count cause quiet moments ends) all image left =
      at_any before.disk after.disk (StoodFor o.disk before.disk Stands) image (moments all) left
  may_leave command before after status lines (opened s) all image left =
      at_any before.disk after.disk (IsOnTheWay o.disk before.disk s.from (all_of s.ended.committed s.ended.broken)) image (s.ended.passes all) left

  -- each image at its end stands for a node that it leaves
  pub leaves : (command : Command) (before after : Outside D S C) (status : Status) (lines : List ℕ) (start : Start o command before after status lines) → AllStand o.disk before.disk Stands Any
      → (image : List ℕ) → o.disk.images after.disk image → StandsFor Stands (Leaves o command before after status lines start) image
  leaves command before after status lines (refused error unmerged same ends) all image there =
      stood before.disk image all (subst (λ (x : Outside D S C). o.disk.images x.disk image) same there)
  leaves command before after status lines (unopened plan error is count cause quiet moments ends) all image there =
      at_any before.disk after.disk (StoodFor o.disk before.disk Stands) image (moments all) (inr there)
  leaves command before after status lines (opened s) all image there = s.ended.left image there

  pub left_anywhere : (one : OneStart o) → BeginsWhole o one → (image : List ℕ) → LeavesImage o one image
      → StandsFor Stands (MayLeave o one.command one.before one.after one.status one.lines one.start) image
  left_anywhere one whole image left = may_leave one.command one.before one.after one.status one.lines one.start whole image left

  -- ---- two starts

  begins_whole : (one next : OneStart o) → BeginsWhole o one → GoesBefore o one next → BeginsWhole o next
  begins_whole one next whole goes image there =
      let s = left_anywhere one whole image (goes image there) in
      record { value = s.value; stands = s.stands; has = tt }

  finds_one_left : (one next : OneStart o) → BeginsWhole o one → GoesBefore o one next → (node : Node) → Finds o next node → IsLeftAnywhere o one node
  finds_one_left one next whole goes node found =
      has_it (MayLeave o one.command one.before one.after one.status one.lines one.start) found.image node (left_anywhere one whole found.image (goes found.image found.there)) found.stands

  pub starts_go_on : StartsGoOn o
  starts_go_on one next whole goes = (begins_whole one next whole goes, finds_one_left one next whole goes)

  pub starts_join : StartsJoin o
  starts_join one next whole ends node found =
      has_it (Leaves o one.command one.before one.after one.status one.lines one.start) found.image node
      (leaves one.command one.before one.after one.status one.lines one.start whole found.image (ends found.image found.there)) found.stands

  pub finds_what_is_read : FindsWhatIsRead o
  finds_what_is_read one held node shown stands = record { image = held; there = honest one.before.disk held shown; stands = stands }

  -- ---- a list of starts

  -- the part was there, where the disk is shown
  found_part : (begin : D) → ((held : List ℕ) × (o.disk.shown begin ≡ Some held)) → (from : Node) (part : Part) → WasThere o.disk begin from part
      → (node : Node) × StoodFor o.disk begin Stands node × IsSlot node part
  found_part begin exposed from part (node, inl found, slot) = (node, found, slot)
  found_part begin exposed from part (node, inr (hidden, same), slot) = absurd (let no : Some exposed.0 ≡ None = sym exposed.1 ∙ hidden in cc no)

  -- a part of a node that one start may leave
  of_one : (command : Command) (before after : Outside D S C) (status : Status) (lines : List ℕ) (start : Start o command before after status lines) → HasHeadline o command before after status lines
      → ((held : List ℕ) × (o.disk.shown before.disk ≡ Some held)) → (node : Node) (part : Part) → MayLeave o command before after status lines start node → IsSlot node part
      → ((found : Node) × StoodFor o.disk before.disk Stands found × IsSlot found part)
      ⊎ ((read : Node) × ReadsAs o.disk before.disk Stands read × IsBrought command read before.beside.link after.beside.link part)
  of_one command before after status lines (refused error unmerged same ends) headline exposed node part found slot = inl (node, found, slot)
  of_one command before after status lines (unopened plan error is count cause quiet moments ends) headline exposed node part found slot = inl (node, found, slot)
  of_one command before after status lines (opened s) headline exposed node part way slot =
      ⊎_elim (λ there. inl (found_part before.disk exposed s.from part there)) (λ brought. inr (s.from, s.reads, brought)) ((headline s).parts_are_as_brought node part way slot)

  -- and of an image that it leaves
  pub of_image : (one : OneStart o) → IsExposed o one → BeginsWhole o one → (image : List ℕ) (node : Node) (part : Part) → LeavesImage o one image → Stands image node → IsSlot node part
      → FindsPart o one part ⊎ Brings o one part
  of_image one exposed whole image node part left stands slot =
      of_one one.command one.before one.after one.status one.lines one.start one.headline exposed node part
      (has_it (MayLeave o one.command one.before one.after one.status one.lines one.start) image node (left_anywhere one whole image left) stands) slot

  -- what the next start finds, this one found or brought
  of_next : (one next : OneStart o) (starts : List (OneStart o)) (part : Part) → IsExposed o one → BeginsWhole o one → GoesBefore o one next → FindsPart o next part ⊎ SomeBrings o next starts part
      → FindsPart o one part ⊎ SomeBrings o one (next ∷ starts) part
  of_next one next starts part exposed whole goes (inl (node, found, slot)) =
      or_later (of_image one exposed whole found.image node part (goes found.image found.there) found.stands slot)
  of_next one next starts part exposed whole goes (inr some) = inr (inr some)

  pub parts_are_brought : PartsAreBrought o
  parts_are_brought one [] exposed whole row image node part left stands slot = of_image one exposed.0 whole image node part left stands slot
  parts_are_brought one (next ∷ starts) exposed whole row image node part left stands slot =
      of_next one next starts part exposed.0 whole row.0
      (parts_are_brought next starts exposed.1 (begins_whole one next whole row.0) row.1 image node part left stands slot)
