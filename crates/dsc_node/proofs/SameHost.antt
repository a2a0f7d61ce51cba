-- What a host holds is no matter of which resources want a reboot.
use Rattle.std.proofs.Common.{◌≡◌, ℕ, Bool, not, cond, List, [], ◌∷◌, length, Option, Some, None, refl, ap, arith}
use Rattle.std.specs.Prelude.{count_by}
use Rattle.std.proofs.lemmas.List.Sums.{sum_by-cons}
use Rattle.dsc_terms.specs.Lists.{places_below}
use Rattle.dsc_outside.specs.Host.{HostState}
use Rattle.dsc_document.specs.declared.document.Document.{Document}
use Rattle.resource_kinds.specs.declared.wanted.Wanted.{Wanted}
use Rattle.resource_kinds.specs.declared.wanted.Wanted.TheVariants as wants
use Rattle.resource_kinds.specs.Apart.{wanted_at}
use Rattle.resource_kinds.specs.Documents.{Clear}
use Rattle.resource_kinds.specs.Holding.{holds, is_held, unheld}
use Rattle.resource_kinds.specs.Holds.{InTheWay}

abbrev one_if : Bool → ℕ
one_if passes = cond passes 1 0

module _ (host : HostState) (wanting : List (List ℕ)) where
  abbrev other : HostState
  other = record host { wanting = wanting }

  holds_stays : (wanted : Wanted) → holds other wanted ≡ holds host wanted
  holds_stays (wants.File path None) = refl
  holds_stays (wants.File path (Some contents)) = refl
  holds_stays (wants.Folder path) = refl
  holds_stays (wants.NoFile path) = refl
  holds_stays (wants.NoFolder path forced) = refl
  holds_stays (wants.Variable name value) = refl
  holds_stays (wants.Entries name value) = refl
  holds_stays (wants.NoVariable name) = refl
  holds_stays (wants.NoEntries name value) = refl
  holds_stays (wants.Logged id message) = refl

  held_stays : (wanted : Option Wanted) → is_held other wanted ≡ is_held host wanted
  held_stays None = refl
  held_stays (Some wanted) = holds_stays wanted

  count_stays : (document : Document) (places : List ℕ)
      → count_by (λ r. not (is_held other (wanted_at document r))) places ≡ count_by (λ r. not (is_held host (wanted_at document r))) places
  count_stays document [] = refl
  count_stays document (r ∷ places) =
      let one = λ (h : HostState) (place : ℕ). one_if (not (is_held h (wanted_at document place))) in
      omega (arith, sum_by-cons (one other) r places, sum_by-cons (one host) r places, ap (λ (b : Bool). one_if (not b)) (held_stays (wanted_at document r)), count_stays document places)

  pub same_unheld : (document : Document) → unheld other document ≡ unheld host document
  same_unheld document = count_stays document (places_below (length document.resources))

  way_stays : (wanted : Wanted) → InTheWay other wanted → InTheWay host wanted
  way_stays (wants.File path contents) way = way
  way_stays (wants.Folder path) way = way
  way_stays (wants.NoFile path) way = way
  way_stays (wants.NoFolder path forced) way = way
  way_stays (wants.Variable name value) way = way
  way_stays (wants.Entries name value) way = way
  way_stays (wants.NoVariable name) way = way
  way_stays (wants.NoEntries name value) way = way
  way_stays (wants.Logged id message) way = way

  pub still_clear : (document : Document) → Clear host document → Clear other document
  still_clear document clear r wanted is way = clear r wanted is (way_stays wanted way)
