-- The first name that stands twice. Names compare by fold.
use Rattle.std.specs.Prelude.{◌≡◌, ℕ, List, Option, Some, option_map, slice_get, ⊤}
use Rattle.dsc_document.specs.Names.{ShareName}
use Rattle.dsc_document.specs.Rules.{StandsBefore}
use Rattle.dsc_document.specs.declared.document.Resource.{Resource}
use Rattle.dsc_document.specs.declared.spot.Spot.{Spot}
use Rattle.depend_order.specs.declared.error.InOrderError.{InOrderError}
use Rattle.depend_order.specs.declared.error.InOrderError.TheVariants.{DuplicateId, Memory}

-- two places have the same name: of all such pairs the one with the least second place, and then with the least first
pub record IsFirstRepeat (name_at : ℕ → Option (List ℕ)) (first second : ℕ) : Type 0 where
  pub repeats : ShareName name_at first second
  pub earliest : (i j : ℕ) → StandsBefore (j, i) (second, first) → ShareName name_at i j → ⊥

abbrev pub id_at : List Resource → ℕ → Option (List ℕ)
id_at resources place = option_map (λ resource. resource.id) (slice_get resources place)

-- where a resource was declared
abbrev pub spot_of : Resource → Spot
spot_of resource = record { part = resource.part; index = resource.index }

abbrev pub spot_at : List Resource → ℕ → Option Spot
spot_at resources place = option_map spot_of (slice_get resources place)

-- the first two resources with the same id were declared at these spots
pub record IsFirstRepeatedId (resources : List Resource) (first second : Spot) : Type 0 where
  pub earlier : ℕ
  pub later : ℕ
  pub repeats : IsFirstRepeat (id_at resources) earlier later
  pub first_is : spot_at resources earlier ≡ Some first
  pub second_is : spot_at resources later ≡ Some second

-- the refusal names the first two resources with the same id, or is out of memory
abbrev pub IsRepeatedId : List Resource → InOrderError → Type 0
IsRepeatedId resources (DuplicateId first second) = IsFirstRepeatedId resources first second
IsRepeatedId resources Memory = ⊤
IsRepeatedId resources _ = ⊥
