-- Where resources were declared.
use Rattle.std.proofs.Common.{◌≡◌, ◌<◌, ℕ, List, length, Option, Some, None, option_map, slice_get, get_or, refl, sym, ap, ◌∙◌}
use Rattle.std.proofs.lemmas.Option.{none-some, slice_get-get_or}
use Rattle.dsc_document.specs.declared.document.Resource.{Resource}
use Rattle.dsc_document.specs.declared.spot.Spot.{Spot}
use Rattle.depend_order.specs.Repeats.{id_at, spot_at, spot_of}

pub spot_here : (resources : List Resource) (n : ℕ) (resource : Resource) → n < length resources → resource ≡ get_or resources n resource
    → spot_at resources n ≡ Some (spot_of resource)
spot_here resources n resource within is =
    ap (option_map spot_of) (slice_get-get_or resources n resource within) ∙ ap (λ r. Some (spot_of r)) (sym is)

-- a place that has an id has a spot
pub spot_is : (resources : List Resource) (n : ℕ) (id : List ℕ) → id_at resources n ≡ Some id → (spot : Spot) × (spot_at resources n ≡ Some spot)
spot_is resources n id is = go (slice_get resources n) refl
  where
    go : (o : Option Resource) → slice_get resources n ≡ o → (spot : Spot) × (spot_at resources n ≡ Some spot)
    go None at = absurd (none-some id (sym (ap (option_map (λ (r : Resource). r.id)) at) ∙ is))
    go (Some resource) at = (spot_of resource, ap (option_map spot_of) at)
