-- A document has at most one first unknown id.
use Rattle.std.proofs.Common.{◌≡◌, ℕ, List, All, sym, ap, subst, ◌∙◌}
use Rattle.dsc_document.specs.declared.document.Document.{Document}
use Rattle.dsc_document.specs.declared.document.Resource.{Resource}
use Rattle.dsc_document.specs.declared.spot.Spot.{Spot}
use Rattle.dsc_document.specs.Dependencies.{DependsOnUnknown, IsFirstUnknownId, IsId, NamesResources}
use Rattle.dsc_document.proofs.Firsts.{at_split, first_once}

module _ (resources : List Resource) where
  -- a resource that depends on what is unknown does not depend on ids alone
  not_known : (resource : Resource) (name : List ℕ) → DependsOnUnknown resources resource name → All (IsId resources) resource.depends → ⊥
  not_known resource name on known = on.unknown (at_split (IsId resources) resource.depends on.known on.rest name on.stands known)

  name_once : (resource : Resource) (one other : List ℕ) → DependsOnUnknown resources resource one → DependsOnUnknown resources resource other → one ≡ other
  name_once resource one other is also =
      first_once (IsId resources) is.known is.rest also.known also.rest one other (sym is.stands ∙ also.stands) is.before also.before is.unknown also.unknown

-- a document with an unknown id has a dependency that is no resource
pub unknown_unknown : (document : Document) (spot : Spot) (name : List ℕ) → IsFirstUnknownId document spot name → NamesResources document → ⊥
unknown_unknown document spot name is known =
    not_known document.resources is.resource name is.depends
    (at_split (λ (r : Resource). All (IsId document.resources) r.depends) document.resources is.known is.rest is.resource is.stands known)

module _ (document : Document) (spot at : Spot) (name other : List ℕ) (is : IsFirstUnknownId document spot name) (also : IsFirstUnknownId document at other) where
  same_resource : is.resource ≡ also.resource
  same_resource =
      first_once (λ (r : Resource). All (IsId document.resources) r.depends) is.known is.rest also.known also.rest is.resource also.resource
      (sym is.stands ∙ also.stands) is.before also.before
      (not_known document.resources is.resource name is.depends) (not_known document.resources also.resource other also.depends)

  abbrev spot_of : Resource → Spot
  spot_of resource = record { part = resource.part; index = resource.index }

  pub one_spot : spot ≡ at
  one_spot = is.at ∙ ap spot_of same_resource ∙ sym also.at

  pub one_unknown : name ≡ other
  one_unknown =
      name_once document.resources also.resource name other
      (subst (λ (r : Resource). DependsOnUnknown document.resources r name) same_resource is.depends) also.depends
