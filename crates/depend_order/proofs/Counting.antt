-- What the steps of the search for an order are paid from.
use Rattle.std.proofs.Common.{◌≡◌, ℕ, ◌+◌, ◌<◌, ◌≤◌, List, [], ◌∷◌, length, set, take, get_or, refl, sym, ◌∙◌, ap, arith}
use Rattle.std.proofs.lemmas.List.Sums.{count_by-le-length, sum_by-cons, sum_by-set, sum_by-take-le, sum_by_more}
use Rattle.std.proofs.lemmas.Slice.Zip.{AllZip-long}
use Rattle.std.specs.Global.{Vec}
use Rattle.std.specs.Prelude.{nat_eq, slice_index, sum, vec_len}
use Rattle.dsc_document.specs.declared.document.Resource.{Resource}
use Rattle.dsc_document.specs.Dependencies.{Means}
use Rattle.depend_order.specs.Counts.{none_left, zeros}
use Rattle.depend_order.specs.Documents.{names_in}
use Rattle.depend_order.specs.Index.{AreResolved}
use Rattle.depend_order.specs.Numbers.{numbers_in}
use Rattle.depend_order.proofs.Times.{none_not}

-- one count is lowered by one
module _ (waiting : List ℕ) (q left : ℕ) (below : q < length waiting) (one_less : left + 1 ≡ slice_index waiting q) where
  pub sum_lowered : sum (set waiting q left) + 1 ≡ sum waiting
  sum_lowered = omega (arith, sum_by-set (λ (x : ℕ). x) waiting q left 0 below, one_less)

  pub zeros_lowered : zeros (set waiting q left) ≡ zeros waiting + none_left left
  zeros_lowered = omega (arith, sum_by-set none_left waiting q left 0 below, none_not (slice_index waiting q) (omega (arith, one_less)))

pub zeros_more : (waiting : List ℕ) (i : ℕ) → i < length waiting → zeros (take (i + 1) waiting) ≡ zeros (take i waiting) + none_left (slice_index waiting i)
zeros_more waiting i lt = sum_by_more none_left waiting i 0 lt

pub zeros_at_most : (waiting : List ℕ) → zeros waiting ≤ length waiting
zeros_at_most waiting = count_by-le-length (λ (x : ℕ). nat_eq x 0) waiting

-- the names of one resource more
module _ (resources : List Resource) (i : ℕ) (resource : Resource) (lt : i < length resources) (read : resource ≡ get_or resources i resource) where
  pub names_more : names_in (take (i + 1) resources) ≡ names_in (take i resources) + length resource.depends
  names_more = sum_by_more (λ (r : Resource). length r.depends) resources i resource lt ∙ ap (λ (r : Resource). names_in (take i resources) + length r.depends) (sym read)

  pub names_at_most : names_in (take i resources) + length resource.depends ≤ names_in resources
  names_at_most = omega (arith, names_more, sum_by-take-le (λ (r : Resource). length r.depends) resources (i + 1))

-- there is a number for each name
pub numbers_names : (all resources : List Resource) (depends : List (Vec ℕ)) → AreResolved all resources depends → numbers_in depends ≡ names_in resources
numbers_names all [] [] resolved = refl
numbers_names all [] (numbers ∷ depends) resolved = absurd resolved
numbers_names all (resource ∷ resources) [] resolved = absurd resolved
numbers_names all (resource ∷ resources) (numbers ∷ depends) resolved =
    omega (
      arith,
      sum_by-cons (λ (v : Vec ℕ). vec_len v) numbers depends,
      sum_by-cons (λ (r : Resource). length r.depends) resource resources,
      AllZip-long (Means all) resource.depends numbers.items resolved.0,
      numbers.ok,
      numbers_names all resources depends resolved.1,
    )
