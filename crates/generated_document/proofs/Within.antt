-- Generated instances are within the limits of a text.
use Rattle.std.proofs.Common.{◌≡◌, ℕ, zero, suc, ◌+◌, ◌≤◌, List, length, refl, arith}
use Rattle.std.specs.List.{AllByRecursion}
use Rattle.mof_syntax.specs.Limits.{PropertyFits, InstanceFits, IsWithinLimits}
use Rattle.generated_document.specs.Generated.{text_property, dependency, generated_header, generated_instances, generated_resource}
use Rattle.mof_values.specs.declared.limits.TheConstants.{MAX_IDENTIFIER}
use Rattle.dsc_document.specs.declared.limits.TheConstants.{MAX_RESOURCES}

property_fits : (name text : List ℕ) → length name ≤ MAX_IDENTIFIER → PropertyFits (text_property name text)
property_fits name text short = record { name = short; value = tt }

dependency_count : (i : ℕ) → length (dependency i) ≤ 1
dependency_count zero = omega arith
dependency_count (suc i) = omega arith

dependency_fits : (i : ℕ) → AllByRecursion PropertyFits (dependency i)
dependency_fits zero = tt
dependency_fits (suc i) = (record { name = omega arith; value = tt }, tt)

resource_fits : (i : ℕ) → InstanceFits (generated_resource i)
resource_fits i = record {
  class = omega arith;
  alias = tt;
  count = omega (arith, dependency_count i);
  each = (record { name = omega arith; value = tt }, (record { name = omega arith; value = tt }, (record { name = omega arith; value = tt }, dependency_fits i)));
}

header_fits : InstanceFits generated_header
header_fits = record { class = omega arith; alias = tt; count = omega arith; each = (record { name = omega arith; value = tt }, tt) }

pub instances_count : (n : ℕ) → length (generated_instances n) ≡ n + 1
instances_count zero = refl
instances_count (suc i) = omega (arith, instances_count i)

instances_fit : (n : ℕ) → AllByRecursion InstanceFits (generated_instances n)
instances_fit zero = (header_fits, tt)
instances_fit (suc i) = (resource_fits i, instances_fit i)

pub instances_within : (n : ℕ) → n ≤ MAX_RESOURCES → IsWithinLimits (generated_instances n)
instances_within n few = record { count = omega (arith, few, instances_count n); each = instances_fit n }
