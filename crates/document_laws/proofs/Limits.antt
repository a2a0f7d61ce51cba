-- Whether instances are within the limits of a text is decided.
use Rattle.std.proofs.Common.{inl, ℕ, List, length}
use Rattle.mof_values.specs.declared.instance.Instance.{Instance}
use Rattle.mof_values.specs.declared.instance.Property.{Property}
use Rattle.mof_values.specs.declared.value.Scalar.{Scalar}
use Rattle.mof_values.specs.declared.value.Scalar.TheVariants as scalars
use Rattle.mof_values.specs.declared.value.Value.{Value}
use Rattle.mof_values.specs.declared.value.Value.TheVariants.{One, Many}
use Rattle.mof_syntax.specs.Limits.{IsShortName, IsWithinLimits, InstanceFits, PropertyFits, ScalarFits, ValueFits, elements_limit, greatest_integer, identifier_limit, instances_limit, least_integer, properties_limit}
use Rattle.document_laws.proofs.Decided.{Decided, all_decided, at_most_decided, both_decided, decided_as, if_some_decided, integer_at_most_decided}

short_decided : (name : List ℕ) → Decided (IsShortName name)
short_decided name = at_most_decided (length name) identifier_limit

scalar_decided : (scalar : Scalar) → Decided (ScalarFits scalar)
scalar_decided (scalars.Text text) = inl tt
scalar_decided (scalars.Integer z) = both_decided (integer_at_most_decided least_integer z) (integer_at_most_decided z greatest_integer)
scalar_decided (scalars.Bool b) = inl tt
scalar_decided scalars.Null = inl tt
scalar_decided (scalars.Alias name) = short_decided name

value_decided : (value : Value) → Decided (ValueFits value)
value_decided (One scalar) = scalar_decided scalar
value_decided (Many scalars) = both_decided (at_most_decided (length scalars) elements_limit) (all_decided ScalarFits scalar_decided scalars)

property_decided : (property : Property) → Decided (PropertyFits property)
property_decided property =
    decided_as (both_decided (short_decided property.name) (value_decided property.value))
    (λ fits. record { name = fits.0; value = fits.1 }) (λ fits. (fits.name, fits.value))

instance_decided : (instance : Instance) → Decided (InstanceFits instance)
instance_decided instance =
    decided_as
    (both_decided (short_decided instance.class) (both_decided (if_some_decided IsShortName short_decided instance.alias)
    (both_decided (at_most_decided (length instance.properties) properties_limit) (all_decided PropertyFits property_decided instance.properties))))
    (λ fits. record { class = fits.0; alias = fits.1.0; count = fits.1.1.0; each = fits.1.1.1 }) (λ fits. (fits.class, (fits.alias, (fits.count, fits.each))))

pub limits_decided : (instances : List Instance) → Decided (IsWithinLimits instances)
limits_decided instances =
    decided_as (both_decided (at_most_decided (length instances) instances_limit) (all_decided InstanceFits instance_decided instances))
    (λ within. record { count = within.0; each = within.1 }) (λ within. (within.count, within.each))
