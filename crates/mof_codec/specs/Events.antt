-- What is begun in the text of instances, the last first.
use Rattle.std.specs.Prelude.{List, [], ◌∷◌}
use Rattle.mof_values.specs.declared.instance.Instance.{Instance}
use Rattle.mof_values.specs.declared.instance.Property.{Property}
use Rattle.mof_values.specs.declared.value.Scalar.{Scalar}
use Rattle.mof_values.specs.declared.value.Value.{Value}
use Rattle.mof_values.specs.declared.value.Value.TheVariants.{One, Many}
use Rattle.mof_codec.specs.declared.machine.state.Event.{Event}
use Rattle.mof_codec.specs.declared.machine.state.Event.TheVariants as events

abbrev pub items_events : List Scalar → List Event → List Event
items_events [] acc = acc
items_events (s ∷ ss) acc = items_events ss (events.Element ∷ acc)

abbrev pub value_events : Value → List Event → List Event
value_events (One s) acc = acc
value_events (Many ss) acc = items_events ss acc

abbrev pub properties_events : List Property → List Event → List Event
properties_events [] acc = acc
properties_events (p ∷ ps) acc = properties_events ps (value_events p.value (events.Property ∷ acc))

abbrev pub events_of : List Instance → List Event → List Event
events_of [] acc = acc
events_of (i ∷ is) acc = events_of is (properties_events i.properties (events.Declaration ∷ acc))
