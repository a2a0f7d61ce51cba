-- How many declarations, properties and elements were begun.
use Rattle.std.specs.Prelude.{◌≡◌, ◌≤◌, ◌+◌, ℕ, suc, Bool, false, ◌==◌, List, [], ◌∷◌, ⊤, if◌then◌else◌}
use Rattle.mof_values.specs.Ident.{is_next}
use Rattle.mof_syntax.specs.Limits.{instances_limit, properties_limit, elements_limit}
use Rattle.mof_codec.specs.declared.machine.state.Event.{Event}
use Rattle.mof_codec.specs.declared.machine.state.Event.TheVariants.{Quiet, Declaration, Property, Element}
use Rattle.mof_codec.specs.declared.machine.counts.Counts.{Counts}

-- all declarations of the events, of which the last comes first
abbrev pub declarations_in : List Event → ℕ
declarations_in [] = 0
declarations_in (Declaration ∷ es) = suc (declarations_in es)
declarations_in (e ∷ es) = declarations_in es

-- the properties since the last declaration
abbrev pub properties_in : List Event → ℕ
properties_in [] = 0
properties_in (Declaration ∷ es) = 0
properties_in (Property ∷ es) = suc (properties_in es)
properties_in (e ∷ es) = properties_in es

-- the elements since the last property
abbrev pub elements_in : List Event → ℕ
elements_in [] = 0
elements_in (Declaration ∷ es) = 0
elements_in (Property ∷ es) = 0
elements_in (Element ∷ es) = suc (elements_in es)
elements_in (Quiet ∷ es) = elements_in es

-- the counts are those of the events
pub record Tells (counts : Counts) (events : List Event) : Type 0 where
  pub declarations : counts.declarations ≡ declarations_in events
  pub properties : counts.properties ≡ properties_in events
  pub elements : counts.elements ≡ elements_in events

-- with one more event
abbrev pub counted : Event → Counts → Counts
counted Quiet n = n
counted Declaration n = record { declarations = n.declarations + 1; properties = 0; elements = 0 }
counted Property n = record { declarations = n.declarations; properties = n.properties + 1; elements = 0 }
counted Element n = record { declarations = n.declarations; properties = n.properties; elements = n.elements + 1 }

-- what is begun is one more than a text may have
abbrev pub is_excess : Event → Counts → Bool
is_excess Quiet n = false
is_excess Declaration n = n.declarations == instances_limit
is_excess Property n = n.properties == properties_limit
is_excess Element n = n.elements == elements_limit

pub record AreWithin (events : List Event) : Type 0 where
  pub declarations : declarations_in events ≤ instances_limit
  pub properties : properties_in events ≤ properties_limit
  pub elements : elements_in events ≤ elements_limit

-- so it was all the time
abbrev pub WereWithin : List Event → Type 0
WereWithin [] = ⊤
WereWithin (e ∷ es) = AreWithin (e ∷ es) × WereWithin es

-- how many characters go on an identifier
abbrev pub name_length : List ℕ → ℕ
name_length [] = 0
name_length (c ∷ cs) = if is_next c then suc (name_length cs) else 0
