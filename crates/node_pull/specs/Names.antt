-- The names of configurations that a node registers, that its parts have, and that it asks about.
use Rattle.std.specs.Prelude.{◌≡◌, ⊤, ℕ, Bool, true, not, List, [], ◌∷◌, ◌++◌, map, filter, bytes_eq, slice_get, IsSomeAnd, IsTrue}
use Rattle.std.specs.List.{AllZip, list_any}
use Rattle.std.specs.Option.{option_map_or}
use Rattle.meta_config.specs.declared.meta.Meta.{Meta}
use Rattle.meta_config.specs.declared.meta.Partial.{Partial}
use Rattle.meta_config.specs.Parts.{IsOrderOfParts, is_pulled, partial_named}

-- the name is among these, exactly
abbrev pub is_among : List (List ℕ) → List ℕ → Bool
is_among names name = list_any (bytes_eq name) names

-- its ConfigurationNames, then each name of a partial configuration that is not among them
abbrev pub registered_names : Meta → List (List ℕ)
registered_names meta = meta.names ++ filter (λ name. not (is_among meta.names name)) (map (λ partial. partial.name) meta.partials)

-- the names of the partial configurations at these places
abbrev pub AreNamesAt : List Partial → List ℕ → List (List ℕ) → Type 0
AreNamesAt partials places names = AllZip (λ place name. IsSomeAnd (slice_get partials place) (λ partial. name ≡ partial.name)) places names

-- the names that the parts of a node have: those of the partial configurations, in their order, or, where none is declared, the ConfigurationNames
abbrev pub ArePartNamesOf : Meta → List Partial → List (List ℕ) → Type 0
ArePartNamesOf meta [] names = names ≡ meta.names
ArePartNamesOf meta (partial ∷ partials) names = (order : List ℕ) × IsOrderOfParts meta order × AreNamesAt meta.partials order names

abbrev pub ArePartNames : Meta → List (List ℕ) → Type 0
ArePartNames meta names = ArePartNamesOf meta meta.partials names

-- the part of the name is pulled: the mode of its partial configuration is Pull, or none is declared
abbrev pub is_asked : Meta → List ℕ → Bool
is_asked meta name = option_map_or (is_pulled meta) (partial_named meta.partials name) true

-- those of the names that the server is asked about
abbrev pub asked_of : Meta → List (List ℕ) → List (List ℕ)
asked_of meta names = filter (is_asked meta) names

abbrev pub HasOneName : List (List ℕ) → Type 0
HasOneName [] = ⊥
HasOneName (name ∷ []) = ⊤
HasOneName (name ∷ second ∷ names) = ⊥

-- there is a name to ask about: the mode of a partial configuration is Pull, or, where none is declared, there is exactly one name
abbrev pub CanAskOf : Meta → List Partial → Type 0
CanAskOf meta [] = HasOneName meta.names
CanAskOf meta (partial ∷ partials) = IsTrue (list_any (is_pulled meta) (partial ∷ partials))

abbrev pub CanAsk : Meta → Type 0
CanAsk meta = CanAskOf meta meta.partials
