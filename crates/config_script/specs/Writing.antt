-- What is written of the events of a script. That it is the canonical text of what the script gives a node is proved of
-- it in proofs/.
use Rattle.std.specs.Prelude.{◌≡◌, ◌==◌, ◌<◌, ◌⊎◌, ℕ, Bool, true, false, ◌||◌, List, [], ◌∷◌, ◌++◌, Option, Some, None, codes, encode_utf8_all, length, if◌then◌else◌}
use Rattle.std.specs.List.{flat_map}
use Rattle.mof_values.specs.Fold.{same_name}
use Rattle.mof_syntax.specs.Canonical.{literal_char, canonical_scalar, canonical_instance}
use Rattle.mof_syntax.specs.Limits.{document_limit}
use Rattle.config_script.specs.Denoting.{Kind, kind_named, header}
use Rattle.config_script.specs.Places as events
use Rattle.config_script.specs.Places.{Event}

-- the first lines of a resource of a kind, up to its name
abbrev pub opening : Option Kind → List ℕ
opening None = []
opening (Some kind) = codes "instance of " ++ (kind.class ++ (codes "\n{\n ResourceID = \"[" ++ (kind.name ++ codes "]")))

-- the last lines
abbrev pub closing : List ℕ → List ℕ
closing title =
    codes " ModuleName = \"PSDesiredStateConfiguration\";\n ModuleVersion = \"1.0\";\n ConfigurationName = \""
    ++ (flat_map literal_char title ++ codes "\";\n};\n")

abbrev pub event_text : List ℕ → Event → List ℕ
event_text title (events.Kind from word) = opening (kind_named word)
event_text title (events.ResourceName name) = flat_map literal_char name ++ codes "\";\n"
event_text title events.ResourceEnd = closing title
event_text title (events.Property from name) = codes " " ++ (name ++ codes " = ")
event_text title (events.One s) = canonical_scalar s ++ codes ";\n"
event_text title events.ArrayOpen = codes "{"
event_text title (events.Element s) = canonical_scalar s
event_text title (events.Further s) = codes ", " ++ canonical_scalar s
event_text title events.ArrayShut = codes "};\n"
event_text title e = []

-- whether the block that goes on names the node, after an event
abbrev pub named_after : List ℕ → Bool → Event → Bool
named_after node named (events.Node name) = named || same_name name node
named_after node named events.BlockEnd = false
named_after node named e = named

-- the name of the configuration, as far as it was read
abbrev pub title_after : List ℕ → Event → List ℕ
title_after title (events.Title name) = name
title_after title e = title

-- what is written of an event, where the block names the node
abbrev pub named_text : List ℕ → Bool → Event → List ℕ
named_text title named e = if named then event_text title e else []

-- what is written of the events, from a place on at which the block names the node, or does not; and the header
abbrev pub written : List ℕ → List ℕ → Bool → List Event → List ℕ
written title node named [] = canonical_instance (header title)
written title node named (e ∷ es) = named_text title named e ++ written (title_after title e) node (named_after node named e) es

-- the sign of an integer; a 0 has none
abbrev pub sign_of : Bool → List ℕ → List ℕ
sign_of false digits = []
sign_of true [] = 45 ∷ []
sign_of true (c ∷ cs) = if c == 48 then [] else 45 ∷ []

-- the bytes are the characters in UTF-8, or a front of them that is longer than a document may be
abbrev pub IsWritten : List ℕ → List ℕ → Type 0
IsWritten bytes chars =
    (bytes ≡ encode_utf8_all chars) ⊎ ((rest : List ℕ) × (encode_utf8_all chars ≡ bytes ++ rest) × (document_limit < length bytes))
