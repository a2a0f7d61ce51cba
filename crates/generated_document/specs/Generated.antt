-- The document that is made from a number: that many environment resources, each but the last of them with a dependency.
use Rattle.std.specs.Prelude.{◌≡◌, ℕ, zero, suc, ◌/◌, List, [], ◌∷◌, ◌++◌, None, codes}
use Rattle.std.specs.Fmt.{decimal}
use Rattle.mof_values.specs.declared.instance.Instance.{Instance}
use Rattle.mof_values.specs.declared.instance.Property.{Property}
use Rattle.mof_values.specs.declared.value.Scalar.TheVariants.{Text}
use Rattle.mof_values.specs.declared.value.Value.TheVariants.{One}
use Rattle.mof_syntax.specs.Canonical.{canonical_bytes}
use Rattle.dsc_document.specs.declared.document.Document.{Document}
use Rattle.partial_merge.specs.Merged.{Merged}
use Rattle.partial_merge.specs.Parts.{unnamed_part}

-- the property of this name that is a single text
abbrev pub text_property : List ℕ → List ℕ → Property
text_property name text = record { name = name; value = One (Text text) }

-- the ResourceID of the resource of this number
abbrev pub id_of_number : ℕ → List ℕ
id_of_number i = codes "[Environment]R" ++ decimal i

-- each resource but that of number 0 depends on the one whose number is half of the number before its own, rounded down
abbrev pub dependency : ℕ → List Property
dependency zero = []
dependency (suc i) = text_property (codes "DependsOn") (id_of_number (i / 2)) ∷ []

abbrev pub generated_properties : ℕ → List Property
generated_properties i =
    text_property (codes "ResourceID") (id_of_number i)
    ∷ text_property (codes "Name") (codes "V" ++ decimal i)
    ∷ text_property (codes "Value") (decimal i)
    ∷ dependency i

-- the resource of this number
abbrev pub generated_resource : ℕ → Instance
generated_resource i = record { class = codes "MSFT_EnvironmentResource"; alias = None; properties = generated_properties i }

abbrev pub generated_header : Instance
generated_header = record {
  class = codes "OMI_ConfigurationDocument";
  alias = None;
  properties = text_property (codes "Version") (codes "2.0.0") ∷ [];
}

-- the resources of the numbers below the count, the greatest first, and then the header
abbrev pub generated_instances : ℕ → List Instance
generated_instances zero = generated_header ∷ []
generated_instances (suc i) = generated_resource i ∷ generated_instances i

-- the document is what the canonical text of the instances of that count declares, as one part without a name
pub record IsGenerated (count : ℕ) (document : Document) : Type 0 where
  pub text : List ℕ
  pub written : text ≡ canonical_bytes (generated_instances count)
  pub merged : Merged (unnamed_part text ∷ []) document
