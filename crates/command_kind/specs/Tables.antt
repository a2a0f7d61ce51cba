-- The class of commands, and the table of its properties. Names compare by fold.
use Rattle.std.specs.Prelude.{ℕ, Bool, List, [], ◌∷◌, Option, find, is_none, is_some, codes}
use Rattle.std.specs.List.{list_all}
use Rattle.mof_values.specs.declared.instance.Instance.{Instance}
use Rattle.mof_values.specs.declared.instance.Property.{Property}
use Rattle.mof_values.specs.declared.value.Value.{Value}
use Rattle.mof_values.specs.Fold.{same_name}
use Rattle.mof_values.specs.Values.{scalars_of, text_named, text_of_scalar}
use Rattle.resource_kinds.specs.Tables.{Row, first_wrong, is_filled_text}
use Rattle.command_kind.specs.declared.tables.Needed.{Needed}
use Rattle.command_kind.specs.declared.tables.Needed.TheVariants as needs

-- an instance of the class
abbrev pub is_command : Instance → Bool
is_command instance = same_name instance.class (codes "DSC_CommandResource")

-- a single text, or an array of texts
abbrev pub are_texts : Value → Bool
are_texts value = list_all (λ scalar. is_some (text_of_scalar scalar)) (scalars_of value)

-- what the value of each property may be
abbrev pub command_rows : List Row
command_rows =
    record { name = codes "Name"; fits = is_filled_text }
    ∷ record { name = codes "TestProgram"; fits = is_filled_text }
    ∷ record { name = codes "TestArguments"; fits = are_texts }
    ∷ record { name = codes "SetProgram"; fits = is_filled_text }
    ∷ record { name = codes "SetArguments"; fits = are_texts }
    ∷ []

-- the names of the properties that must be there
abbrev pub name_of : Needed → List ℕ
name_of needs.Name = codes "Name"
name_of needs.TestProgram = codes "TestProgram"
name_of needs.SetProgram = codes "SetProgram"

-- in the order in which a missing one is told
abbrev pub needed : List (List ℕ)
needed = name_of needs.Name ∷ name_of needs.TestProgram ∷ name_of needs.SetProgram ∷ []

-- the first of them that is missing
abbrev pub first_missing : Instance → Option (List ℕ)
first_missing instance = find (λ name. is_none (text_named name instance)) needed

-- the first property in the instance's text that may not stand there
abbrev pub first_wrong_of_command : Instance → Option Property
first_wrong_of_command instance = first_wrong command_rows instance
