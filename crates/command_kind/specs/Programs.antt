-- What a command names for its Test and for its Set, or its fault.
use Rattle.std.specs.Prelude.{◌≡◌, ℕ, ⊤, List, [], Option, Some, None, unwrap_or, Result, Ok, Err, codes, encode_utf8_all}
use Rattle.std.specs.List.{filter_map}
use Rattle.mof_values.specs.declared.instance.Instance.{Instance}
use Rattle.mof_values.specs.declared.instance.Property.{Property}
use Rattle.mof_values.specs.declared.value.Value.{Value}
use Rattle.mof_values.specs.Values.{scalars_of, text_named, text_of_scalar, value_named}
use Rattle.resource_kinds.specs.declared.entry.Failure.{Failure}
use Rattle.resource_kinds.specs.declared.entry.Failure.TheVariants.{OutOfProfile}
use Rattle.command_kind.specs.declared.program.Purpose.{Purpose}
use Rattle.command_kind.specs.declared.program.Purpose.TheVariants.{Test, Set}
use Rattle.command_kind.specs.declared.program.ProgramError.{ProgramError}
use Rattle.command_kind.specs.declared.program.ProgramError.TheVariants as errors
use Rattle.resource_kinds.specs.Wanted.{NamesProperty}
use Rattle.command_kind.specs.Tables.{first_missing, first_wrong_of_command}

-- a program, by its name in UTF-8, with its arguments
pub record Program : Type 0 where
  pub name : List ℕ
  pub words : List (List ℕ)

-- the properties that say which program is for it, and with which arguments
abbrev pub program_property : Purpose → List ℕ
program_property Test = codes "TestProgram"
program_property Set = codes "SetProgram"

abbrev pub arguments_property : Purpose → List ℕ
arguments_property Test = codes "TestArguments"
arguments_property Set = codes "SetArguments"

-- the texts of a value in order; none where there is no value
abbrev pub texts_in : Option Value → List (List ℕ)
texts_in None = []
texts_in (Some value) = filter_map text_of_scalar (scalars_of value)

abbrev pub named_program : Purpose → Instance → Program
named_program purpose instance = record {
  name = encode_utf8_all (unwrap_or (text_named (program_property purpose) instance) []);
  words = texts_in (value_named (arguments_property purpose) instance);
}

-- a wrong property is told before a missing one
abbrev pub by_table : Option Property → Option (List ℕ) → Program → Result Program Failure
by_table (Some property) missing program = Err (OutOfProfile property.name)
by_table None (Some name) program = Err (OutOfProfile name)
by_table None None program = Ok program

-- the program of a command for its Test or its Set, or the command's fault
abbrev pub program_of : Purpose → Instance → Result Program Failure
program_of purpose instance = by_table (first_wrong_of_command instance) (first_missing instance) (named_program purpose instance)

-- why there is no program: the fault, or that there was no memory to copy what the command names, or the name of a property
abbrev pub IsWhyNot : Result Program Failure → ProgramError → Type 0
IsWhyNot program (errors.Fault failure) = program ≡ Err failure
IsWhyNot (Ok program) errors.Memory = ⊤
IsWhyNot (Err failure) errors.Memory = NamesProperty failure
