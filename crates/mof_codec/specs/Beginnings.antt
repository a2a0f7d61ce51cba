-- What may begin at a state of the machine.
use Rattle.std.specs.Prelude.{Bool, true, false}
use Rattle.mof_codec.specs.declared.machine.state.Place.{Place}
use Rattle.mof_codec.specs.declared.machine.state.Place.TheVariants.{Start, AfterOf, Body, AfterEquals, InArray, AfterComma}
use Rattle.mof_codec.specs.declared.machine.state.Half.{Half}
use Rattle.mof_codec.specs.declared.machine.state.Half.TheVariants as halves

-- a single value
abbrev pub scalar_place : Place → Bool
scalar_place AfterEquals = true
scalar_place InArray = true
scalar_place AfterComma = true
scalar_place p = false

-- an identifier that is no keyword
abbrev pub name_place : Place → Bool
name_place AfterOf = true
name_place Body = true
name_place p = false

abbrev pub start_place : Place → Bool
start_place Start = true
start_place p = false

abbrev pub begins_declaration : Half → Place → Bool
begins_declaration halves.Gap p = start_place p
begins_declaration h p = false

abbrev pub begins_scalar : Half → Place → Bool
begins_scalar halves.Gap p = scalar_place p
begins_scalar h p = false

abbrev pub begins_identifier : Half → Place → Bool
begins_identifier halves.Gap p = name_place p
begins_identifier halves.Alias p = true
begins_identifier h p = false
