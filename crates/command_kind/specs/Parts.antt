-- The parts of a machine with commands.
use Rattle.std.specs.Prelude.{ℕ, ◌-◌, List, min, vec_capacity, vec_len}
use Rattle.resource_kinds.specs.declared.entry.Entry.{Entry}
use Rattle.command_kind.specs.declared.commands.Commands.{Commands}

abbrev pub machine_of : {M P : Type 0} → Commands M P → M
machine_of commands = commands.machine

abbrev pub spawner_of : {M P : Type 0} → Commands M P → P
spawner_of commands = commands.spawner

-- the entries of its calls
abbrev pub calls_of : {M P : Type 0} → Commands M P → List Entry
calls_of commands = commands.calls.items

-- how many more entries there is capacity for, here and in the machine
abbrev pub spare_of : {M P : Type 0} → (M → ℕ) → Commands M P → ℕ
spare_of spare commands = min (vec_capacity commands.calls - vec_len commands.calls) (spare commands.machine)
