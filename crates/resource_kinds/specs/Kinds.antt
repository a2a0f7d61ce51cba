-- What the kinds of resources over a host show of it.
use Rattle.std.specs.Prelude.{ℕ, ◌-◌, List, vec_capacity, vec_len}
use Rattle.resource_kinds.specs.declared.entry.Entry.{Entry}
use Rattle.resource_kinds.specs.declared.kinds.Kinds.{Kinds}

-- the entries of its calls
abbrev pub calls_of : {H : Type 0} → Kinds H → List Entry
calls_of kinds = kinds.calls.items

-- how many more entries there is capacity for
abbrev pub spare_of : {H : Type 0} → Kinds H → ℕ
spare_of kinds = vec_capacity kinds.calls - vec_len kinds.calls

abbrev pub host_of : {H : Type 0} → Kinds H → H
host_of kinds = kinds.host
