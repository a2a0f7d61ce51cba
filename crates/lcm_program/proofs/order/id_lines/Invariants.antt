use Rattle.std.proofs.Common.{◌≡◌, take, string_bytes}
use Rattle.std.specs.List.{flat_map}
use Rattle.lcm_program.specs.Order.{id_line}
use Rattle.lcm_program.proofs.order.id_lines.Given as goal

abbrev pub invariant-loop-place : goal.invariant-loop-place
invariant-loop-place l = string_bytes l.text ≡ flat_map (id_line l.document) (take l.place-index l.places)
