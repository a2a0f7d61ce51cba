use Rattle.mof_codec.proofs.Escapes.{hex_escape_there, hex_escape_absent}
use Rattle.mof_codec.proofs.values.strings.hex_escape.Goals as goal

pub returns-in_err-from_u32-clause-none : goal.returns-in_err-from_u32-clause-none
returns-in_err-from_u32-clause-none c =
    rw c.from_residual-in_err-from_u32.ensures (hex_escape_absent _ _ _ _ c.in_ok-first.ensures.some c.hex_tail-value.ensures.value c.in_err-from_u32.ensures.value)

pub returns-clause-some : goal.returns-clause-some
returns-clause-some c =
    hex_escape_there _ _ _ _ _ _ c.in_ok-first.ensures.some c.hex_tail-value.ensures.value c.hex_tail-value.ensures.rest c.in_ok-from_u32.ensures.value.0 c.in_ok-from_u32.ensures.value.1
