use Rattle.std.proofs.Common.{sym, ◌∙◌}
use Rattle.mof_codec.proofs.Options.{map_some, map_none}
use Rattle.mof_codec.proofs.Escapes.{escape_short, escape_hex, escape_absent, x_absent}
use Rattle.mof_codec.proofs.values.strings.escape.Goals as goal

pub returns-in-Some-clause-some : goal.returns-in-Some-clause-some
returns-in-Some-clause-some c = escape_short _ _ _ _ c.in_ok-c.ensures.some (sym c.in-Some.ensures)

pub returns-then-is_x-clause-some : goal.returns-then-is_x-clause-some
returns-then-is_x-clause-some c =
    map_some _ _ _ (λ found h. escape_hex _ _ _ _ _ c.in_ok-c.ensures.some (sym c.is_x.ensures ∙ c.if-is_x.true) h) c.hex_escape.ensures.some

pub returns-then-is_x-clause-none : goal.returns-then-is_x-clause-none
returns-then-is_x-clause-none c =
    map_none _ _ _ (λ absent. escape_absent _ _ _ c.in_ok-c.ensures.some (sym c.in_default.ensures) (λ is. absent)) c.hex_escape.ensures.none

pub returns-else-is_x-clause-none : goal.returns-else-is_x-clause-none
returns-else-is_x-clause-none c =
    escape_absent _ _ _ c.in_ok-c.ensures.some (sym c.in_default.ensures) (x_absent c.in_ok-c.c _ (sym c.is_x.ensures ∙ c.if-is_x.false))
