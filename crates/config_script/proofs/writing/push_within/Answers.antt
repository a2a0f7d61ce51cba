use Rattle.std.proofs.Common.{inl, inr, arith, refl}
use Rattle.config_script.proofs.writing.push_within.Goals as goal

pub returns-then-len-gt-MAX_DOCUMENT : goal.returns-then-len-gt-MAX_DOCUMENT
returns-then-len-gt-MAX_DOCUMENT c = inr (omega (arith, c.if-len-gt-MAX_DOCUMENT.true, c.len.ensures), refl)

pub returns : goal.returns
returns c = inl (omega (arith, c.if-len-gt-MAX_DOCUMENT.false, c.len.ensures), c.in_ok-push_named.ensures)
