use Rattle.std.proofs.Common.{refl}
use Rattle.std.proofs.lemmas.Str.{chars-nil, IsUtf8-string_bytes}
use Rattle.mof_syntax.proofs.Bodies.{ReadsBody-next, chars-push}
use Rattle.mof_syntax.proofs.decoding.decode_utf16.Goals as goal

pub loop-left-init : goal.loop-left-init
loop-left-init c = rw (c.new-text.ensures.bytes, chars-nil) (record { scalars = refl; split = refl })

pub loop-left-preserved : goal.loop-left-preserved
loop-left-preserved c = rw (c.in_ok-push.ensures.bytes, chars-push _ _ (IsUtf8-string_bytes _) c.in-Some.ensures.some.scalar) (ReadsBody-next _ _ _ _ _ _ c.loop-left.invariant c.in-Some.ensures.some)
