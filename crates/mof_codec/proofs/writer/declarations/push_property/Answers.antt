use Rattle.std.proofs.Common.{refl}
use Rattle.mof_codec.proofs.Writing.{adds_join, adds_char, adds_ascii}
use Rattle.mof_codec.proofs.writer.declarations.push_property.Goals as goal

pub returns-clause-text : goal.returns-clause-text
returns-clause-text c =
    adds_join _ _ _ _ _ (adds_join _ _ _ _ _ (adds_join _ _ _ _ _ (adds_join _ _ _ _ _
    (adds_char _ _ _ c.in_ok-push.ensures.bytes) c.in_ok-push_name.ensures.text)
    (adds_ascii _ _ _ refl c.in_ok-push_str.ensures.bytes)) c.in_ok-push_value.ensures.text)
    (adds_ascii _ _ _ refl c.in_ok-push_str-2.ensures.bytes)
