use Rattle.mof_codec.proofs.Writing.{adds_join, adds_char}
use Rattle.mof_codec.proofs.writer.scalars.push_value.Goals as goal

pub returns-in_ok-push-in-Many-2-clause-text : goal.returns-in_ok-push-in-Many-2-clause-text
returns-in_ok-push-in-Many-2-clause-text c =
    rw (c.in-Many.is, ← c.as_slice.ensures) (adds_join _ _ _ _ _ (adds_join _ _ _ _ _ (adds_char _ _ _ c.in_ok-push-in-Many.ensures.bytes) c.in_ok-push_elements-in-Many.ensures.text)
    (adds_char _ _ _ c.in_ok-push-in-Many-2.ensures.bytes))
