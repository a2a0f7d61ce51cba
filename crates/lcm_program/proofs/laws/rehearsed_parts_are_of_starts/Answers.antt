use Rattle.std.proofs.Common.{refl}
use Rattle.lcm_program.proofs.RehearsedParts.{parts_in_memory}
use Rattle.lcm_program.proofs.laws.rehearsed_parts_are_of_starts.Goals as goal

pub returns : goal.returns
returns c =
    parts_in_memory _ (λ l. refl) c.images_have_one_meaning.ensures.one c.pulled_parts_are_of_the_shelf.ensures _ (λ words before after name done. done)
    (λ words before after name done. done) c.images_cross.ensures.ends c.images_cross.ensures.stops c.parts_are_brought.ensures c.parts_are_brought-2.ensures
