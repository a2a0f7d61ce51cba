use Rattle.std.proofs.Common.{refl}
use Rattle.lcm_program.proofs.RehearsedStarts.{ends_in_memory, stops_in_memory}
use Rattle.lcm_program.proofs.laws.rehearsed_starts_do_their_work.Goals as goal

pub returns-clause-ends : goal.returns-clause-ends
returns-clause-ends c =
    ends_in_memory _ (λ l. refl) c.images_have_one_meaning.ensures.one _ (λ words before after name done. done) c.images_cross.ensures.ends c.starts_do_their_work.ensures.all

pub returns-clause-stops : goal.returns-clause-stops
returns-clause-stops c =
    stops_in_memory _ (λ l. refl) c.images_have_one_meaning.ensures.one _ (λ words before after name done. done) c.images_cross.ensures.stops
    c.starts_do_their_work-2.ensures.all c.starts_do_their_work-2.ensures.prefix
