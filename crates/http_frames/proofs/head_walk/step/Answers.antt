use Rattle.std.proofs.Common.{sym, ◌∙◌}
use Rattle.http_frames.proofs.HeadReading.{step_never}
use Rattle.http_frames.proofs.head_walk.step.Goals as goal

pub returns-in-None : goal.returns-in-None
returns-in-None c =
    step_never c.args.front.now c.args.walk c.args.byte c.requires.next.0 c.requires.walked c.requires.is_open c.requires.next.1
    (sym c.next_place.ensures ∙ c.in-None.is)
