use Rattle.rehearsal.proofs.OneReading.{failures_are_one, never_both, steps_are_one}
use Rattle.rehearsal.proofs.laws.one_reading.Goals as goal

pub returns : goal.returns
returns c = record { steps = steps_are_one; line = failures_are_one; never = never_both }
