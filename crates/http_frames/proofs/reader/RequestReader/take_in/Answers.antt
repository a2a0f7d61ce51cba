use Rattle.std.proofs.Common.{subst}
use Rattle.http_frames.specs.Reading.{Refuses}
use Rattle.http_frames.proofs.reader.RequestReader.take_in.Goals as goal

pub returns-in-Refused-clause-refused : goal.returns-in-Refused-clause-refused
returns-in-Refused-clause-refused c = λ _. subst (λ bytes. Refuses bytes c.in-Refused.error) c.deref.ensures.value c.in-Refused.ensures.0
