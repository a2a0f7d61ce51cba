use Rattle.std.proofs.Common.{◌≡◌, [], sym, subst, rules}
use Rattle.http_frames.specs.Frames.{AwaitsRest}
use Rattle.http_frames.proofs.FirstHead.{awaits_first}
use Rattle.http_frames.proofs.reader.RequestReader.new.Goals as goal

pub returns-clause-awaits : goal.returns-clause-awaits
returns-clause-awaits c =
    let none : c.new.result.items ≡ [] = search rules in
    subst AwaitsRest (sym none) awaits_first
