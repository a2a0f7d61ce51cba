use Rattle.std.proofs.Common.{refl}
use Rattle.http_frames.proofs.HeadReading.{walk_new}
use Rattle.http_frames.proofs.head_walk.HeadWalk.new.Goals as goal

pub returns : goal.returns
returns c = λ bytes. walk_new bytes _ refl refl
