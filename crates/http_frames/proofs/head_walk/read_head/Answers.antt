use Rattle.std.proofs.Common.{List, ℕ, length, sym, ap, subst, arith}
use Rattle.std.proofs.lemmas.List.{length-take}
use Rattle.http_frames.specs.HeadWalks.{IsWalkedHead}
use Rattle.http_frames.proofs.HeadReading.{walked_front, walked_bytes}
use Rattle.http_frames.proofs.head_walk.read_head.Goals as goal

pub walk_over-requires-clause-walked : goal.walk_over-requires-clause-walked
walk_over-requires-clause-walked c =
    subst (λ (l : List ℕ). IsWalkedHead l c.args.walk) (sym c.front_of.ensures) (walked_front c.args.bytes.now c.args.walk c.requires)

pub walk_over-requires-clause-few : goal.walk_over-requires-clause-few
walk_over-requires-clause-few c = omega (arith, ap length c.front_of.ensures, length-take 16384 c.args.bytes.now)

pub head_at-requires-clause-walked : goal.head_at-requires-clause-walked
head_at-requires-clause-walked c =
    walked_bytes c.args.bytes.now c.in-Some.reached
    (subst (λ (l : List ℕ). IsWalkedHead l c.in-Some.reached) c.front_of.ensures c.in-Some.ensures.0)
