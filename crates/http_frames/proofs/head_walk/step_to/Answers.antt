use Rattle.std.proofs.Common.{refl, arith, subst}
use Rattle.http_frames.specs.Heads.{IsNoRequest}
use Rattle.http_frames.specs.HeadWalks.{CanGoOn}
use Rattle.http_frames.proofs.HeadReading.{drop_fits, front_never, step_walked}
use Rattle.http_frames.proofs.head_walk.step_to.Goals as goal

pub split_at-requires : goal.split_at-requires
split_at-requires c = omega (arith, drop_fits c.args.walk.length c.args.front.now c.args.byte c.requires.next.0 c.requires.next.1)

pub returns-then-ends_wrong : goal.returns-then-ends_wrong
returns-then-ends_wrong c =
    front_never _ c.args.front.now (subst IsNoRequest c.split_at.ensures.front (c.ends_wrong.ensures.wrong c.if-ends_wrong.true))

pub returns : goal.returns
returns c = (
  step_walked c.args.front.now c.args.walk c.args.byte c.requires.next.0 c.args.place _ c.requires.walked c.requires.few
      c.requires.is_open c.requires.next.1 c.requires.there
      (λ ends. subst CanGoOn c.split_at.ensures.front (c.ends_wrong.ensures.fine c.if-ends_wrong.false ends)) refl refl,
  refl,
)
