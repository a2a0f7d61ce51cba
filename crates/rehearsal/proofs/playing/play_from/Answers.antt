use Rattle.std.proofs.Common.{List, ◌-◌, length, take, drop, subst, string_bytes}
use Rattle.rehearsal.specs.Living.{world_of}
use Rattle.rehearsal.specs.declared.limits.TheConstants.{MAX_SCRIPT}
use Rattle.rehearsal.specs.declared.step.Step.{Step}
use Rattle.rehearsal.proofs.Plays.{IsPlayedTo, few_on, few_starts, front_of, none_left, played, played_on}
use Rattle.rehearsal.proofs.playing.play_from.Goals as goal

pub loop-left-preserved : goal.loop-left-preserved
loop-left-preserved g c =
    let l = c.loop-left in
    let next = c.in_ok-live in
    let left = front_of l.left.now c.step-item.result c.in-len1-up.len_at_least c.step-item.is in
    let rest : List Step = take (length l.left.now - 1) (drop 1 l.left.now) in
    let t = subst (λ (s : List Step). IsPlayedTo g.S.Starter (world_of c.args.first) c.args.steps.now (world_of l.live) s (string_bytes l.text)) left l.invariant.2 in (
      next.ensures.between,
      few_on l.live.starts next.live.starts MAX_SCRIPT l.left.now rest c.step-item.result left l.invariant.1
          (few_starts g.S.Starter c.step-item.result (world_of l.live) (world_of next.live) next.ensures.leads.0 next.ensures.leads.1),
      played_on g.S.Starter (world_of c.args.first) c.args.steps.now rest c.step-item.result (world_of l.live) (world_of next.live) (string_bytes l.text) (string_bytes c.take_step.new.text) t next.ensures.leads,
    )

pub returns : goal.returns
returns g c =
    let l = c.loop-left in
    played g.S.Starter (world_of c.args.first) c.args.steps.now (world_of l.live) (string_bytes l.text)
    (subst (λ (s : List Step). IsPlayedTo g.S.Starter (world_of c.args.first) c.args.steps.now (world_of l.live) s (string_bytes l.text)) (none_left l.left.now c.in_default.len_below) l.invariant.2)
