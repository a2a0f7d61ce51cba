use Rattle.std.proofs.Common.{Ok, inr, sym, ap, ◌∙◌}
use Rattle.std.specs.Prelude.{Some}
use Rattle.http_frames.proofs.PassedOn.{passed_on}
use Rattle.http_frames.proofs.Walking.{resumed_at, reading_err, reading_done, reading_open, walked_on}
use Rattle.http_frames.proofs.body.read_chunked.Goals as goal

pub returns-then-is_done : goal.returns-then-is_done
returns-then-is_done c =
    let over = resumed_at c.args.limits.now c.args.front c.args.body.now c.args.walk _ _ _ c.requires.walked
    c.split_at.ensures.back c.walk_over.ensures.value c.in_ok-reached.was in
    reading_done c.args.limits.now c.args.front c.args.body.now c.in_ok-reached.reached over
    (sym c.is_done.ensures ∙ c.if-is_done.true)
    ∙ ap (λ content. Ok (Some content)) (sym c.in_ok-content.ensures)

pub returns : goal.returns
returns c =
    let over = resumed_at c.args.limits.now c.args.front c.args.body.now c.args.walk _ _ _ c.requires.walked
    c.split_at.ensures.back c.walk_over.ensures.value c.in_ok-reached.was in
    let not_done = sym c.is_done.ensures ∙ c.if-is_done.false in (
      reading_open c.args.limits.now c.args.front c.args.body.now c.in_ok-reached.reached over not_done,
      walked_on c.args.limits.now c.args.front c.args.body.now c.in_ok-reached.reached over not_done
          c.in_ok-reached.ensures.fits c.in_ok-reached.ensures.line,
    )

pub returns-in_err-reached : goal.returns-in_err-reached
returns-in_err-reached c = rw (passed_on c.in_err-reached.field-0.0 c.from_residual.result c.from_residual.ensures.1)
    (inr (reading_err c.args.limits.now c.args.front c.args.body.now c.in_err-reached.field-0.0
    (resumed_at c.args.limits.now c.args.front c.args.body.now c.args.walk _ _ _ c.requires.walked
    c.split_at.ensures.back c.walk_over.ensures.value c.in_err-reached.was)))
