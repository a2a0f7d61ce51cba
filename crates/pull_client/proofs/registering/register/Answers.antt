use Rattle.std.proofs.Common.{◌∙◌, Some, subst, sym}
use Rattle.pull_client.specs.Moments.{IsMomentText}
use Rattle.pull_client.proofs.registering.register.Goals as goal

pub returns-clause-asks : goal.returns-clause-asks
returns-clause-asks g c =
    let same = c.as_bytes.ensures.value ∙ c.as_str.ensures.value in
    (c.as_bytes.result.now, subst (IsMomentText (Some 7) c.args.moment) (sym same) c.moment_text.ensures, c.register_at.ensures.asks)
