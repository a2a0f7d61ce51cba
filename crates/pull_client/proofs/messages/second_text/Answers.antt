use Rattle.std.proofs.Common.{◌∙◌, Some, subst, sym}
use Rattle.pull_client.specs.Moments.{IsMomentText}
use Rattle.pull_client.proofs.messages.second_text.Goals as goal

pub returns : goal.returns
returns c =
    let same = c.in_ok-text.ensures ∙ c.as_bytes.ensures.value ∙ c.as_str.ensures.value in
    subst (IsMomentText (Some 0) c.args.moment) (sym same) c.moment_text.ensures
