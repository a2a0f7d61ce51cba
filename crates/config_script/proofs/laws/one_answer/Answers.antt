use Rattle.config_script.proofs.OneAnswer.{one_text, never_both, one_reason}
use Rattle.config_script.proofs.laws.one_answer.Goals as goal

pub returns : goal.returns
returns c =
    let node = c.args.node.now in
    record { one_text = one_text node; never_both = never_both node; one_reason = one_reason node }
