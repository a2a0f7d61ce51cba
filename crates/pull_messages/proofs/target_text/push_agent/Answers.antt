use Rattle.std.proofs.Common.{codes}
use Rattle.pull_messages.specs.Writing.{id_text}
use Rattle.pull_messages.proofs.PathTexts.{four, on_ok}
use Rattle.pull_messages.proofs.target_text.push_agent.Goals as goal

pub returns : goal.returns
returns c =
    on_ok c.push_word-3.result _ _
    (λ last. four c.args.out.now.items (codes "/Nodes(AgentId='") (id_text c.args.id) (codes "')") c.args.end.now _ _ _ _
    c.in_ok-push_word.ensures c.in_ok-push_id.ensures c.in_ok-push_word-2.ensures last)
    c.push_word-3.ensures
