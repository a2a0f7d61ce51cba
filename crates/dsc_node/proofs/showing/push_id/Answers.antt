use Rattle.std.proofs.Common.{◌≡◌, ◌∙◌, ap, rules, sym}
use Rattle.std.specs.Int.{to_be_bytes, w128}
use Rattle.uuid.specs.Text.{hyphenated_text, lower}
use Rattle.dsc_node.specs.Shown.{agent_text}
use Rattle.dsc_node.proofs.showing.push_id.Goals as goal

pub returns : goal.returns
unfolding agent_text
returns c =
    let is : c.encode_lower.result.now ≡ hyphenated_text lower (to_be_bytes w128 c.args.agent) =
    c.encode_lower.ensures.text ∙ ap (hyphenated_text lower) (c.hyphenated.ensures ∙ c.from_u128-id.ensures) in
    rw (sym is) (search rules)
