use Rattle.std.proofs.Common.{◌≡◌, ◌++◌, ℕ, List, OnOk, ◌∙◌, ap, subst}
use Rattle.uuid.specs.Text.{hyphenated_text, lower}
use Rattle.pull_messages.specs.Writing.{id_text}
use Rattle.pull_messages.proofs.target_text.push_id.Goals as goal

pub returns : goal.returns
unfolding id_text
returns c =
    let text : c.encode_lower-text.result.now ≡ id_text c.args.id = c.encode_lower-text.ensures.text ∙ ap (hyphenated_text lower) (c.hyphenated.ensures ∙ c.from_u128-id.ensures) in
    subst (λ (l : List ℕ). OnOk c.push_word.result (c.push_word.new.out.items ≡ c.args.out.now.items ++ l)) text c.push_word.ensures
