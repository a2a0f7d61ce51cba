use Rattle.std.proofs.Common.{List, ℕ, sym, ◌∙◌, ap, subst}
use Rattle.pull_messages.specs.Targets.{IsTarget}
use Rattle.pull_messages.specs.TargetText.{target_text}
use Rattle.pull_messages.proofs.WrittenTargets.{written_target}
use Rattle.pull_messages.proofs.target_text.write_target.Goals as goal

pub returns-clause-reads_back : goal.returns-clause-reads_back
returns-clause-reads_back c =
    let target = c.args.target.now in
    λ prefix values. subst (λ (l : List ℕ). IsTarget l target)
    (sym (c.in_ok-text_of.ensures.text ∙ ap (λ (p : List ℕ). target_text p target) prefix)) (written_target target c.in_ok-text_of.ensures.ranges values)
