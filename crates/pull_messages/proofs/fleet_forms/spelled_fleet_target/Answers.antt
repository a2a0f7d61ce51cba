use Rattle.pull_messages.specs.Stops.{EndsAt, IsAnyFleetTarget, IsWord}
use Rattle.pull_messages.proofs.FormLaws.{if_left, no_fleet, summary_word}
use Rattle.pull_messages.proofs.fleet_forms.spelled_fleet_target.Goals as goal

pub returns-in-Err-Left-clause-none : goal.returns-in-Err-Left-clause-none
returns-in-Err-Left-clause-none c =
    let chars = c.args.chars.now in
    let no_report = rw c.in-Err-Left.field-0-is at c.in-Err-Left.ensures.bad in
    if_left c.summary.result (EndsAt (IsWord summary_word) chars) (λ _. IsAnyFleetTarget chars → ⊥)
    (λ n ends. no_fleet chars no_report.none ends.none) c.summary.ensures.bad
