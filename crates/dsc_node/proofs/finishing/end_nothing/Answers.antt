use Rattle.std.proofs.Common.{◌++◌, [], List, ℕ, subst, ◌∙◌}
use Rattle.std.specs.Prelude.{codes, string_bytes}
use Rattle.dsc_node.specs.declared.status.Status.TheVariants as statuses
use Rattle.dsc_node.specs.Endings.{Answers}
use Rattle.dsc_node.proofs.Commits.{ends_as}
use Rattle.dsc_node.proofs.Sent.{ended_err, ended_ok, silent_ended}
use Rattle.dsc_node.proofs.finishing.end_nothing.Goals as goal

pub returns-in-Ok-clause-goes : goal.returns-in-Ok-clause-goes
returns-in-Ok-clause-goes g c =
    let status = c.joining.result.status in
    let lines = string_bytes c.joining.result.lines in
    let sent = c.in-Ok.ensures.sends in
    let answers = subst (λ (t : List ℕ). Answers statuses.Done (codes "end nothing\n" ++ t) status lines) c.deref.ensures c.joining.ensures in
    let ends = ended_ok [] (codes "end nothing\n") status lines statuses.Done sent.0 _ (string_bytes c.new-sent.result) (string_bytes c.send_reports.new.lines) c.new-sent.ensures.bytes sent.1 answers in
    ends_as g.D.Disk sent.2 (λ from counts work committed broken s. record { tried = sent.0; sends = s; ends = ends })

pub returns-clause-goes : goal.returns-clause-goes
returns-clause-goes g c =
    let status = c.silent.result.status in
    let lines = string_bytes c.silent.result.lines in
    let sent = c.in-Err.ensures.sends in
    let silent = silent_ended statuses.Done (codes "end nothing\n") status lines c.in-Err.error (c.silent.ensures.status ∙ c.status_of.ensures, c.silent.ensures.lines) in
    let ends = ended_err [] (codes "end nothing\n") status lines _ statuses.Done sent.0 c.in-Err.error (string_bytes c.new-sent.result) (string_bytes c.send_reports.new.lines) sent.1 silent in
    ends_as g.D.Disk sent.2 (λ from counts work committed broken s. record { tried = sent.0; sends = s; ends = ends })
