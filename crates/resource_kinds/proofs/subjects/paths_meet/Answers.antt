use Rattle.std.proofs.Common.{sym, ◌∙◌}
use Rattle.resource_kinds.specs.declared.path_order.PathOrder.TheVariants.{Same, Above, Below, Apart}
use Rattle.resource_kinds.specs.PathOrder.{path_left}
use Rattle.resource_kinds.specs.Subjects.{is_closed}
use Rattle.resource_kinds.proofs.SubjectsMeet.{paths_met}
use Rattle.resource_kinds.proofs.subjects.paths_meet.Goals as goal

pub returns-in-Same : goal.returns-in-Same
returns-in-Same c =
    paths_met (path_left c.args.path) (path_left c.args.other) (is_closed c.args.instance.now) (is_closed c.args.other_instance.now) Same (sym c.in-Same.is ∙ c.compare.ensures)

pub returns-in-Above : goal.returns-in-Above
returns-in-Above c =
    rw c.is_closed.ensures
    (paths_met (path_left c.args.path) (path_left c.args.other) (is_closed c.args.instance.now) (is_closed c.args.other_instance.now) Above (sym c.in-Above.is ∙ c.compare.ensures))

pub returns-in-Below : goal.returns-in-Below
returns-in-Below c =
    rw c.is_closed-in-Below.ensures
    (paths_met (path_left c.args.path) (path_left c.args.other) (is_closed c.args.instance.now) (is_closed c.args.other_instance.now) Below (sym c.in-Below.is ∙ c.compare.ensures))

pub returns-in-Apart : goal.returns-in-Apart
returns-in-Apart c =
    paths_met (path_left c.args.path) (path_left c.args.other) (is_closed c.args.instance.now) (is_closed c.args.other_instance.now) Apart (sym c.in-Apart.is ∙ c.compare.ensures)
