use Rattle.rehearsal.proofs.StartForm.{start_form}
use Rattle.rehearsal.proofs.line.read_line.Goals as goal

pub returns-in-Some-after-4 : goal.returns-in-Some-after-4
returns-in-Some-after-4 c =
    start_form c.args.texts.now c.args.line.now c.in-Some-after-4.rest.now c.in_ok-all-3.all.items c.in-Some-after-4.ensures.some c.in_ok-all-3.ensures
    c.read_start_line.result c.read_start_line.ensures.some c.read_start_line.ensures.none
