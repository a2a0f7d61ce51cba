use Rattle.lcm_program.proofs.Inputs.{unspelled_unread}
use Rattle.lcm_program.proofs.input.read_instances.Goals as goal

pub returns-clause-err : goal.returns-clause-err
returns-clause-err g c =
    unspelled_unread (g.S.Ends.left c.args.input.now) _ _ c.in-Ok.bytes.items _ c.in-Err-read.error c.unspelled.result
    c.in-Ok.ensures.ok c.deref.ensures.value c.in-Err-read.ensures.only c.in-Err-read.ensures.refused c.unspelled.ensures
