use Rattle.lcm_program.proofs.Compiling.{compiled_input, too_long_uncompiled, uncompiled_unread}
use Rattle.lcm_program.proofs.compile.read_compiled.Goals as goal

pub returns-in-Err-clause-err : goal.returns-in-Err-clause-err
returns-in-Err-clause-err g c = too_long_uncompiled c.args.node.now (g.S.Ends.left c.args.input.now) _ _ c.in-Err.unread c.in-Err.ensures.err

pub returns-in-Ok-compile-clause-ok : goal.returns-in-Ok-compile-clause-ok
returns-in-Ok-compile-clause-ok g c =
    compiled_input c.args.node.now (g.S.Ends.left c.args.input.now) c.in-Ok.bytes.items _ _
    c.in-Ok.ensures.ok c.deref.ensures.value c.in-Ok-compile.ensures.compiled

pub returns-clause-err : goal.returns-clause-err
returns-clause-err g c =
    uncompiled_unread c.args.node.now (g.S.Ends.left c.args.input.now) _ _ c.in-Ok.bytes.items _ c.in-Err-compile.error c.uncompiled.result
    c.in-Ok.ensures.ok c.deref.ensures.value c.in-Err-compile.ensures.refused c.uncompiled.ensures
