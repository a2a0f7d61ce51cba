use Rattle.std.proofs.Common.{ap, ◌∙◌}
use Rattle.memory_outside.specs.MemoryHost.{kind_at}
use Rattle.memory_outside.proofs.PathEntries.{kind_put}
use Rattle.memory_outside.proofs.paths.put_file.Goals as goal

pub returns-clause-ok : goal.returns-clause-ok
returns-clause-ok c =
    let left = rw c.reserve.ensures.items at c.remove.ensures.removed in
    let adds = rw (c.deref.ensures.value, c.in_ok-file.ensures) at c.in_ok-added.ensures in
    ap kind_at c.append.ensures ∙ kind_put c.args.path.now c.args.bytes.now c.args.paths.now.items c.remove.new.paths.items c.in_ok-added.added.items left adds
