use Rattle.memory_outside.proofs.paths.with_missing_above.Goals as goal

pub returns : goal.returns
returns c other = rw (← c.in_ok-added.ensures other) (c.in_ok-push.ensures other)
