use Rattle.std.proofs.Common.{◌↔◌, IsTrue, sym, subst}
use Rattle.dsc_outside.specs.Host.{Tells}
use Rattle.resource_kinds.specs.Holds.{Holds}
use Rattle.resource_kinds.specs.declared.wanted.Wanted.TheVariants as wants
use Rattle.resource_kinds.proofs.testing.has_file_of.Goals as goal

pub returns-in-None-clause-answer : goal.returns-in-None-clause-answer
returns-in-None-clause-answer g c =
    subst (λ x. Tells (g.H.Host.shown c.args.host.now) c.has_file.result (λ state b. IsTrue b ↔ Holds state (wants.File c.args.path.now x))) (sym c.in-None.is) c.has_file.ensures.answer
