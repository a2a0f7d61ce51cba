use Rattle.std.proofs.Common.{List, subst}
use Rattle.std.specs.List.{AllByRecursion}
use Rattle.pull_store.specs.declared.row.Row.{Row}
use Rattle.pull_store.specs.Sound.{IsRow}
use Rattle.pull_store.proofs.Sizes.{keepable_of}
use Rattle.pull_store.proofs.whole.WholeSpelling.spell_next.Goals as goal

pub spell_registration-requires-clause-size : goal.spell_registration-requires-clause-size
spell_registration-requires-clause-size c =
    let each = subst (λ (rows : List Row). AllByRecursion IsRow rows) c.in-Some.ensures.row c.requires.ready.each in
    keepable_of c.in-Some.row.now.registration each.0.registration
