use Rattle.std.proofs.Common.{rules, ◌≢◌, ℕ, List, IfErr, subst}
use Rattle.mof_values.specs.declared.instance.Instance.{Instance}
use Rattle.mof_syntax.specs.declared.mof_error.MofError.TheVariants.{Memory}
use Rattle.mof_syntax.specs.Refusals.{Reads}
use Rattle.mof_codec.proofs.feed.Feed.finish.Goals as goal

pub returns-clause-only : goal.returns-clause-only
returns-clause-only c =
    subst (λ (bytes : List ℕ). IfErr c.read.result (λ e. e ≢ Memory → (all : List Instance) → Reads bytes all → ⊥)) (search rules) c.read.ensures.only
