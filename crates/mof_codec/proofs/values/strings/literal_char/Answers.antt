use Rattle.mof_syntax.proofs.Literals.{ne_test}
use Rattle.mof_codec.proofs.Options.{map_some}
use Rattle.mof_codec.proofs.Escapes.{goes_on_by_plain, goes_on_by_escape}
use Rattle.mof_codec.proofs.values.strings.literal_char.Goals as goal

pub returns-then-c-eq92-clause-some : goal.returns-then-c-eq92-clause-some
returns-then-c-eq92-clause-some c =
    map_some _ _ _ (λ found h. goes_on_by_escape _ _ _ _ _ c.in_ok-c.ensures.some c.if-c-eq92.true h) c.escape.ensures.some

pub returns-clause-some : goal.returns-clause-some
returns-clause-some c = goes_on_by_plain _ _ _ c.in_ok-c.ensures.some (ne_test _ _ c.if-c-eq34.false) (ne_test _ _ c.if-c-eq92.false)
