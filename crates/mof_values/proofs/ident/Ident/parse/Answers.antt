use Rattle.std.proofs.Common.{subst, ◌<◌, ℕ}
use Rattle.mof_values.specs.declared.limits.TheConstants.{MAX_IDENTIFIER}
use Rattle.mof_values.proofs.Idents.{long_is_no_ident}
use Rattle.mof_values.proofs.ident.Ident.parse.Goals as goal

pub returns-then-char_count-gt-MAX_IDENTIFIER-clause-refused : goal.returns-then-char_count-gt-MAX_IDENTIFIER-clause-refused
returns-then-char_count-gt-MAX_IDENTIFIER-clause-refused c =
    λ refused. long_is_no_ident _ (subst (λ (n : ℕ). MAX_IDENTIFIER < n) c.char_count.ensures c.if-char_count-gt-MAX_IDENTIFIER.true)
