-- Where making a path finds no memory, the text means a path.
use Rattle.std.proofs.Common.{◌≡◌, ℕ, List, true, Option, Some, None, is_some, Result, Ok, Err, subst, sym}
use Rattle.std.specs.Prelude.{MatchResult}
use Rattle.std.specs.Result.{IsErrAnd}
use Rattle.mof_values.specs.declared.instance.Instance.{Instance}
use Rattle.resource_kinds.specs.declared.wanted.Wanted.{Wanted}
use Rattle.resource_kinds.specs.declared.wanted.WantedError.{WantedError}
use Rattle.resource_kinds.specs.declared.wanted.WantedError.TheVariants as errors
use Rattle.resource_kinds.specs.Wanted.{IsWhy, on_path, standing_at}

pub why_memory : (instance : Instance) (found : Option (List ℕ)) (r : Result Wanted WantedError) → is_some found ≡ true → IsErrAnd r (λ e. e ≡ errors.Memory)
    → MatchResult r (λ wanted. on_path instance found ≡ Ok wanted) (λ error. IsWhy (on_path instance found) error)
why_memory instance None r some is = absurd (cc (some))
why_memory instance (Some path) (Ok wanted) some is = absurd is
why_memory instance (Some path) (Err error) some is = subst (IsWhy (Ok (standing_at instance path))) (sym is) tt
