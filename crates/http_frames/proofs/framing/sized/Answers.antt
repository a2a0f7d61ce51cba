use Rattle.std.proofs.Common.{◌<◌, ◌^◌, ℕ, List, subst, sym}
use Rattle.std.specs.Str.Parse.{digits_value}
use Rattle.http_frames.proofs.Digits.{length_is_small}
use Rattle.http_frames.proofs.framing.sized.Goals as goal

pub number-length-requires-clause-small : goal.number-length-requires-clause-small
number-length-requires-clause-small c =
    subst (λ (v : List ℕ). digits_value 10 v < 2 ^ 60) (sym c.as_slice.ensures) (length_is_small c.args.header.now.value c.requires)
