use Rattle.std.proofs.Common.{refl, take, ◌++◌, ◌∷◌, []}
use Rattle.mof_codec.specs.Machine.{begin}
use Rattle.mof_codec.proofs.Searched.{no_refusal_spells, refusal_wins, taken_front}
use Rattle.mof_examples.specs.Placed.{long_literal}
use Rattle.mof_examples.proofs.laws.identifiers_are_refused_past_their_limit.Goals as goal

pub returns : goal.returns
unfolding begin
returns c = record {
  longest = no_refusal_spells _ refl;
  class = refusal_wins _ _ refl;
  alias = refusal_wins _ _ refl;
  property = refusal_wins _ _ refl;
  at_the_end = refusal_wins _ _ refl;
  where_none_stands = refusal_wins _ _ refl;
  in_a_literal = no_refusal_spells _ refl;
  not_after_an_escape = λ b. b.outside (taken_front (take 26 long_literal ++ 35 ∷ []) refl);
}
