use Rattle.std.proofs.Common.{refl}
use Rattle.mof_codec.specs.Machine.{begin}
use Rattle.mof_codec.proofs.Searched.{no_refusal_spells, refusal_wins}
use Rattle.mof_examples.proofs.laws.numbers_are_refused_out_of_their_range.Goals as goal

pub returns : goal.returns
unfolding begin
returns c = record {
  greatest = no_refusal_spells _ refl;
  greater = refusal_wins _ _ refl;
  least = no_refusal_spells _ refl;
  less = refusal_wins _ _ refl;
  third_property = refusal_wins _ _ refl;
  at_the_end = refusal_wins _ _ refl;
  before_a_fault = refusal_wins _ _ refl;
  after_a_fault = refusal_wins _ _ refl;
  before_a_point = refusal_wins _ _ refl;
  octal_before_a_point = refusal_wins _ _ refl;
  octal_before_a_decimal = refusal_wins _ _ refl;
  in_a_literal = no_refusal_spells _ refl;
}
