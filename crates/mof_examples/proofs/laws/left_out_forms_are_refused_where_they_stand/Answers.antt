use Rattle.std.proofs.Common.{refl}
use Rattle.mof_codec.specs.Machine.{begin}
use Rattle.mof_codec.proofs.Searched.{no_refusal_spells, refusal_wins}
use Rattle.mof_examples.proofs.laws.left_out_forms_are_refused_where_they_stand.Goals as goal

pub returns : goal.returns
unfolding begin
returns c = record {
  character = refusal_wins _ _ refl;
  element = refusal_wins _ _ refl;
  apostrophe_in_a_literal = no_refusal_spells _ refl;
  apostrophe_after_a_value = refusal_wins _ _ refl;
  real = refusal_wins _ _ refl;
  sign_and_point = refusal_wins _ _ refl;
  point_alone = refusal_wins _ _ refl;
  hexadecimal_point = refusal_wins _ _ refl;
  later_class = refusal_wins _ _ refl;
  later_pragma = refusal_wins _ _ refl;
  pragma_in_a_comment = no_refusal_spells _ refl;
  qualifiers_of_a_property = refusal_wins _ _ refl;
}
