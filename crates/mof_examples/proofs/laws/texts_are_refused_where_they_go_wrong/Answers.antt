use Rattle.std.proofs.Common.{refl}
use Rattle.mof_codec.specs.Machine.{begin}
use Rattle.mof_codec.proofs.Searched.{refusal_wins}
use Rattle.mof_examples.proofs.laws.texts_are_refused_where_they_go_wrong.Goals as goal

pub returns : goal.returns
unfolding begin
returns c = record {
  open_literal = refusal_wins _ _ refl;
  no_semicolon = refusal_wins _ _ refl;
  no_last_semicolon = refusal_wins _ _ refl;
  open_comment = refusal_wins _ _ refl;
  surrogate = refusal_wins _ _ refl;
  octal_8 = refusal_wins _ _ refl;
}
