use Rattle.std.proofs.Common.{refl}
use Rattle.std.specs.Fmt.{digits}
use Rattle.mof_examples.proofs.laws.canonical_texts_are_these.Goals as goal

pub returns : goal.returns
unfolding digits
returns c = record {
  none = refl;
  bare = refl;
  texts = refl;
  array = refl;
  empty_array = refl;
  two = refl;
  falsehood = refl;
  null = refl;
  alias = refl;
  zero = refl;
  least = refl;
  greatest = refl;
  escapes = refl;
  apostrophe = refl;
  controls = refl;
}
