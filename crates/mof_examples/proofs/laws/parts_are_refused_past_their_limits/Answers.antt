use Rattle.std.proofs.Common.{◌≡◌, ℕ, suc, List, [], ◌++◌, codes, refl}
use Rattle.mof_codec.proofs.Searched.{refusal_wins, no_refusal_spells}
use Rattle.mof_codec.proofs.Repeats.{properties_refused, properties_taken, elements_refused, elements_taken, declarations_refused, declarations_taken}
use Rattle.mof_examples.specs.Placed.{many}
use Rattle.mof_examples.proofs.laws.parts_are_refused_past_their_limits.Goals as goal

module _ (part rest : List ℕ) where
  abbrev parts : ℕ → List ℕ
  parts n = many n part rest

  none : parts 0 ≡ rest
  unfolding many
  none = refl

  one : (n : ℕ) → parts (suc n) ≡ part ++ parts n
  unfolding many
  one n = refl

pub returns : goal.returns
returns c = record {
  most_properties = no_refusal_spells _ (properties_taken (parts (codes "P=1;") (codes "};")) (one (codes "P=1;") (codes "};")) (none (codes "P=1;") (codes "};")));
  property = refusal_wins _ _ (properties_refused (parts (codes "P=1;") (codes "P=1;};")) (one (codes "P=1;") (codes "P=1;};")) (none (codes "P=1;") (codes "P=1;};")));
  most_elements = no_refusal_spells _ (elements_taken (parts (codes "1,") (codes "1};};")) (one (codes "1,") (codes "1};};")) (none (codes "1,") (codes "1};};")));
  element = refusal_wins _ _ (elements_refused (parts (codes "1,") (codes "1};};")) (one (codes "1,") (codes "1};};")) (none (codes "1,") (codes "1};};")));
  most_declarations = no_refusal_spells _ (declarations_taken (parts (codes "instance of A{};") []) (one (codes "instance of A{};") []) (none (codes "instance of A{};") []));
  declaration = refusal_wins _ _ (declarations_refused (parts (codes "instance of A{};") (codes "instance of A{};")) (one (codes "instance of A{};") (codes "instance of A{};")) (none (codes "instance of A{};") (codes "instance of A{};")));
}
