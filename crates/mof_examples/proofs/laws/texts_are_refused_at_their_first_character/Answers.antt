use Rattle.std.proofs.Common.{refl, []}
use Rattle.mof_syntax.specs.declared.mof_error.Form.TheVariants as forms
use Rattle.mof_syntax.specs.Profile.{pragma, qualifiers, class, qualifier}
use Rattle.mof_examples.proofs.Refusing.{empty_wide, wrong_at_once, begins_at_once, form_refused, no_longer_word}
use Rattle.mof_examples.proofs.laws.texts_are_refused_at_their_first_character.Goals as goal

pub returns : goal.returns
returns c = record {
  pragma = form_refused 35 _ forms.Pragma (record { no_blank = refl; no_slash = refl; no_keyword = refl }) (pragma (begins_at_once _) refl);
  qualifiers = form_refused 91 _ forms.Qualifiers (record { no_blank = refl; no_slash = refl; no_keyword = refl }) (qualifiers (begins_at_once _) refl);
  class = form_refused 67 _ forms.Class (record { no_blank = refl; no_slash = refl; no_keyword = refl }) (class (begins_at_once _) (record { same = refl; stops = refl }));
  qualifier = form_refused 113 _ forms.Qualifier (record { no_blank = refl; no_slash = refl; no_keyword = refl }) (qualifier (begins_at_once _) (record { same = refl; stops = refl }));
  syntax = wrong_at_once 120 [] (record { no_blank = refl; no_slash = refl; no_keyword = refl });
  longer_word = wrong_at_once 99 _ (record { no_blank = refl; no_slash = refl; no_keyword = refl });
  no_longer_word = no_longer_word;
  no_empty_text = λ at a. a.outside empty_wide;
}
