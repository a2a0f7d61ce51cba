-- Which refusals apply to texts that go wrong with their first character, by example.
use Rattle.std.specs.Prelude.{codes, ℕ}
use Rattle.mof_syntax.specs.declared.mof_error.MofError.TheVariants.{OutOfProfile, Syntax}
use Rattle.mof_syntax.specs.declared.mof_error.Form.TheVariants as forms
use Rattle.mof_syntax.specs.Refusals.{Applies, Wins}

pub record RefusalExamples : Type 0 where
  pub pragma : Wins (codes "#pragma locale (\"en\")") (OutOfProfile 0 forms.Pragma)
  pub qualifiers : Wins (codes "[Key] instance") (OutOfProfile 0 forms.Qualifiers)
  pub class : Wins (codes "Class A {};") (OutOfProfile 0 forms.Class)
  pub qualifier : Wins (codes "qualifier Key : boolean;") (OutOfProfile 0 forms.Qualifier)
  pub syntax : Applies (codes "x") (Syntax 0)
  pub longer_word : Applies (codes "classes A {};") (Syntax 0)
  pub no_longer_word : Applies (codes "classes A {};") (OutOfProfile 0 forms.Class) → ⊥
  pub no_empty_text : (at : ℕ) → Applies (codes "") (Syntax at) → ⊥
