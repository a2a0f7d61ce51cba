-- Which characters are separators, by example.
use Rattle.std.specs.Prelude.{codes, [], ◌∷◌}
use Rattle.mof_syntax.specs.Separators.{Separator, Separators}
use Rattle.mof_syntax.specs.Walk.{NoSeparator}

pub record SeparatorExamples : Type 0 where
  pub tab : Separator (codes "\tb") (codes "b")
  pub line_to_its_end : Separator (codes "// a\nb") (codes "\nb")
  pub line_past_a_return : Separator (codes "//\rb") []
  pub empty_line : Separator (codes "//") []
  pub block : Separator (codes "/* a */b") (codes "b")
  pub shortest_block : Separator (codes "/**/b*/") (codes "b*/")
  pub stars : Separator (codes "/***/") []
  pub several : Separators (codes " /**/\n//") []
  pub no_letter : NoSeparator (codes "b")
  pub no_form_feed : NoSeparator (12 ∷ codes "b")
  pub no_slash_alone : NoSeparator (codes "/")
  pub no_open_block : NoSeparator (codes "/* a")
  pub no_shared_star : NoSeparator (codes "/*/")
  pub no_end : NoSeparator []
