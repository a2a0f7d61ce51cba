use Rattle.std.proofs.Common.{refl, codes, []}
use Rattle.mof_syntax.specs.Separators.{blank, line, block, at_end, at_feed, over, shut, inside, none, another}
use Rattle.mof_syntax.proofs.Absent.{no_separator}
use Rattle.mof_examples.proofs.laws.separators_are_spelled.Goals as goal

pub returns : goal.returns
returns c = record {
  tab = blank 9 (codes "b") refl;
  line_to_its_end = line (codes " a\nb") (codes "\nb") (over 32 (codes "a\nb") (codes "\nb") refl (over 97 (codes "\nb") (codes "\nb") refl (at_feed (codes "b"))));
  line_past_a_return = line (codes "\rb") [] (over 13 (codes "b") [] refl (over 98 [] [] refl at_end));
  empty_line = line [] [] at_end;
  block = block (codes " a */b") (codes "b") (inside 32 (codes "a */b") (codes "b") refl (inside 97 (codes " */b") (codes "b") refl (inside 32 (codes "*/b") (codes "b") refl (shut (codes "b")))));
  shortest_block = block (codes "*/b*/") (codes "b*/") (shut (codes "b*/"));
  stars = block (codes "**/") [] (inside 42 (codes "*/") [] refl (shut []));
  several = another (codes " /**/\n//") (codes "/**/\n//") [] (blank 32 (codes "/**/\n//") refl)
      (another (codes "/**/\n//") (codes "\n//") [] (block (codes "*/\n//") (codes "\n//") (shut (codes "\n//")))
      (another (codes "\n//") (codes "//") [] (blank 10 (codes "//") refl) (another (codes "//") [] [] (line [] [] at_end) (none []))));
  no_letter = no_separator _ refl;
  no_form_feed = no_separator _ refl;
  no_slash_alone = no_separator _ refl;
  no_open_block = no_separator _ refl;
  no_shared_star = no_separator _ refl;
  no_end = no_separator _ refl;
}
