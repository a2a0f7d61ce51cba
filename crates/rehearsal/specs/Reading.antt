-- How far a script has been read.
use Rattle.std.specs.Prelude.{◌≡◌, ℕ, ◌+◌, ◌<◌, ◌≤◌, List, [], ◌∷◌, ◌++◌, length, take, drop, codes}
use Rattle.std.specs.List.{AllByRecursion}
use Rattle.std.specs.Str.{IsUtf8}
use Rattle.rehearsal.specs.declared.line.Line.TheVariants.{TextBegins}
use Rattle.rehearsal.specs.declared.step.Step.{Step}
use Rattle.rehearsal.specs.declared.texts.NamedText.{NamedText}
use Rattle.rehearsal.specs.Script.{IsLine, IsTextLine, Reads, lines, text_of}

-- these bytes begin with a text of `used` bytes, and the line that ends it is the last of the first `past` bytes, and of as many lines as are counted
pub record IsTextEnd (bytes : List ℕ) (used past count : ℕ) : Type 0 where
  pub body : List (List ℕ)
  pub is : lines bytes ≡ body ++ codes "." ∷ lines (drop past bytes)
  pub own : AllByRecursion IsTextLine body
  pub text : take used bytes ≡ text_of body
  pub counts : count ≡ length body + 1
  pub used_within : used ≤ length bytes
  pub past_within : past ≤ length bytes
  pub few : count ≤ past

-- these lines of a text stand before that place
pub record IsInText (bytes : List ℕ) (used count : ℕ) : Type 0 where
  pub body : List (List ℕ)
  pub is : lines bytes ≡ body ++ lines (drop used bytes)
  pub own : AllByRecursion IsTextLine body
  pub text : used + 1 ≤ length bytes → take used bytes ≡ text_of body
  pub counts : count ≡ length body
  pub within : used ≤ length bytes
  pub few : count ≤ used

-- the lines before that place do these steps, and give these texts
pub record IsReadTo (script : List ℕ) (at count : ℕ) (steps : List Step) (texts : List NamedText) : Type 0 where
  pub done : List (List ℕ)
  pub is : lines script ≡ done ++ lines (drop at script)
  pub reads : Reads done steps texts
  pub counts : count ≡ length done
  pub within : at ≤ length script
  pub few : count ≤ at

-- the line at the first place begins a text of that name, and what follows it begins at the second
pub record BeginsText (script : List ℕ) (at from : ℕ) (name : List ℕ) (texts : List NamedText) : Type 0 where
  pub line : List ℕ
  pub is : lines (drop at script) ≡ line ∷ lines (drop from script)
  pub utf8 : IsUtf8 line
  pub begins : IsLine texts line (TextBegins name)
  pub on : at < from
  pub within : from ≤ length script
