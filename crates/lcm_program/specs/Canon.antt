-- The command `canon`.
use Rattle.std.specs.Prelude.{◌≡◌, ℕ, List}
use Rattle.mof_values.specs.declared.instance.Instance.{Instance}
use Rattle.mof_syntax.specs.Canonical.{canonical_bytes}
use Rattle.lcm_program.specs.Input.{Reading, ReadsInstances}
use Rattle.lcm_program.specs.Tool.{Shows}

abbrev pub IsCanonicalText : List Instance → List ℕ → Type 0
IsCanonicalText instances text = text ≡ canonical_bytes instances

abbrev pub AnswersCanon : Reading (List ℕ)
AnswersCanon = Shows ReadsInstances IsCanonicalText
