-- The command `check`.
use Rattle.std.specs.Prelude.{◌≡◌, ℕ, List, ◌++◌, length, codes}
use Rattle.std.specs.Fmt.{decimal}
use Rattle.dsc_document.specs.declared.document.Document.{Document}
use Rattle.lcm_program.specs.Input.{Reading, ReadsDocument}
use Rattle.lcm_program.specs.Tool.{Shows}

-- how many resources there are
abbrev pub IsCountLine : Document → List ℕ → Type 0
IsCountLine document text = text ≡ codes "ok " ++ decimal (length document.resources) ++ codes "\n"

abbrev pub AnswersCheck : Reading (List ℕ)
AnswersCheck = Shows ReadsDocument IsCountLine
