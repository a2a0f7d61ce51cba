-- The text of generated instances is never refused.
use Rattle.std.specs.Prelude.{◌≢◌, ℕ, [], ◌∷◌}
use Rattle.dsc_document.specs.declared.document.Document.{Document}
use Rattle.mof_syntax.specs.Canonical.{canonical_bytes}
use Rattle.partial_merge.specs.declared.error.MergeError.{MergeError}
use Rattle.partial_merge.specs.declared.error.MergeError.TheVariants.{Memory}
use Rattle.partial_merge.specs.Refused.{Refused}
use Rattle.generated_document.specs.Generated.{IsGenerated, generated_instances}
use Rattle.partial_merge.specs.Parts.{unnamed_part}

-- no refusal but out of memory applies to the text of that count
abbrev pub IsNeverRefused : ℕ → Type 0
IsNeverRefused count =
    (refusal : MergeError) → refusal ≢ Memory → Refused (unnamed_part (canonical_bytes (generated_instances count)) ∷ []) refusal → ⊥

-- the text of that count declares a document
abbrev pub Exists : ℕ → Type 0
Exists count = (document : Document) × IsGenerated count document
