-- The command `checksum`.
use Rattle.std.specs.Prelude.{◌≡◌, ◌⊎◌, ℕ, List, ◌++◌, codes, Option, Err}
use Rattle.dsc_terms.specs.Counts.{Rose}
use Rattle.sha2.specs.Sha256.{sha256}
use Rattle.shared_key.specs.Checksum.{checksum_of}
use Rattle.dsc_node.specs.declared.status.InputError.{InputError}
use Rattle.dsc_node.specs.declared.status.Status.{Status}
use Rattle.dsc_node.specs.declared.status.Status.TheVariants.{Memory}
use Rattle.lcm_program.specs.Input.{IsInput, Reading, ReadsBytes}
use Rattle.lcm_program.specs.Objects.{Known, Objects}
use Rattle.lcm_program.specs.Tool.{RanTool, Shows}

-- the most bytes of an input: 64 MiB
abbrev pub checksum_limit : ℕ
checksum_limit = 67108864

-- the checksum of a digest, and a line end
abbrev pub checksum_line : List ℕ → List ℕ
checksum_line digest = checksum_of digest ++ codes "\n"

-- the checksum of the SHA-256 digest (FIPS 180-4)
abbrev pub IsChecksumLine : List ℕ → List ℕ → Type 0
IsChecksumLine bytes text = text ≡ checksum_line (sha256 bytes)

abbrev pub AnswersChecksum : Reading (List ℕ)
AnswersChecksum = Shows (ReadsBytes checksum_limit) IsChecksumLine

-- the input is refused, or a read failed
abbrev pub HasRefusal : Option (List ℕ) → ℕ → ℕ → Type 0
HasRefusal input before now = ((error : InputError) × IsInput AnswersChecksum input (Err error)) ⊎ Rose before now

-- memory is taken for the line of a refusal alone
pub record Checksummed {S K D M L C : Type 0} (o : Known S K D M L C) (status : Status) (before after : Objects S K D M L C) : Type 0 where
  pub tool : RanTool AnswersChecksum o status before after
  pub memory : status ≡ Memory → HasRefusal (o.source.left before.input) (o.source.faults before.input) (o.source.faults after.input)
