-- The command `compile`.
use Rattle.std.specs.Prelude.{◌≢◌, ℕ, ◌<◌, ◌≤◌, List, length, Ok, Err}
use Rattle.config_script.specs.declared.error.CompileError.{CompileError}
use Rattle.config_script.specs.declared.error.CompileError.TheVariants as reasons
use Rattle.config_script.specs.declared.limits.TheConstants.{MAX_SCRIPT}
use Rattle.config_script.specs.Refused.{Compiles, Refuses}
use Rattle.dsc_node.specs.declared.status.InputError.TheVariants.{TooLong, Compile}
use Rattle.lcm_program.specs.Input.{Reading}

-- the most bytes of an input: those of a script
abbrev pub script_limit : ℕ
script_limit = MAX_SCRIPT

-- the bytes are within the limit and give the node no document for this reason, which wins
pub record IsUncompiled (node all : List ℕ) (reason : CompileError) : Type 0 where
  pub fits : length all ≤ script_limit
  pub refuses : Refuses all node reason
  pub cause : reason ≢ reasons.Memory

-- the text of the document that the script in the bytes gives the node of this name
abbrev pub AnswersCompile : List ℕ → Reading (List ℕ)
AnswersCompile node all (Ok text) = Compiles all node text
AnswersCompile node all (Err TooLong) = script_limit < length all
AnswersCompile node all (Err (Compile reason)) = IsUncompiled node all reason
AnswersCompile node all (Err _) = ⊥
