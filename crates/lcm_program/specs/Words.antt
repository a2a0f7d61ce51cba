-- The forms of the command line.
use Rattle.std.specs.Prelude.{◌≡◌, ℕ, ◌+◌, ◌<◌, ◌≤◌, List, [], ◌∷◌, ◌++◌, length, take, Option, Some, None, option_map, codes, ⊤}
use Rattle.std.specs.Fmt.{decimal}
use Rattle.std.specs.Int.{w128, from_be_bytes}
use Rattle.uuid.specs.Text.{parsed}
use Rattle.dsc_document.specs.declared.limits.TheConstants.{MAX_RESOURCES}
use Rattle.mof_values.specs.declared.limits.TheConstants.{MAX_NAME_BYTES}
use Rattle.node_state.specs.declared.event.Stage.{Stage}
use Rattle.node_state.specs.declared.event.Stage.TheVariants.{Pending, Current, Previous}
use Rattle.lcm_program.specs.declared.words.Command.{Command}
use Rattle.lcm_program.specs.declared.words.Command.TheVariants.{Test, Check, Order, Canon, Checksum, Compile, Generate, Init, Meta, Register, Pull, Push, Consistency, Boot, Get, Restore, Remove, Reports}

-- the argument is this number of resources, in decimal
abbrev pub IsCount : List ℕ → ℕ → Type 0
IsCount word count = (word ≡ decimal count) × (0 < count) × (count ≤ MAX_RESOURCES)

-- the number of an agent's identifier, in any form of RFC 9562 that `uuid` reads
unfoldable pub agent_of : List ℕ → Option ℕ
agent_of word = option_map (from_be_bytes w128) (parsed word)

abbrev pub IsAgent : List ℕ → ℕ → Type 0
IsAgent word agent = agent_of word ≡ Some agent

-- the argument can name a node, or a partial configuration
abbrev pub IsName : List ℕ → Type 0
IsName word = (0 < length word) × (length word ≤ MAX_NAME_BYTES)

abbrev pub stage_name : Stage → List ℕ
stage_name Pending = codes "pending"
stage_name Current = codes "current"
stage_name Previous = codes "previous"

-- the argument names the stage
abbrev pub IsStage : List ℕ → Stage → Type 0
IsStage word stage = word ≡ stage_name stage

-- the arguments, each in UTF-8, ask for the command
abbrev pub IsForm : Command → List (List ℕ) → Type 0
IsForm Test arguments = arguments ≡ codes "test" ∷ []
IsForm Check arguments = arguments ≡ codes "check" ∷ []
IsForm Order arguments = arguments ≡ codes "order" ∷ []
IsForm Canon arguments = arguments ≡ codes "canon" ∷ []
IsForm Checksum arguments = arguments ≡ codes "checksum" ∷ []
IsForm (Compile node) arguments = (arguments ≡ codes "compile" ∷ node.now ∷ []) × IsName node.now
IsForm (Generate count) arguments = (word : List ℕ) × (arguments ≡ codes "generate" ∷ word ∷ []) × IsCount word count
IsForm (Init agent) arguments = (word : List ℕ) × (arguments ≡ codes "init" ∷ word ∷ []) × IsAgent word agent
IsForm Meta arguments = arguments ≡ codes "meta" ∷ []
IsForm (Register name) arguments = (arguments ≡ codes "register" ∷ name.now ∷ []) × IsName name.now
IsForm Pull arguments = arguments ≡ codes "pull" ∷ []
IsForm (Push None) arguments = arguments ≡ codes "push" ∷ []
IsForm (Push (Some name)) arguments = (arguments ≡ codes "push" ∷ name.now ∷ []) × IsName name.now
IsForm Consistency arguments = arguments ≡ codes "consistency" ∷ []
IsForm Boot arguments = arguments ≡ codes "boot" ∷ []
IsForm Get arguments = arguments ≡ codes "get" ∷ []
IsForm Restore arguments = arguments ≡ codes "restore" ∷ []
IsForm (Remove stage) arguments = (word : List ℕ) × (arguments ≡ codes "remove" ∷ word ∷ []) × IsStage word stage
IsForm Reports arguments = arguments ≡ codes "reports" ∷ []

-- the number of a command is one that its arguments can give
abbrev pub IsInRange : Command → Type 0
IsInRange (Generate count) = (0 < count) × (count ≤ MAX_RESOURCES)
IsInRange _ = ⊤

-- what the program is asked for: a command of the node, or the rehearsal of a script
pub data Asked : Type 0 where
  to_do : Command → Asked
  to_rehearse : Asked

abbrev pub IsAsked : Asked → List (List ℕ) → Type 0
IsAsked (to_do command) arguments = IsForm command arguments
IsAsked to_rehearse arguments = arguments ≡ codes "rehearse" ∷ []

-- one of these forms begins with these arguments
abbrev pub BeginsForm : {A : Type 0} → (A → List (List ℕ) → Type 0) → List (List ℕ) → Type 0
BeginsForm {A} is_form arguments = (asked : A) × (more : List (List ℕ)) × is_form asked (arguments ++ more)

-- the arguments are in none of these forms; the front before that place begins one, and none goes on with the argument there
pub record IsUsageOf {A : Type 0} (is_form : A → List (List ℕ) → Type 0) (arguments : List (List ℕ)) (place : ℕ) : Type 0 where
  pub no_form : (asked : A) → is_form asked arguments → ⊥
  pub within : place ≤ length arguments
  pub begins : BeginsForm is_form (take place arguments)
  pub stops : place < length arguments → BeginsForm is_form (take (place + 1) arguments) → ⊥

-- the same of the forms of the node's commands
abbrev pub IsUsage : List (List ℕ) → ℕ → Type 0
IsUsage arguments place = IsUsageOf IsForm arguments place
