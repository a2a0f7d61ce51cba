-- How readers of parts answer; for private clauses. A language is a set of texts.
use Rattle.std.specs.Prelude.{◌≡◌, ◌⊎◌, ◌≤◌, ℕ, List, [], ◌∷◌, ◌++◌, encode_utf8, length, true, Some, Result, Ok, Err, min, codes, ⊤}
use Rattle.std.specs.Str.{all_scalars}
use Rattle.mof_values.specs.Fold.{SameName}
use Rattle.pull_messages.specs.declared.parts.Stop.{Stop}
use Rattle.pull_messages.specs.declared.parts.Stop.TheVariants.{Left, Memory}
use Rattle.pull_messages.specs.Targets.{agent_of, doubled, IsQuoted, SpellsTarget}
use Rattle.pull_messages.specs.declared.target_kinds.FleetTarget.{FleetTarget}
use Rattle.pull_messages.specs.declared.target_kinds.Target.{Target}
use Rattle.pull_messages.specs.FleetTargets.{SpellsFleetTarget}

-- some text of the language begins with the front
abbrev pub Begins : (List ℕ → Type 0) → List ℕ → Type 0
Begins language front = (tail : List ℕ) × (all_scalars tail ≡ true) × language (front ++ tail)

-- that many characters are left after the longest front with which some text of the language begins; it is none itself
pub record StopsAt (language : List ℕ → Type 0) (chars : List ℕ) (left : ℕ) : Type 0 where
  pub front : List ℕ
  pub rest : List ℕ
  pub split : chars ≡ front ++ rest
  pub size : length rest ≡ left
  pub begins : Begins language front
  pub whole : language front → ⊥
  pub longest : (more after : List ℕ) → chars ≡ more ++ after → Begins language more → left ≤ length after

-- the same of characters that are no text of the language
pub record EndsAt (language : List ℕ → Type 0) (chars : List ℕ) (left : ℕ) : Type 0 where
  pub front : List ℕ
  pub rest : List ℕ
  pub split : chars ≡ front ++ rest
  pub size : length rest ≡ left
  pub begins : Begins language front
  pub none : language chars → ⊥
  pub longest : (more after : List ℕ) → chars ≡ more ++ after → Begins language more → left ≤ length after

-- the fact holds of the count, where the answer names one
abbrev pub IfLeft : {T : Type 0} → Result T Stop → (ℕ → Type 0) → Type 0
IfLeft (Ok x) P = ⊤
IfLeft (Err (Left count)) P = P count
IfLeft (Err Memory) P = ⊤

-- the languages of the parts
abbrev pub IsWord : List ℕ → List ℕ → Type 0
IsWord name text = SameName text name

abbrev pub IsAgent : List ℕ → Type 0
IsAgent text = (id : ℕ) × (agent_of text ≡ Some id)

abbrev pub IsAnyQuoted : ℕ → List ℕ → Type 0
IsAnyQuoted end text = (value : List ℕ) × IsQuoted value end text

-- what may stand after a quoted text
abbrev pub IsEnd : ℕ → Type 0
IsEnd end = (end ≡ 41) ⊎ (end ≡ 44)

-- a character of a value stands there, and it has that many bytes at most
abbrev pub IsValueChar : List ℕ → ℕ → ℕ → List ℕ → Type 0
IsValueChar chars capacity c rest = (chars ≡ doubled (c ∷ []) ++ rest) × (length (encode_utf8 c) ≤ capacity)

-- a text of one, and after it one of the other
abbrev pub Then : (List ℕ → Type 0) → (List ℕ → Type 0) → List ℕ → Type 0
Then one other text = (a : List ℕ) × (b : List ℕ) × (text ≡ a ++ b) × one a × other b

-- what was taken is spelled by a front
abbrev pub Takes : (List ℕ → Type 0) → List ℕ → List ℕ → Type 0
Takes spelled chars rest = (front : List ℕ) × (chars ≡ front ++ rest) × spelled front

-- the languages of the forms
abbrev pub IsAgentForm : List ℕ → List ℕ → Type 0
IsAgentForm end = Then (IsWord (codes "/PSDSCPullServer.svc/Nodes(AgentId='")) (Then IsAgent (IsWord end))

abbrev pub IsContentForm : List ℕ → Type 0
IsContentForm =
    Then (IsAgentForm (codes "')/Configurations(ConfigurationName=")) (Then (IsAnyQuoted 41) (IsWord (codes "/ConfigurationContent")))

abbrev pub IsModuleForm : List ℕ → Type 0
IsModuleForm =
    Then (IsWord (codes "/PSDSCPullServer.svc/Modules(ModuleName=")) (Then (IsAnyQuoted 44)
    (Then (IsWord (codes "ModuleVersion=")) (Then (IsAnyQuoted 41) (IsWord (codes "/ModuleContent")))))

abbrev pub IsReportForm : List ℕ → Type 0
IsReportForm = Then (IsAgentForm (codes "')/Reports(JobId='")) (Then IsAgent (IsWord (codes "')")))

abbrev pub IsAnyTarget : List ℕ → Type 0
IsAnyTarget text = (target : Target) × SpellsTarget target text

abbrev pub IsAnyFleetTarget : List ℕ → Type 0
IsAnyFleetTarget text = (target : FleetTarget) × SpellsFleetTarget target text

-- a target, or the longer front
abbrev pub better_of : Result Target Stop → Result Target Stop → Result Target Stop
better_of (Ok target) other = Ok target
better_of (Err (Left left)) (Ok target) = Ok target
better_of (Err (Left left)) (Err (Left after)) = Err (Left (min left after))
better_of (Err (Left left)) (Err Memory) = Err Memory
better_of (Err Memory) (Ok target) = Ok target
better_of (Err Memory) (Err stop) = Err Memory
