-- The command line.
use Rattle.std.specs.Prelude.{◌≡◌, ◌⊎◌, ℕ, ◌<◌, Bool, false, cond, List, [], ◌∷◌, length, drop, bytes_eq, codes}

-- programs are on where the first word after the program's name is `--programs`
abbrev pub programs_on : List (List ℕ) → Bool
programs_on (program ∷ first ∷ words) = bytes_eq first (codes "--programs")
programs_on _ = false

-- the words after the program's name, and after `--programs` where that is the first
abbrev pub words_after : Bool → List (List ℕ) → List (List ℕ)
words_after programs line = drop (cond programs 2 1) line

-- STORE, HOST and the arguments; neither STORE nor HOST is empty
pub record IsWhole (words : List (List ℕ)) (store host : List ℕ) (arguments : List (List ℕ)) : Type 0 where
  pub are : words ≡ store ∷ host ∷ arguments
  pub some_store : 0 < length store
  pub some_host : 0 < length host

-- words that are not whole have no arguments
abbrev pub IsSplit : List (List ℕ) → List ℕ → List ℕ → List (List ℕ) → Type 0
IsSplit words store host arguments =
    IsWhole words store host arguments ⊎ (((s h : List ℕ) (a : List (List ℕ)) → IsWhole words s h a → ⊥) × (arguments ≡ []))

-- a line, as it is read
pub record IsCommandLine (line : List (List ℕ)) (programs : Bool) (store host : List ℕ) (arguments : List (List ℕ)) : Type 0 where
  pub switch : programs ≡ programs_on line
  pub split : IsSplit (words_after programs line) store host arguments
