-- The script of a rehearsal: its lines, the form of each, and the steps that they are.
use Rattle.std.specs.Prelude.{◌≡◌, ◌≢◌, ◌⊎◌, ℕ, ◌+◌, ◌<◌, ◌≤◌, ◌^◌, ◌==◌, Bool, true, false, ◌&&◌, ◌||◌, not, cond, nat_lt, if◌then◌else◌, List, [], ◌∷◌, ◌++◌, length, take, drop, bytes_eq, codes, Option, Some, None, ⊤}
use Rattle.std.specs.Fmt.{decimal}
use Rattle.std.specs.List.{AllByRecursion, flat_map, list_all, onto_first, slice_split}
use Rattle.std.specs.Str.{IsUtf8}
use Rattle.rehearsal.specs.declared.line.Line.{Line}
use Rattle.rehearsal.specs.declared.line.Line.TheVariants.{Empty, TextBegins, Does}
use Rattle.rehearsal.specs.declared.step.Step.{Step}
use Rattle.rehearsal.specs.declared.step.Step.TheVariants.{Shelf, Key, Wants, Start}
use Rattle.rehearsal.specs.declared.step.StopAt.{StopAt}
use Rattle.rehearsal.specs.declared.step.StopPart.{StopPart}
use Rattle.rehearsal.specs.declared.step.StopPart.TheVariants.{Old, New, Filled}
use Rattle.rehearsal.specs.declared.texts.NamedText.{NamedText}
use Rattle.rehearsal.specs.declared.script.ScriptError.{ScriptError}
use Rattle.rehearsal.specs.declared.script.ScriptError.TheVariants as errors

-- ---- lines and words

-- the lines: each ends with a line feed, which the last may lack
abbrev pub lines : List ℕ → List (List ℕ)
lines [] = []
lines (b ∷ bs) = cond (b == 10) ([] ∷ lines bs) (onto_first b (lines bs))

-- how many bytes stand before the first line feed
abbrev pub line_length : List ℕ → ℕ
line_length [] = 0
line_length (b ∷ bs) = cond (b == 10) 0 (1 + line_length bs)

-- the words of a text, which single spaces divide: one between spaces that stand together is empty
abbrev pub words : List ℕ → List (List ℕ)
words text = slice_split (λ b. b == 32) text

-- the latest of these texts that has the name, or else the one that was found before
abbrev pub latest : List ℕ → Option (List ℕ) → List NamedText → Option (List ℕ)
latest name found [] = found
latest name found (text ∷ texts) = latest name (if bytes_eq text.name name then Some text.text else found) texts

abbrev pub text_named : List ℕ → List NamedText → Option (List ℕ)
text_named name texts = latest name None texts

-- ---- the line of a start

-- a word that divides what follows from the words of a start
abbrev pub is_mark : List ℕ → Bool
is_mark word = bytes_eq word (codes "<") || bytes_eq word (codes "stop")

-- the place of the first of them, or the number of the words
abbrev pub mark_place : List (List ℕ) → ℕ
mark_place [] = 0
mark_place (word ∷ more) = cond (is_mark word) 0 (1 + mark_place more)

-- a word that a start may have
abbrev pub is_start_word : List ℕ → Bool
is_start_word word = nat_lt 0 (length word) && not (bytes_eq word (codes "generate")) && not (bytes_eq word (codes "rehearse"))

abbrev pub are_start_words : List (List ℕ) → Bool
are_start_words all = nat_lt 0 (length all) && list_all is_start_word all

-- the call of a stop, in decimal
abbrev pub IsCall : List ℕ → ℕ → Type 0
IsCall word call = (word ≡ decimal call) × (0 < call) × (call < 2 ^ 32)

abbrev pub part_word : StopPart → List ℕ
part_word Old = codes "0"
part_word New = codes "1"
part_word Filled = codes "2"

-- the words are those of a stop
abbrev pub IsStop : List (List ℕ) → Option StopAt → Type 0
IsStop all None = all ≡ []
IsStop all (Some stop) = (call : List ℕ) × (all ≡ codes "stop" ∷ call ∷ part_word stop.part ∷ []) × IsCall call stop.call

-- they are those of an input and a stop
abbrev pub IsEnd : List NamedText → List (List ℕ) → Option (List ℕ) → Option StopAt → Type 0
IsEnd texts all None stop = IsStop all stop
IsEnd texts all (Some text) stop =
    (name : List ℕ) × (more : List (List ℕ)) × (all ≡ codes "<" ∷ name ∷ more) × (text_named name texts ≡ Some text) × IsStop more stop

-- after `start`: words that a start may have, up to the first mark, and then its input and its stop
pub record IsStart (texts : List NamedText) (all : List (List ℕ)) (own : List (List ℕ)) (input : Option (List ℕ)) (stop : Option StopAt) : Type 0 where
  pub front : own ≡ take (mark_place all) all
  pub allowed : are_start_words own ≡ true
  pub end : IsEnd texts (drop (mark_place all) all) input stop

-- ---- lines

-- the line is empty, begins a text, or does a step, where these texts stand above it
abbrev pub IsLine : List NamedText → List ℕ → Line → Type 0
IsLine texts line Empty = line ≡ []
IsLine texts line (TextBegins name) = (rest : List ℕ) × (line ≡ codes "doc " ++ rest) × (words rest ≡ name ∷ []) × (0 < length name)
IsLine texts line (Does (Shelf configuration content)) =
    (rest name : List ℕ) × (line ≡ codes "shelf " ++ rest) × (words rest ≡ configuration ∷ name ∷ []) × (0 < length configuration) × (text_named name texts ≡ Some content)
IsLine texts line (Does (Key key)) = (line ≡ codes "key " ++ key) × (0 < length key)
IsLine texts line (Does (Wants id)) = (line ≡ codes "wants " ++ id) × (0 < length id)
IsLine texts line (Does (Start own input stop)) = (rest : List ℕ) × (line ≡ codes "start " ++ rest) × IsStart texts (words rest) own input stop

-- it is in no form, names an unknown text, or is not in UTF-8
abbrev pub IsNoLine : List NamedText → List ℕ → Type 0
IsNoLine texts line = IsUtf8 line → (read : Line) → IsLine texts line read → ⊥

-- a line of a text: any but the one that ends it
abbrev pub IsTextLine : List ℕ → Type 0
IsTextLine line = IsUtf8 line × (line ≢ codes ".")

-- the text that these lines are
abbrev pub text_of : List (List ℕ) → List ℕ
text_of body = flat_map (λ line. line ++ 10 ∷ []) body

-- ---- scripts

-- these lines do these steps, and give these texts
pub data Reads : List (List ℕ) → List Step → List NamedText → Type 0 where
  nothing : Reads [] [] []
  empty : (done : List (List ℕ)) (steps : List Step) (texts : List NamedText) → Reads done steps texts → Reads (done ++ [] ∷ []) steps texts
  text : (done : List (List ℕ)) (steps : List Step) (texts : List NamedText) (line name : List ℕ) (body : List (List ℕ)) → Reads done steps texts
      → IsUtf8 line → IsLine texts line (TextBegins name) → AllByRecursion IsTextLine body
      → Reads (done ++ line ∷ body ++ codes "." ∷ []) steps (texts ++ record { name = name; text = text_of body } ∷ [])
  step : (done : List (List ℕ)) (steps : List Step) (texts : List NamedText) (line : List ℕ) (does : Step) → Reads done steps texts
      → IsUtf8 line → IsLine texts line (Does does) → Reads (done ++ line ∷ []) (steps ++ does ∷ []) texts

-- the bytes are a script of these steps
abbrev pub IsScript : List ℕ → List Step → Type 0
IsScript script steps = (texts : List NamedText) × Reads (lines script) steps texts

-- no line is left, or the next is not in UTF-8
abbrev pub BreaksOff : List (List ℕ) → Type 0
BreaksOff [] = ⊤
BreaksOff (line ∷ more) = IsUtf8 line → ⊥

-- the lines of a text before it breaks off, and how many they are: at the end of the script, or at a line that is not in UTF-8
pub record IsOpen (more : List (List ℕ)) (count : ℕ) : Type 0 where
  pub body : List (List ℕ)
  pub rest : List (List ℕ)
  pub is : more ≡ body ++ rest
  pub own : AllByRecursion IsTextLine body
  pub breaks : BreaksOff rest
  pub counts : count ≡ length body

-- the first fault is this many lines after the first of these
abbrev pub Fails : List NamedText → List (List ℕ) → ℕ → Type 0
Fails texts [] count = ⊥
Fails texts (line ∷ more) count =
    ((count ≡ 0) × IsNoLine texts line)
    ⊎ ((name : List ℕ) × (own : ℕ) × IsUtf8 line × IsLine texts line (TextBegins name) × IsOpen more own × (count ≡ 1 + own))

-- the lines above that one do steps, and it is in no form, or names an unknown text, or is the one at which a text breaks off
pub record FailsAt (script : List ℕ) (line : ℕ) : Type 0 where
  pub done : List (List ℕ)
  pub rest : List (List ℕ)
  pub steps : List Step
  pub texts : List NamedText
  pub count : ℕ
  pub is : lines script ≡ done ++ rest
  pub reads : Reads done steps texts
  pub fails : Fails texts rest count
  pub place : line ≡ length done + count

abbrev pub IsScriptError : List ℕ → ScriptError → Type 0
IsScriptError script (errors.Line line) = FailsAt script line
IsScriptError script errors.Memory = ⊤
