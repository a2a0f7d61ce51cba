-- Bodies of messages.
use Rattle.std.specs.Prelude.{◌≡◌, ℕ, List, Result, Ok, Err, Some, IsUtf8, ⊤}
use Rattle.serde_json.specs.Data.{Data}
use Rattle.serde_json.specs.Read.{read}
use Rattle.pull_messages.specs.declared.error.MessageError.{MessageError}
use Rattle.pull_messages.specs.declared.error.MessageError.TheVariants.{Json, Missing, Wrong, Memory}

-- the body is this JSON value (RFC 8259), within what `serde_json` reads
abbrev pub IsJson : List ℕ → Data → Type 0
IsJson body value = IsUtf8 body × (read body ≡ Some value)

-- the body is a JSON value of which the table says this
abbrev pub Says : {T : Type 0} → (Data → Result T MessageError) → List ℕ → Result T MessageError → Type 0
Says table body said = (value : Data) × IsJson body value × (table value ≡ said)

-- what a reader answers: what the table says of the value, Json exactly where there is none; or Memory in its place
abbrev pub ReadsBy : {T : Type 0} → (Data → Result T MessageError) → List ℕ → Result T MessageError → Type 0
ReadsBy table body (Ok message) = Says table body (Ok message)
ReadsBy table body (Err Json) = (value : Data) → IsJson body value → ⊥
ReadsBy table body (Err (Missing field)) = Says table body (Err (Missing field))
ReadsBy table body (Err (Wrong field)) = Says table body (Err (Wrong field))
ReadsBy table body (Err Memory) = ⊤

-- every body that reads as this message reads so once it was written
abbrev pub ReadsBack : {T : Type 0} → (Data → Result T MessageError) → List ℕ → T → Type 0
ReadsBack table written message = (body : List ℕ) → Says table body (Ok message) → Says table written (Ok message)

-- the refusal of a body that is no JSON value
abbrev pub IsNoJson : List ℕ → MessageError → Type 0
IsNoJson body Json = (value : Data) → IsJson body value → ⊥
IsNoJson body (Missing field) = ⊥
IsNoJson body (Wrong field) = ⊥
IsNoJson body Memory = ⊤
