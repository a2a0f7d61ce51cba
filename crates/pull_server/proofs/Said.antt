-- What a reader of messages answers is what its table says of the body.
use Rattle.std.proofs.Common.{◌≡◌, ◌⊎◌, inl, inr, ℕ, Bool, true, false, List, Option, Some, None, Result, Ok, Err, refl, ◌∙◌, ap, subst}
use Rattle.std.specs.Str.{is_utf8}
use Rattle.std.proofs.lemmas.Str.{is_utf8-from_IsUtf8, IsUtf8-from_is_utf8}
use Rattle.serde_json.specs.Data.{Data}
use Rattle.serde_json.specs.Read.{read}
use Rattle.pull_messages.specs.declared.error.MessageError.{MessageError}
use Rattle.pull_messages.specs.declared.error.MessageError.TheVariants.{Json, Missing, Wrong, Memory}
use Rattle.pull_messages.specs.Bodies.{IsJson, ReadsBy, Says}
use Rattle.pull_store.proofs.Building.{tells}
use Rattle.pull_server.specs.Messages.{said_of, value_in}

pub value_is : (body : List ℕ) (value : Data) → IsJson body value → value_in body ≡ Some value
unfolding value_in
value_is body value json = rw (is_utf8-from_IsUtf8 body json.0) json.1

none_read : (o : Option Data) → ((value : Data) → o ≡ Some value → ⊥) → o ≡ None
none_read None never = refl
none_read (Some value) never = absurd (never value refl)

pub value_is_none : (body : List ℕ) → ((value : Data) → IsJson body value → ⊥) → value_in body ≡ None
unfolding value_in
value_is_none body never = elim (tells (is_utf8 body)) [
  | inl holds ↦ rw holds (none_read (read body) (λ value is. never value (IsUtf8-from_is_utf8 body holds, is)))
  | inr fails ↦ rw fails refl
]

said_by : {T : Type 0} (table : Data → Result T MessageError) (body : List ℕ) (said : Result T MessageError) → Says table body said → said_of table (value_in body) ≡ said
said_by table body said (value, json, is) = ap (said_of table) (value_is body value json) ∙ is

abbrev SaidOf : {T : Type 0} → (Data → Result T MessageError) → Result T MessageError → List ℕ → Type 0
SaidOf table said body = said_of table (value_in body) ≡ said

-- of the body that was read
pub read_as : {T : Type 0} (table : Data → Result T MessageError) (given body : List ℕ) (message : T) → given ≡ body → ReadsBy table given (Ok message) → said_of table (value_in body) ≡ Ok message
read_as table given body message same says = subst (SaidOf table (Ok message)) same (said_by table given (Ok message) says)

refused_at : {T : Type 0} (table : Data → Result T MessageError) (body : List ℕ) (e : MessageError) → ReadsBy {T = T} table body (Err e) → (e ≡ Memory → ⊥) → said_of table (value_in body) ≡ Err e
refused_at table body Json never known = ap (said_of table) (value_is_none body never)
refused_at table body (Missing field) says known = said_by table body (Err (Missing field)) says
refused_at table body (Wrong field) says known = said_by table body (Err (Wrong field)) says
refused_at table body Memory says known = absurd (known refl)

-- an error, but out of memory
pub refused_as : {T : Type 0} (table : Data → Result T MessageError) (given body : List ℕ) (e : MessageError) → given ≡ body → ReadsBy {T = T} table given (Err e) → (e ≡ Memory → ⊥) → said_of table (value_in body) ≡ Err e
refused_as table given body e same says known = subst (SaidOf table (Err e)) same (refused_at table given e says known)
