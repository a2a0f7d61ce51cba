-- What a reader answers of the value of a body.
use Rattle.std.proofs.Common.{ℕ, List, Result, Ok, Err}
use Rattle.serde_json.specs.Data.{Data}
use Rattle.pull_messages.specs.declared.error.MessageError.{MessageError}
use Rattle.pull_messages.specs.declared.error.MessageError.TheVariants.{Json, Missing, Wrong, Memory}
use Rattle.pull_messages.specs.Bodies.{IsJson, ReadsBy}
use Rattle.pull_messages.specs.Results.{Gives}

pub reads_by : {T : Type 0} (table : Data → Result T MessageError) (body : List ℕ) (value : Data) (answer : Result T MessageError)
    → IsJson body value → Gives (λ x. x) answer (table value) → ReadsBy table body answer
reads_by table body value (Ok x) is given = (value, is, given)
reads_by table body value (Err Json) is given = absurd given
reads_by table body value (Err (Missing field)) is given = (value, is, given)
reads_by table body value (Err (Wrong field)) is given = (value, is, given)
reads_by table body value (Err Memory) is given = tt
