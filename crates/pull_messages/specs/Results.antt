-- Steps that may fail, and what a function answers in their place.
use Rattle.std.specs.Prelude.{◌≡◌, Result, Ok, Err, IsOk, ⊤}
use Rattle.pull_messages.specs.declared.error.MessageError.{MessageError}
use Rattle.pull_messages.specs.declared.error.MessageError.TheVariants.{Json, Missing, Wrong, Memory}

infixl 10 ◌>>=◌
abbrev pub ◌>>=◌ : {A B : Type 0} → Result A MessageError → (A → Result B MessageError) → Result B MessageError
(Ok x) >>= f = f x
(Err e) >>= f = Err e

-- what was answered, seen by view, is what the table gives, or Memory in its place
abbrev pub Gives : {X Y : Type 0} → (X → Y) → Result X MessageError → Result Y MessageError → Type 0
Gives view (Ok x) given = given ≡ Ok (view x)
Gives view (Err Json) given = ⊥
Gives view (Err (Missing field)) given = given ≡ Err (Missing field)
Gives view (Err (Wrong field)) given = given ≡ Err (Wrong field)
Gives view (Err Memory) given = ⊤

-- a test was passed exactly where something is given
abbrev pub Tests : {X Y : Type 0} → Result X MessageError → Result Y MessageError → Type 0
Tests (Ok x) given = IsOk given
Tests (Err Json) given = ⊥
Tests (Err (Missing field)) given = given ≡ Err (Missing field)
Tests (Err (Wrong field)) given = given ≡ Err (Wrong field)
Tests (Err Memory) given = ⊤
