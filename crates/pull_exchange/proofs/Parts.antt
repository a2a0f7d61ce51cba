-- Parts from the front of two pieces.
use Rattle.std.proofs.Common.{◌≡◌, ◌∙◌, ℕ, List, ◌++◌, Option, Result, Ok, Err, OnErr, sym, ap, append_assoc}
use Rattle.std.specs.Io.KnownBytes.{Appends}
use Rattle.std.proofs.KnownBytes.{Appends-trans}
use Rattle.dsc_outside.specs.Streams.{AppendsPart}

-- a part of the first piece is a part of both
pub of_first : {T E : Type 0} (result : Result T E) (old new : Option (List ℕ)) (first second : List ℕ) → AppendsPart old new first → OnErr result (AppendsPart old new (first ++ second))
of_first (Ok value) old new first second part = tt
of_first (Err error) old new first second part =
    (part.0, part.1 ++ second, ap (λ (l : List ℕ). l ++ second) part.2 ∙ append_assoc part.0 part.1 second, part.3)

-- the first piece and a part of the second are a part of both
pub of_second : {T E : Type 0} (result : Result T E) (old mid new : Option (List ℕ)) (first second : List ℕ) → Appends old mid first → OnErr result (AppendsPart mid new second)
    → OnErr result (AppendsPart old new (first ++ second))
of_second (Ok value) old mid new first second whole part = tt
of_second (Err error) old mid new first second whole part =
    (first ++ part.0, part.1, ap (λ (l : List ℕ). first ++ l) part.2 ∙ sym (append_assoc first part.0 part.1), Appends-trans old mid new first part.0 whole part.3)
