-- The readings of a clock in a start: the first is the start, the second the end of a run.
use Rattle.std.specs.Prelude.{◌≡◌, ℕ, max, Bool, true, false, List, [], ◌∷◌, drop, Option, Some, None, IfSome, Result, Ok, Err, option_map}
use Rattle.dsc_terms.specs.Counts.{Rose}
use Rattle.dsc_outside.specs.declared.clock.Clock.{Ghosts}

-- the next reading, or none where the clock fails
abbrev pub next_reading : List (Option ℕ) → Option ℕ
next_reading [] = None
next_reading (reading ∷ rest) = reading

-- a clock that still gave these readings, where it shows them, gave this one
abbrev pub Gave : Option (List (Option ℕ)) → Option ℕ → Type 0
Gave readings given = IfSome readings (λ list. given ≡ next_reading list)

-- this number of readings was taken
abbrev pub Took : ℕ → Option (List (Option ℕ)) → Option (List (Option ℕ)) → Type 0
Took count before after = after ≡ option_map (drop count) before

-- the end of a run that started then: the second reading, or the start where that failed or lies before it
abbrev pub end_of : ℕ → Option ℕ → ℕ
end_of start None = start
end_of start (Some time) = max start time

-- what the first reading came to, where one was taken
abbrev pub ReadsStart : {E C : Type 0} → Ghosts C → Result ℕ E → C → C → Type 0
ReadsStart clock (Ok start) first last = Gave (clock.coming first) (Some start) × Took 1 (clock.coming first) (clock.coming last)
ReadsStart clock (Err error) first last = Gave (clock.coming first) None × Took 1 (clock.coming first) (clock.coming last) × Rose (clock.faults first) (clock.faults last)

-- without one the start is nowhere used
abbrev pub StartsAt : {E C : Type 0} → Ghosts C → Bool → Result ℕ E → C → C → Type 0
StartsAt clock true result first last = ReadsStart clock result first last
StartsAt clock false (Ok start) first last = last ≡ first
StartsAt clock false (Err error) first last = ⊥
