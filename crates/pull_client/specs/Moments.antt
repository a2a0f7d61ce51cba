-- Moments as texts (RFC 3339, section 5.6).
use Rattle.std.specs.Prelude.{◌≡◌, ℕ, ◌*◌, List, [], ◌∷◌, ◌++◌, pos, false, Option}
use Rattle.jiff.specs.Types.{DateTime}
use Rattle.jiff.specs.Words.{civil_nanos, datetime_text}

-- the date and time in UTC of a moment in seconds since 1970-01-01T00:00:00Z, with this number of places of a fraction
abbrev pub IsMomentText : Option ℕ → ℕ → List ℕ → Type 0
IsMomentText places seconds text =
    (time : DateTime) × (civil_nanos time ≡ pos (seconds * 1_000_000_000)) × (text ≡ datetime_text false 84 places time ++ 90 ∷ [])
