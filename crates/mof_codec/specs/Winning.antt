-- The refusal that wins, of those that were found.
use Rattle.std.specs.Prelude.{ℕ, List, Option, Some, None, length, nat_le, if◌then◌else◌}
use Rattle.mof_syntax.specs.declared.mof_error.MofError.{MofError}
use Rattle.mof_syntax.specs.declared.mof_error.MofError.TheVariants.{Syntax, OutOfProfile, NumberRange, TooMany}
use Rattle.mof_syntax.specs.declared.mof_error.Form.{Form}
use Rattle.mof_syntax.specs.Refusals.{refusal_place}

-- how far a text goes that goes wrong there, or does not
abbrev pub end_of : List ℕ → Option ℕ → ℕ
end_of text (Some at) = at
end_of text None = length text

abbrev pub out_of_profile : Option (ℕ × Form) → Option MofError
out_of_profile (Some found) = Some (OutOfProfile found.0 found.1)
out_of_profile None = None

abbrev pub number_range : Option ℕ → Option MofError
number_range (Some at) = Some (NumberRange at)
number_range None = None

abbrev pub too_many : Option ℕ → Option MofError
too_many (Some at) = Some (TooMany at)
too_many None = None

abbrev pub syntax_fault : Option ℕ → Option MofError
syntax_fault (Some at) = Some (Syntax at)
syntax_fault None = None

-- the one with the lesser place, and of equal places the first
abbrev pub sooner : Option MofError → Option MofError → Option MofError
sooner None other = other
sooner (Some e) None = Some e
sooner (Some e) (Some f) = if nat_le (refusal_place e) (refusal_place f) then Some e else Some f
