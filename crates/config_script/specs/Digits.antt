-- The digits of integers.
use Rattle.std.specs.Prelude.{◌≡◌, ℕ, Bool, true, false, List, ℤ, pos, neg_ℤ}
use Rattle.std.specs.Str.Parse.{digits_value}
use Rattle.mof_syntax.specs.Numerals.{numeral}

-- the digits are those of their value, without leading zeros
abbrev pub IsPlain : List ℕ → Type 0
IsPlain ds = numeral (digits_value 10 ds) ≡ ds

abbrev pub signed : Bool → List ℕ → ℤ
signed true ds = neg_ℤ (pos (digits_value 10 ds))
signed false ds = pos (digits_value 10 ds)
