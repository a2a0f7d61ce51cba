-- What the printer of dates writes.
use Rattle.std.proofs.Common.{◌≡◌, ◌≤◌, ◌<◌, ◌^◌, ℕ, List, [], ◌∷◌, ◌++◌, pos, ◌*ℤ◌, ◌*◌, to_z, w64, arith, Bool, Option, refl, if◌then◌else◌}
use Rattle.std.proofs.Math.Facts.{to_z_pos}
use Rattle.jiff.specs.Types.{DateTime}
use Rattle.jiff.specs.Words.{datetime_text}
use Rattle.dsc_outside.specs.Clock.{last_moment}

-- what a printer with these options writes of an instant
abbrev pub printed : DateTime → Bool × ℕ × Option ℕ → List ℕ
printed time options = datetime_text options.0 options.1 options.2 time ++ (if options.0 then 122 else 90) ∷ []

pub to_z_small : (n : ℕ) → n ≤ last_moment → to_z w64 n *ℤ pos 1000000000 ≡ pos (n * 1000000000)
to_z_small n h = let small : n < 2 ^ 63 = omega arith in rw (to_z_pos w64 small) refl
