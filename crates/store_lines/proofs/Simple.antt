-- The command is one of which `clap` says what it takes and what it finds.
use Rattle.std.proofs.Common.{◌≡◌, true, refl}
use Rattle.clap.specs.Words.{is_simple, is_simple_and_free}
use Rattle.store_lines.specs.Words.{fleet_app}

pub is_simple_fleet : is_simple fleet_app ≡ true
unfolding fleet_app
is_simple_fleet = refl

pub is_free_fleet : is_simple_and_free fleet_app ≡ true
unfolding fleet_app
is_free_fleet = refl
