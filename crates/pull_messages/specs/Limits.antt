-- How long texts may be.
use Rattle.std.specs.Prelude.{ℕ, Bool, true, ◌&&◌, nat_le}
use Rattle.mof_values.specs.declared.limits.TheConstants.{MAX_NAME_BYTES}
use Rattle.pull_messages.specs.declared.limits.Limit.{Limit}
use Rattle.pull_messages.specs.declared.limits.Limit.TheVariants.{Free, Short, Name}
use Rattle.pull_messages.specs.declared.limits.TheConstants.{MAX_TEXT_BYTES}

-- a text of that many bytes of UTF-8 is allowed
abbrev pub is_within : Limit → ℕ → Bool
is_within Free size = true
is_within Short size = nat_le size MAX_TEXT_BYTES
is_within Name size = nat_le 1 size && nat_le size MAX_NAME_BYTES
