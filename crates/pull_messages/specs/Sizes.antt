-- Sizes of registrations.
use Rattle.std.specs.Prelude.{ℕ, ◌+◌, ◌≤◌, List, length, sum_by, encode_utf8_all}
use Rattle.std.specs.List.{AllByRecursion}
use Rattle.pull_messages.specs.declared.registration.Registration.{Registration}
use Rattle.mof_values.specs.declared.limits.TheConstants.{MAX_NAME_BYTES}
use Rattle.pull_messages.specs.declared.limits.TheConstants.{MAX_LIST_ITEMS, MAX_TEXT_BYTES}

-- the text has that many bytes of UTF-8 at most
abbrev pub IsShort : List ℕ → Type 0
IsShort text = length (encode_utf8_all text) ≤ MAX_TEXT_BYTES

abbrev pub IsName : List ℕ → Type 0
IsName text = (1 ≤ length (encode_utf8_all text)) × (length (encode_utf8_all text) ≤ MAX_NAME_BYTES)

-- the sizes that a registration which was read has
pub record IsSized (x : Registration) : Type 0 where
  pub version : IsShort x.lcm_version
  pub node : IsShort x.node_name
  pub address : IsShort x.ip_address
  pub few : length x.names ≤ MAX_LIST_ITEMS
  pub named : AllByRecursion IsName x.names

-- the bytes of UTF-8 of a text
abbrev pub text_size : List ℕ → ℕ
text_size text = length (encode_utf8_all text)

-- the bytes of UTF-8 of all texts of a registration
abbrev pub registration_size : Registration → ℕ
registration_size x = text_size x.lcm_version + text_size x.node_name + text_size x.ip_address + sum_by text_size x.names
