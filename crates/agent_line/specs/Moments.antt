-- The moment that a text says, in the forms of RFC 3339 and those of ISO 8601 and RFC 9557 that `jiff` reads.
use Rattle.std.specs.Prelude.{ℕ, ℤ, pos, negsuc, int_div, List, encode_utf8_all, Option, Some, None, option_and_then}
use Rattle.std.specs.Result.{result_ok}
use Rattle.jiff.specs.Words.{parse_timestamp}

-- a number of seconds that is not below 0
abbrev pub from_zero : ℤ → Option ℕ
from_zero (pos seconds) = Some seconds
from_zero (negsuc below) = None

-- the whole seconds of nanoseconds, toward 0
abbrev pub seconds_of : ℤ → Option ℕ
seconds_of nanoseconds = from_zero (int_div nanoseconds (pos 1_000_000_000))

-- the whole seconds since 1970-01-01T00:00:00Z that a text in UTF-8 says
unfoldable pub moment_said : List ℕ → Option ℕ
moment_said text = option_and_then seconds_of (result_ok (parse_timestamp text))

abbrev pub moment_in : List ℕ → Option ℕ
moment_in text = moment_said (encode_utf8_all text)
