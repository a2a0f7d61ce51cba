-- HMAC with SHA-256 (RFC 2104, section 2).
use Rattle.std.specs.Prelude.{ℕ, ◌-◌, List, ◌++◌, length, map, replicate, bit_xor, nat_lt, if◌then◌else◌}
use Rattle.sha2.specs.Sha256.{sha256}

-- a key that is longer than a block of 64 bytes is hashed first
abbrev pub short_key : List ℕ → List ℕ
short_key key = if nat_lt 64 (length key) then sha256 key else key

-- K: the key, and zeros up to a block
abbrev pub key_block : List ℕ → List ℕ
key_block key = short_key key ++ replicate (64 - length (short_key key)) 0

-- K XOR ipad: ipad is the byte 0x36, as often as a block has bytes
abbrev pub inner_block : List ℕ → List ℕ
inner_block key = map (bit_xor 0x36) (key_block key)

-- K XOR opad: opad is the byte 0x5C, as often as a block has bytes
abbrev pub outer_block : List ℕ → List ℕ
outer_block key = map (bit_xor 0x5C) (key_block key)

-- H(K XOR opad, H(K XOR ipad, text))
unfoldable pub hmac_of : List ℕ → List ℕ → List ℕ
hmac_of key text = sha256 (outer_block key ++ sha256 (inner_block key ++ text))
