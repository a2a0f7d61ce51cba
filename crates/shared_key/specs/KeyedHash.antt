-- What a hash under a key has taken in.
use Rattle.std.specs.Prelude.{ℕ, List, ◌++◌}
use Rattle.sha2.specs.Hashers.{Holds256}
use Rattle.shared_key.specs.Hmac.{inner_block, outer_block}
use Rattle.shared_key.specs.declared.keyed_hash.KeyedHash.{KeyedHash}

-- the hash has taken in the text under the key
unfoldable pub Holds : KeyedHash → List ℕ → List ℕ → Type 0
Holds hash key text = Holds256 hash.inner (inner_block key ++ text) × Holds256 hash.outer (outer_block key)
