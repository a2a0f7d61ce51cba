-- A log whose rewrite is begun, as gate_log has it.
use Rattle.std.proofs.Common.{ℕ, ◌≤◌, List, [], Option}
use Rattle.gate_log.specs.Log.{LogTerm, IsOf, HasPut, begun}
use Rattle.gate_log.proofs.Rewrites as rewrites

pub begun_of : (shown : Option (List ℕ)) (images : List ℕ → Type 0) (log : LogTerm) (bodies : List (List ℕ)) → IsOf shown images log bodies → IsOf shown images (begun log) bodies
begun_of = rewrites.begun_of

pub begun_put : (shown : Option (List ℕ)) (log : LogTerm) → 1 ≤ log.shape.bank → HasPut shown (begun log) []
begun_put = rewrites.begun_put
