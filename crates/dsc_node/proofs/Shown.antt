-- What is shown of a node.
use Rattle.std.proofs.Common.{◌≡◌, ℕ, List, [], Result, Ok, Err, inr, refl, subst}
use Rattle.std.specs.Prelude.{IfOk, IsErr}
use Rattle.hex.specs.Hex.{encode_upper}
use Rattle.shared_key.specs.Checksum.{checksum_of}
use Rattle.dsc_node.specs.declared.status.Status.{Status}
use Rattle.dsc_node.specs.declared.status.Status.TheVariants as statuses
use Rattle.dsc_node.specs.Endings.{Answers, Ends}

-- a checksum is its digest in hexadecimal digits
pub checksum_is : (digest : List ℕ) → encode_upper digest ≡ checksum_of digest
unfolding checksum_of
checksum_is digest = refl

-- a text that was made, or one that ran out of memory, is the wanted one
pub shown_answers : {T E : Type 0} (text_of : T → List ℕ) (made : Result T E) (wanted : List ℕ) (status : Status) (lines : List ℕ) → IfOk made (λ text. text_of text ≡ wanted)
    → IfOk made (λ text. Answers statuses.Done (text_of text) status lines) → (IsErr made → Ends statuses.Memory [] status lines) → Answers statuses.Done wanted status lines
shown_answers text_of (Ok text) wanted status lines is answers memory = subst (λ (t : List ℕ). Answers statuses.Done t status lines) is answers
shown_answers text_of (Err e) wanted status lines is answers memory = inr (memory refl)
