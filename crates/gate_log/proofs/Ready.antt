-- A log stays of its disk, or is spent.
use Rattle.std.proofs.Common.{◌≡◌, inl, inr, ℕ, false, List, sym, ◌∙◌, ap, Result, Ok, Err, OnOk}
use Rattle.dsc_outside.specs.declared.disk.Disk.{Ghosts}
use Rattle.gate_log.specs.declared.error.LogError.{LogError}
use Rattle.gate_log.specs.declared.error.LogError.TheVariants.{Disk, NotAStore, Memory}
use Rattle.gate_log.specs.Log.{LogTerm, IsLogOf, IsReady, Appended, Put, Finished}

-- one that is not spent is of its disk
pub of_disk : {D : Type 0} (d : Ghosts D) (disk : D) (log : LogTerm) → log.spent ≡ false → IsReady d disk log → (bodies : List (List ℕ)) × IsLogOf d disk log bodies
of_disk d disk log unspent (inl spent) = absurd (cc (sym spent ∙ unspent))
of_disk d disk log unspent (inr of) = of

pub ready_appended : {T D : Type 0} (d : Ghosts D) (before after : ℕ) (disk : D) (old new : LogTerm) (body : List ℕ) (result : Result T LogError) (bodies : List (List ℕ))
    → Appended old body before after result new → OnOk result (IsLogOf d disk new bodies) → IsReady d disk new
ready_appended d before after disk old new body (Ok v) bodies answer of = inr (bodies, of)
ready_appended d before after disk old new body (Err Disk) bodies answer of = inl (ap (λ (t : LogTerm). t.spent) answer.1)
ready_appended d before after disk old new body (Err (NotAStore at)) bodies answer of = absurd answer
ready_appended d before after disk old new body (Err Memory) bodies answer of = absurd answer

pub ready_put : {T D : Type 0} (d : Ghosts D) (before after : ℕ) (disk : D) (old new : LogTerm) (body : List ℕ) (result : Result T LogError) (bodies : List (List ℕ))
    → Put old body before after result new → OnOk result (IsLogOf d disk new bodies) → IsReady d disk new
ready_put d before after disk old new body (Ok v) bodies answer of = inr (bodies, of)
ready_put d before after disk old new body (Err Disk) bodies answer of = inl (ap (λ (t : LogTerm). t.spent) answer.1)
ready_put d before after disk old new body (Err (NotAStore at)) bodies answer of = absurd answer
ready_put d before after disk old new body (Err Memory) bodies answer of = absurd answer

pub ready_finished : {T D : Type 0} (d : Ghosts D) (before after : ℕ) (disk : D) (old new : LogTerm) (result : Result T LogError) (put : List (List ℕ))
    → Finished old before after result new → OnOk result (IsLogOf d disk new put) → IsReady d disk new
ready_finished d before after disk old new (Ok v) put answer of = inr (put, of)
ready_finished d before after disk old new (Err Disk) put answer of = inl (ap (λ (t : LogTerm). t.spent) answer.1)
ready_finished d before after disk old new (Err (NotAStore at)) put answer of = absurd answer
ready_finished d before after disk old new (Err Memory) put answer of = absurd answer
