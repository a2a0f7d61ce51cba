use Rattle.std.proofs.Common.{◌≡◌, ◌++◌, ◌∙◌, List, ℕ, [], ◌∷◌, ap, refl, subst}
use Rattle.gate_log.specs.Calls.{AddsBody, LeavesWithOrWithout}
use Rattle.gate_log.specs.Log.{Appended}
use Rattle.gate_log.specs.Text.{body_in}
use Rattle.gate_log.proofs.InPlace.{body_after}
use Rattle.node_store.specs.Digests.{blob_body}
use Rattle.node_store.specs.Growing.{after_length, blob_head}
use Rattle.node_store.proofs.adding.append_blob.Goals as goal

-- the log finds the body of the Blob
blob_found : (head tail bytes : List ℕ) → head ≡ after_length (blob_head bytes) → tail ≡ bytes → body_in head tail ≡ blob_body bytes
blob_found head tail bytes is same =
    ap (λ (l : List ℕ). body_in l tail) is ∙ body_after (0 ∷ 0 ∷ 0 ∷ 0 ∷ []) (blob_head bytes) tail refl ∙ ap (λ (l : List ℕ). blob_head bytes ++ l) same

pub returns-clause-answer : goal.returns-clause-answer
returns-clause-answer g c =
    let found = blob_found c.deref_mut.result.now c.as_slice.result.now c.args.blob.now.bytes (c.deref_mut.ensures.value ∙ c.spell_blob_head.ensures.head) c.as_slice.ensures in
    subst (λ (b : List ℕ). Appended c.args.log.now b (g.D.Disk.faults c.args.disk.now) (g.D.Disk.faults c.append_in_place.new.disk) c.append_in_place.result c.append_in_place.new.self) found c.append_in_place.ensures.answer

pub returns-clause-ok : goal.returns-clause-ok
returns-clause-ok g c =
    let found = blob_found c.deref_mut.result.now c.as_slice.result.now c.args.blob.now.bytes (c.deref_mut.ensures.value ∙ c.spell_blob_head.ensures.head) c.as_slice.ensures in
    subst (λ (b : List ℕ). AddsBody g.D.Disk c.args.disk.now c.append_in_place.new.disk c.args.log.now c.append_in_place.new.self b c.append_in_place.result) found c.append_in_place.ensures.ok

pub returns-clause-any_moment : goal.returns-clause-any_moment
returns-clause-any_moment g c =
    let found = blob_found c.deref_mut.result.now c.as_slice.result.now c.args.blob.now.bytes (c.deref_mut.ensures.value ∙ c.spell_blob_head.ensures.head) c.as_slice.ensures in
    subst (λ (b : List ℕ). LeavesWithOrWithout g.D.Disk c.args.disk.now c.append_in_place.new.disk c.args.log.now b) found c.append_in_place.ensures.any_moment
