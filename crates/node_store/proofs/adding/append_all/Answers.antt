use Rattle.std.proofs.Common.{◌≡◌, ◌-◌, ◌∷◌, ◌++◌, ◌∙◌, [], ℕ, List, take, drop, length, refl, sym, ap, subst, arith, append_assoc, append-nil, rules}
use Rattle.std.specs.Prelude.{OnOk}
use Rattle.gate_log.specs.Calls.{LeavesWithOrWithout}
use Rattle.gate_log.specs.Log.{Appended, IsLogOf}
use Rattle.gate_log.specs.Several.{AppendedAll}
use Rattle.gate_log.specs.Text.{body_in}
use Rattle.gate_log.proofs.InPlace.{body_after}
use Rattle.gate_log.proofs.OneByOne.{AddedSoFar, added_more, append_bank, append_capacity, append_moment, append_size, cells_both, fit_first}
use Rattle.node_store.specs.declared.blob.Blob.{Blob}
use Rattle.node_store.specs.Digests.{blob_body}
use Rattle.node_store.specs.Growing.{added_bodies, after_length, bodies_of_format, bytes_in, event_body}
use Rattle.node_store.proofs.AfterFormat.{after_format, answered, fewer_moment, left_bodies, same_error}
use Rattle.node_store.proofs.HeldLists.{left_is}
use Rattle.node_store.proofs.Lacking.{none_left}
use Rattle.node_store.proofs.adding.append_all.Goals as goal

-- the log finds the body of the Stage
event_found : (head body : List ℕ) → head ≡ after_length body → body_in head [] ≡ body
event_found head body is = ap (λ (l : List ℕ). body_in l []) is ∙ body_after (0 ∷ 0 ∷ 0 ∷ 0 ∷ []) body [] refl ∙ append-nil body

pub append_format-requires-clause-size : goal.append_format-requires-clause-size
append_format-requires-clause-size g c = fit_first c.args.log.now.shape.largest (bodies_of_format c.args.empty) (left_bodies c.args.blobs.now c.args.event.now) c.requires.size

pub append_format-requires-clause-capacity : goal.append_format-requires-clause-capacity
append_format-requires-clause-capacity g c = omega (arith, c.requires.capacity, cells_both (bodies_of_format c.args.empty) (left_bodies c.args.blobs.now c.args.event.now))

pub returns-in_err-append_format-clause-answer : goal.returns-in_err-append_format-clause-answer
returns-in_err-append_format-clause-answer g c =
    let log = c.args.log.now in
    let before = g.D.Disk.faults c.args.disk.now in
    let now = g.D.Disk.faults c.append_format.new.disk in
    let here : AppendedAll log (bodies_of_format c.args.empty) before now c.from_residual.result c.append_format.new.log = search rules in
    same_error log c.append_format.new.log (bodies_of_format c.args.empty) (added_bodies c.args.empty (bytes_in c.args.blobs.now) c.args.event.now) before now c.from_residual.result c.from_residual.ensures.0 here

pub returns-in_err-append_format-clause-any_moment : goal.returns-in_err-append_format-clause-any_moment
returns-in_err-append_format-clause-any_moment g c =
    fewer_moment g.D.Disk c.args.disk.now c.append_format.new.disk c.args.log.now (bodies_of_format c.args.empty) (left_bodies c.args.blobs.now c.args.event.now) c.append_format.ensures.any_moment

pub loop-left-init : goal.loop-left-init
loop-left-init g c = record {
  so_far = after_format g.D.Disk c.args.disk.now c.append_format.new.disk c.args.log.now c.append_format.new.log c.args.empty (left_bodies c.args.blobs.now c.args.event.now) c.in_ok-append_format.ensures.answer c.requires.unspent c.requires.capacity
      c.in_ok-append_format.ensures.ok c.append_format.ensures.any_moment c.append_format.ensures.same_bank c.append_format.ensures.count;
  capacity = c.requires.buffer;
}

pub append_blob-requires-clause-size : goal.append_blob-requires-clause-size
append_blob-requires-clause-size g c =
    let l = c.loop-left in
    let all = added_bodies c.args.empty (bytes_in c.args.blobs.now) c.args.event.now in
    let left : List Blob = l.left.now in
    let blob : Blob = c.blob-item.result in
    let rest : List Blob = take (length left - 1) (drop 1 left) in
    let is : left ≡ blob ∷ rest = left_is left blob c.in-len1-up.len_at_least c.blob-item.is in
    append_size g.D.Disk c.args.disk.now l.disk c.args.log.now l.log all (blob_body blob.bytes) (left_bodies rest c.args.event.now)
    (subst (λ (p : List Blob). AddedSoFar g.D.Disk c.args.disk.now l.disk c.args.log.now l.log all (left_bodies p c.args.event.now)) is l.invariant.so_far) c.requires.size

pub append_blob-requires-clause-capacity : goal.append_blob-requires-clause-capacity
append_blob-requires-clause-capacity g c =
    let l = c.loop-left in
    let all = added_bodies c.args.empty (bytes_in c.args.blobs.now) c.args.event.now in
    let left : List Blob = l.left.now in
    let blob : Blob = c.blob-item.result in
    let rest : List Blob = take (length left - 1) (drop 1 left) in
    let is : left ≡ blob ∷ rest = left_is left blob c.in-len1-up.len_at_least c.blob-item.is in
    append_capacity g.D.Disk c.args.disk.now l.disk c.args.log.now l.log all (blob_body blob.bytes) (left_bodies rest c.args.event.now)
    (subst (λ (p : List Blob). AddedSoFar g.D.Disk c.args.disk.now l.disk c.args.log.now l.log all (left_bodies p c.args.event.now)) is l.invariant.so_far)

pub append_blob-requires-clause-of : goal.append_blob-requires-clause-of
append_blob-requires-clause-of g c = (c.requires.of.0 ++ c.loop-left.invariant.so_far.added, c.loop-left.invariant.so_far.of c.requires.of.0 c.requires.of.1)

pub returns-in_err-append_blob-clause-any_moment : goal.returns-in_err-append_blob-clause-any_moment
returns-in_err-append_blob-clause-any_moment g c =
    let l = c.loop-left in
    let all = added_bodies c.args.empty (bytes_in c.args.blobs.now) c.args.event.now in
    let left : List Blob = l.left.now in
    let blob : Blob = c.blob-item.result in
    let rest : List Blob = take (length left - 1) (drop 1 left) in
    let is : left ≡ blob ∷ rest = left_is left blob c.in-len1-up.len_at_least c.blob-item.is in
    append_moment g.D.Disk c.args.disk.now l.disk c.append_blob.new.disk c.args.log.now l.log all (blob_body blob.bytes) (left_bodies rest c.args.event.now)
    (subst (λ (p : List Blob). AddedSoFar g.D.Disk c.args.disk.now l.disk c.args.log.now l.log all (left_bodies p c.args.event.now)) is l.invariant.so_far) c.append_blob.ensures.any_moment

pub returns-in_err-append_blob-clause-same_bank : goal.returns-in_err-append_blob-clause-same_bank
returns-in_err-append_blob-clause-same_bank g c =
    let l = c.loop-left in
    append_bank g.D.Disk c.args.disk.now l.disk c.append_blob.new.disk c.args.log.now l.log (added_bodies c.args.empty (bytes_in c.args.blobs.now) c.args.event.now) (left_bodies l.left.now c.args.event.now) l.invariant.so_far
    c.append_blob.ensures.same_bank

pub loop-left-preserved : goal.loop-left-preserved
loop-left-preserved g c =
    let l = c.loop-left in
    let all = added_bodies c.args.empty (bytes_in c.args.blobs.now) c.args.event.now in
    let left : List Blob = l.left.now in
    let blob : Blob = c.blob-item.result in
    let rest : List Blob = take (length left - 1) (drop 1 left) in
    let is : left ≡ blob ∷ rest = left_is left blob c.in-len1-up.len_at_least c.blob-item.is in
    let so_far = subst (λ (p : List Blob). AddedSoFar g.D.Disk c.args.disk.now l.disk c.args.log.now l.log all (left_bodies p c.args.event.now)) is l.invariant.so_far in
    let done = c.in_ok-append_blob.ensures in
    record {
      so_far = added_more g.D.Disk c.args.disk.now l.disk c.append_blob.new.disk c.args.log.now l.log c.append_blob.new.log all (blob_body blob.bytes) (left_bodies rest c.args.event.now) so_far
          done.answer done.ok done.any_moment done.same_bank done.count;
      capacity = done.buffer;
    }

pub append_in_place-requires-clause-size : goal.append_in_place-requires-clause-size
append_in_place-requires-clause-size g c =
    let l = c.loop-left in
    let all = added_bodies c.args.empty (bytes_in c.args.blobs.now) c.args.event.now in
    let body = event_body c.args.event.now in
    let so_far = subst (λ (p : List Blob). AddedSoFar g.D.Disk c.args.disk.now l.disk c.args.log.now l.log all (left_bodies p c.args.event.now)) (none_left l.left.now c.in_default.len_below) l.invariant.so_far in
    let head = c.deref_mut.ensures.value ∙ c.spell.ensures.body in
    omega (arith, append_size g.D.Disk c.args.disk.now l.disk c.args.log.now l.log all body [] so_far c.requires.size, ap length head)

pub append_in_place-requires-clause-capacity : goal.append_in_place-requires-clause-capacity
append_in_place-requires-clause-capacity g c =
    let l = c.loop-left in
    let all = added_bodies c.args.empty (bytes_in c.args.blobs.now) c.args.event.now in
    let body = event_body c.args.event.now in
    let so_far = subst (λ (p : List Blob). AddedSoFar g.D.Disk c.args.disk.now l.disk c.args.log.now l.log all (left_bodies p c.args.event.now)) (none_left l.left.now c.in_default.len_below) l.invariant.so_far in
    let head = c.deref_mut.ensures.value ∙ c.spell.ensures.body in
    omega (arith, append_capacity g.D.Disk c.args.disk.now l.disk c.args.log.now l.log all body [] so_far, ap length head)

pub append_in_place-requires-clause-of : goal.append_in_place-requires-clause-of
append_in_place-requires-clause-of g c = (c.requires.of.0 ++ c.loop-left.invariant.so_far.added, c.loop-left.invariant.so_far.of c.requires.of.0 c.requires.of.1)

pub returns-clause-answer : goal.returns-clause-answer
returns-clause-answer g c =
    let l = c.loop-left in
    let all = added_bodies c.args.empty (bytes_in c.args.blobs.now) c.args.event.now in
    let body = event_body c.args.event.now in
    let so_far = subst (λ (p : List Blob). AddedSoFar g.D.Disk c.args.disk.now l.disk c.args.log.now l.log all (left_bodies p c.args.event.now)) (none_left l.left.now c.in_default.len_below) l.invariant.so_far in
    let found = event_found c.deref_mut.result.now body (c.deref_mut.ensures.value ∙ c.spell.ensures.body) in
    answered c.args.log.now l.log c.append_in_place.new.self all body (g.D.Disk.faults c.args.disk.now) (g.D.Disk.faults l.disk) (g.D.Disk.faults c.append_in_place.new.disk) so_far.count so_far.log c.append_in_place.result
    (subst (λ (b : List ℕ). Appended l.log b (g.D.Disk.faults l.disk) (g.D.Disk.faults c.append_in_place.new.disk) c.append_in_place.result c.append_in_place.new.self) found c.append_in_place.ensures.answer)

pub returns-clause-ok : goal.returns-clause-ok
returns-clause-ok g c = λ bodies of.
    let l = c.loop-left in
    let all = added_bodies c.args.empty (bytes_in c.args.blobs.now) c.args.event.now in
    let body = event_body c.args.event.now in
    let so_far = subst (λ (p : List Blob). AddedSoFar g.D.Disk c.args.disk.now l.disk c.args.log.now l.log all (left_bodies p c.args.event.now)) (none_left l.left.now c.in_default.len_below) l.invariant.so_far in
    let found = event_found c.deref_mut.result.now body (c.deref_mut.ensures.value ∙ c.spell.ensures.body) in
    let whole : (bodies ++ so_far.added) ++ body_in c.deref_mut.result.now [] ∷ [] ≡ bodies ++ all =
    ap (λ (b : List ℕ). (bodies ++ so_far.added) ++ b ∷ []) found ∙ append_assoc bodies so_far.added (body ∷ []) ∙ ap (λ (k : List (List ℕ)). bodies ++ k) (sym so_far.is) in
    subst (λ (k : List (List ℕ)). OnOk c.append_in_place.result (IsLogOf g.D.Disk c.append_in_place.new.disk c.append_in_place.new.self k)) whole
    (c.append_in_place.ensures.ok (bodies ++ so_far.added) (so_far.of bodies of))

pub returns-clause-any_moment : goal.returns-clause-any_moment
returns-clause-any_moment g c =
    let l = c.loop-left in
    let all = added_bodies c.args.empty (bytes_in c.args.blobs.now) c.args.event.now in
    let body = event_body c.args.event.now in
    let so_far = subst (λ (p : List Blob). AddedSoFar g.D.Disk c.args.disk.now l.disk c.args.log.now l.log all (left_bodies p c.args.event.now)) (none_left l.left.now c.in_default.len_below) l.invariant.so_far in
    let found = event_found c.deref_mut.result.now body (c.deref_mut.ensures.value ∙ c.spell.ensures.body) in
    append_moment g.D.Disk c.args.disk.now l.disk c.append_in_place.new.disk c.args.log.now l.log all body [] so_far
    (subst (λ (b : List ℕ). LeavesWithOrWithout g.D.Disk l.disk c.append_in_place.new.disk l.log b) found c.append_in_place.ensures.any_moment)

pub returns-clause-same_bank : goal.returns-clause-same_bank
returns-clause-same_bank g c =
    let l = c.loop-left in
    append_bank g.D.Disk c.args.disk.now l.disk c.append_in_place.new.disk c.args.log.now l.log (added_bodies c.args.empty (bytes_in c.args.blobs.now) c.args.event.now) (left_bodies l.left.now c.args.event.now) l.invariant.so_far
    c.append_in_place.ensures.same_bank
