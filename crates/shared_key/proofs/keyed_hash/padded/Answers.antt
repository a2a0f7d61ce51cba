use Rattle.std.proofs.Common.{refl}
use Rattle.std.proofs.lemmas.List.{drop-replicate}
use Rattle.shared_key.proofs.keyed_hash.padded.Goals as goal

pub returns : goal.returns
returns c =
    let front = c.copy_from_slice.ensures.after in
    let back = c.split_at_mut-front.ensures.back in
    rw (front, back, drop-replicate) refl
