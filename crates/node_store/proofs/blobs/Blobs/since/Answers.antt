use Rattle.std.proofs.Common.{List, ap, ◌∙◌}
use Rattle.node_store.specs.declared.blob.Blob.{Blob}
use Rattle.node_store.specs.Growing.{bytes_in}
use Rattle.node_store.proofs.Lacking.{last_are}
use Rattle.node_store.proofs.blobs.Blobs.since.Goals as goal

pub returns : goal.returns
returns c = last_are c.deref.result.now c.args.self.now c.args.from (ap (λ (l : List Blob). bytes_in l) c.deref.ensures.value ∙ c.self.view_is)
