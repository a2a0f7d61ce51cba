use Rattle.std.proofs.Common.{◌<◌, ◌^◌, List, sym, subst}
use Rattle.partial_merge.specs.declared.part.Part.{Part}
use Rattle.partial_merge.specs.Merged.{Merged}
use Rattle.node_state.specs.Lists.{bytes_of}
use Rattle.node_state.proofs.Merging.{few_partials, merged_small}
use Rattle.node_state.proofs.staging.staged_in_order.Goals as goal

pub bytes_of-bytes-requires : goal.bytes_of-bytes-requires
bytes_of-bytes-requires c =
    let merged = subst (λ (ps : List Part). Merged ps c.in-Ok.ordered.document) c.deref.ensures.value c.in-Ok.ensures.merged in
    subst (λ (ps : List Part). bytes_of ps < 2 ^ 64) (sym c.deref-2.ensures.value)
    (merged_small c.args.parts.items c.in-Ok.ordered.document merged c.requires.named.few)

pub fits-requires-clause-partials : goal.fits-requires-clause-partials
fits-requires-clause-partials c = few_partials c.args.meta.now c.requires.meta
