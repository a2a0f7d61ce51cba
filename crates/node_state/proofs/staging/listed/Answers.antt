use Rattle.std.proofs.Common.{◌≤◌, ◌<◌, ◌^◌, ℕ, List, sym, subst}
use Rattle.partial_merge.specs.declared.part.Part.{Part}
use Rattle.node_state.specs.Lists.{IsStaged, bytes_of}
use Rattle.node_state.proofs.Merging.{small_of_merged}
use Rattle.node_state.proofs.staging.listed.Goals as goal
use Rattle.node_state.specs.declared.limits.TheConstants.{MAX_BYTES}

pub bytes_of-requires : goal.bytes_of-requires
bytes_of-requires c =
    subst (λ (ps : List Part). bytes_of ps < 2 ^ 64) (sym c.deref.ensures.value)
    (small_of_merged c.args.parts.items c.requires.merged c.requires.named.few)

pub invariant_of-result : goal.invariant_of-result
invariant_of-result c =
    let counted = subst (λ (n : ℕ). n ≤ MAX_BYTES) c.bytes_of.ensures c.if-bytes_of-gt-MAX_BYTES.false in
    let long = subst (λ (ps : List Part). bytes_of ps ≤ MAX_BYTES) c.deref.ensures.value counted in
    record {
      whole = subst (λ (ps : List Part). IsStaged ps) (sym c.in_ok-of.ensures)
          (record { named = c.requires.named; long = long; merged = c.requires.merged });
    }
