-- What a run shows after capacity for its trace was made.
use Rattle.std.proofs.Common.{◌≡◌, ◌⊎◌, inl, inr, ℕ, List, [], ◌∷◌, Option}
use Rattle.dsc_document.specs.declared.document.Document.{Document}
use Rattle.dsc_outside.specs.Host.{HostState}
use Rattle.lcm_core.specs.declared.modes.RunEnd.{RunEnd}
use Rattle.lcm_core.specs.declared.modes.RunEnd.TheVariants.{Finished, RebootAsked, Memory}
use Rattle.lcm_core.specs.declared.modes.RunMode.{RunMode}
use Rattle.lcm_core.specs.Ends.{IsEnd, IsUnbegun}
use Rattle.lcm_core.specs.Whole.{Whole}
use Rattle.resource_kinds.specs.declared.entry.Entry.{Entry}
use Rattle.resource_kinds.specs.declared.kinds.Kinds.{Kinds}
use Rattle.resource_kinds.specs.Kinds.{host_of}
use Rattle.resource_kinds.specs.Trace.{Chain}
use Rattle.resource_kinds.specs.True.{TellsEntry, TellsTrue}
use Rattle.resource_kinds.proofs.Chains.{chain_map, tells_true}
use Rattle.dsc_node.specs.Ran.{EndsAs, IsWholeOrNone}

-- a chain that begins where nothing but the capacity has changed
pub chain_after : {S : Type 0} (does : S → Document → Entry → S → Type 0) (still : S → S → Type 0)
    → ((a b c : S) (d : Document) (e : Entry) → still a b → does b d e c → does a d e c)
    → ((a b c : S) → still a b → still b c → still a c)
    → (document : Document) (before ready : S) (trace : List Entry) (after : S)
    → still before ready → Chain does still document ready trace after → Chain does still document before trace after
chain_after does still still_does still_still document before ready [] after kept chain = still_still before ready after kept chain
chain_after does still still_does still_still document before ready (e ∷ es) after kept (next, step, rest) =
    (next, still_does before ready next document e kept step, rest)

pub whole_or_none : (document : Document) (mode : RunMode) (order : List ℕ) (end : RunEnd) (trace : List Entry)
    → Whole document mode order trace ⊎ IsUnbegun mode end trace → IsWholeOrNone document mode order end trace
whole_or_none document mode order Finished trace (inl whole) = whole
whole_or_none document mode order Finished trace (inr none) = absurd (cc (none.ended))
whole_or_none document mode order (RebootAsked place) trace (inl whole) = whole
whole_or_none document mode order (RebootAsked place) trace (inr none) = absurd (cc (none.ended))
whole_or_none document mode order Memory trace (inl whole) = inl whole
whole_or_none document mode order Memory trace (inr none) = inr none.nothing

pub ends_as : (mode : RunMode) (end : RunEnd) (trace : List Entry) → IsEnd mode end trace → EndsAs end trace
ends_as mode Finished trace ends = ends
ends_as mode (RebootAsked place) trace ends = ends
ends_as mode Memory trace (inl wants) = inl wants
ends_as mode Memory trace (inr none) = inr none.nothing

-- a chain of the kinds over a host is true of the host, where it shows what it holds
module _ {H : Type 0} (shown : H → Option HostState) where
  told_by : Kinds H → Option HostState
  told_by k = shown (host_of k)

  pub kinds_tell : (document : Document) (before after : Kinds H) (trace : List Entry)
      → Chain (λ a d e b. TellsEntry (shown (host_of a)) d e (shown (host_of b))) (λ a b. shown (host_of a) ≡ shown (host_of b)) document before trace after
      → TellsTrue document (shown (host_of before)) trace (shown (host_of after))
  unfolding told_by
  kinds_tell document before after trace chain =
      tells_true document trace (shown (host_of before)) (shown (host_of after)) (chain_map told_by TellsEntry (λ x y. x ≡ y) document before trace after chain)
