-- What a link in memory may become is a relation that stays and chains.
use Rattle.std.specs.Prelude.{◌≡◌, List, ◌++◌, [], Some}
use Rattle.std.proofs.Common.{ap, sym, ◌∙◌, append_assoc, append-nil}
use Rattle.std.proofs.lemmas.Option.{same_Some}
use Rattle.std.proofs.Math.Nat.{le_refl, le_trans}
use Rattle.dsc_outside.specs.declared.exchange.Exchange.{Exchange}
use Rattle.memory_outside.specs.MemoryLink.{LinkInMemory, MayBecome}

added_twice : (before mid after first second : List Exchange) → mid ≡ before ++ first → after ≡ mid ++ second
    → after ≡ before ++ (first ++ second)
added_twice before mid after first second is then = then ∙ ap (λ (all : List Exchange). all ++ second) is ∙ append_assoc before first second

pub link_stays : (link : LinkInMemory) → MayBecome link link
link_stays link = record { shown = ([], ap Some (sym (append-nil link.exchanges))); later = le_refl link.calls.faults }

pub link_becomes_on : (before mid after : LinkInMemory) → MayBecome before mid → MayBecome mid after → MayBecome before after
link_becomes_on before mid after first second = record {
  shown = (
    first.shown.0 ++ second.shown.0,
    ap Some (added_twice before.exchanges mid.exchanges after.exchanges first.shown.0 second.shown.0 (same_Some _ _ first.shown.1) (same_Some _ _ second.shown.1)),
  );
  later = le_trans first.later second.later;
}
