use Rattle.node_store.proofs.BankWritten.{not_both}
use Rattle.node_store.proofs.TextsHeld.{all_held}
use Rattle.node_store.proofs.opening.all_of.Goals as goal

pub returns : goal.returns
returns c = (
  all_held c.args.texts c.hold_slot.new.texts c.hold_slot-2.new.texts c.hold_slot-3.new.texts c.args.node.now c.in_ok-hold_slot.ensures c.in_ok-hold_slot-2.ensures c.in_ok-hold_slot-3.ensures,
  λ second. absurd (not_both c.args.by_digests c.if-by_digests.false second),
)
