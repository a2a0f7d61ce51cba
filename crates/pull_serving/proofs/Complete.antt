-- A connection that nothing disturbs is answered.
use Rattle.std.proofs.Common.{◌≡◌, inl, ℕ, List, Option, IfSome, subst}
use Rattle.pull_outside.specs.Shelf.{Contents}
use Rattle.pull_exchange.specs.declared.exchange.Received.{Received}
use Rattle.pull_exchange.specs.Exchange.{IsReceived}
use Rattle.pull_serving.specs.declared.connection.ConnectionEnd.{ConnectionEnd}
use Rattle.pull_serving.specs.declared.connection.ConnectionEnd.TheVariants as ends
use Rattle.pull_serving.specs.Complete.{EndsWell, IsUndisturbed, UndisturbedAreAnswered}
use Rattle.pull_serving.specs.Turn.{Answering, IsEnd, IsTurn, Turn}

module _ (how : Answering) (shelf : Option Contents) (t : Turn) (turn : IsTurn how shelf t) (undisturbed : IsUndisturbed t) where
  ends_well : (end : ConnectionEnd) → IsEnd how shelf t end → EndsWell end
  ends_well (ends.Answered code) is = tt
  ends_well ends.DiskFault is = undisturbed.outside (inl is.rose)
  ends_well (ends.Torn at) is =
      let heard = subst (λ (left : Option (List ℕ)). IfSome left (λ bytes. IsReceived bytes t.received)) undisturbed.sent turn.heard in
      let torn = subst (λ (r : Received). IsReceived undisturbed.bytes r) is.0 heard in
      undisturbed.whole torn.0
  ends_well ends.ReadFault is = undisturbed.connection is.1
  ends_well ends.WriteFault is = undisturbed.connection is.rose
  ends_well ends.Memory is = tt

pub undisturbed_answered : (how : Answering) → UndisturbedAreAnswered how
undisturbed_answered how shelf t turn undisturbed = ends_well how shelf t turn undisturbed t.end turn.end
