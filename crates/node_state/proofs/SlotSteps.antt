-- A part that a node has was in a stage before, or was staged.
use Rattle.std.proofs.Common.{◌⊎◌, inl, inr, ⊎_elim, [], ◌∷◌, subst}
use Rattle.partial_merge.specs.declared.part.Part.{Part}
use Rattle.node_state.specs.declared.node.Node.{Node}
use Rattle.node_state.specs.declared.event.Event.{Event}
use Rattle.node_state.specs.declared.event.Event.TheVariants as events
use Rattle.node_state.specs.declared.event.Stage.TheVariants.{Pending, Current, Previous}
use Rattle.node_state.specs.Table.{after}
use Rattle.node_state.specs.Slots.{IsSlot, StagesPart, PartsComeFromStages}

step_slots : (old : Node) (event : Event) (part : Part) → IsSlot (after old event) part → IsSlot old part ⊎ StagesPart event part
step_slots old (events.Init agent) part slot = inl slot
step_slots old (events.SetMeta meta) part slot = inl slot
step_slots old events.Registered part slot = inl slot
step_slots old (events.Stage staged) part (inl here) = inr here
step_slots old (events.Stage staged) part (inr later) = inl (inr later)
step_slots old (events.Promote report) part (inl here) = absurd here
step_slots old (events.Promote report) part (inr (inl here)) = inl (inl here)
step_slots old (events.Promote report) part (inr (inr here)) = inl (inr (inl here))
step_slots old (events.Note report) part slot = inl slot
step_slots old (events.AskReboot report) part slot = inl slot
step_slots old events.Boot part slot = inl slot
step_slots old (events.Sent job) part slot = inl slot
step_slots old (events.Remove Pending) part (inl here) = absurd here
step_slots old (events.Remove Pending) part (inr later) = inl (inr later)
step_slots old (events.Remove Current) part (inl here) = inl (inl here)
step_slots old (events.Remove Current) part (inr (inl here)) = absurd here
step_slots old (events.Remove Current) part (inr (inr here)) = inl (inr (inr here))
step_slots old (events.Remove Previous) part (inl here) = inl (inl here)
step_slots old (events.Remove Previous) part (inr (inl here)) = inl (inr (inl here))
step_slots old (events.Remove Previous) part (inr (inr here)) = absurd here
step_slots old events.Restore part (inl here) = inl (inr (inr here))
step_slots old events.Restore part (inr later) = inl (inr later)

pub parts_come_from_stages : PartsComeFromStages
parts_come_from_stages old new [] part is slot = inl (subst (λ (n : Node). IsSlot n part) is slot)
parts_come_from_stages old new (event ∷ events) part (mid, step, rest) slot =
    ⊎_elim
    (λ here. ⊎_elim (λ before. inl before) (λ staged. inr (inl staged)) (step_slots old event part (subst (λ (n : Node). IsSlot n part) step.is here)))
    (λ staged. inr (inr staged))
    (parts_come_from_stages mid new events part rest slot)
