use Rattle.std.proofs.Common.{◌∙◌, ℕ, Option, None, List, refl, sym, ap, subst, arith, length}
use Rattle.std.specs.Prelude.{IsSome}
use Rattle.gate_log.specs.Text.{cells}
use Rattle.gate_log.proofs.Leading.{wrote_replaced}
use Rattle.node_state.specs.Table.{after}
use Rattle.node_state.proofs.SoundSteps.{steps_have_agents}
use Rattle.node_store.specs.Stands.{LeadTo, node_shape}
use Rattle.node_store.specs.Whole.{blobs_of}
use Rattle.node_store.proofs.BankRewritten.{rewritten_to}
use Rattle.node_store.proofs.Formats.{kept_as, kept_to, leads_in, wrote_in}
use Rattle.node_store.proofs.Ranges.{leads_sound}
use Rattle.node_store.proofs.Replay.{stepped}
use Rattle.node_store.proofs.Rewritten.{anew, sound_after, whole_fit}
use Rattle.node_store.proofs.bank.write_whole.Goals as goal

pub unreachable-requires : goal.unreachable-requires
unreachable-requires g c =
    let node = c.args.node.now in
    let event = c.args.event.now in
    let some : IsSome {T = ℕ} None = subst (λ (o : Option ℕ). IsSome o) (sym c.agent_after.ensures ∙ c.in_default.is)
    (steps_have_agents node event (after node event) (leads_sound c.requires.kept.1.bodies node (leads_in c.requires.kept.0 c.requires.kept.1.bodies node c.requires.kept.1.leads)) (record { within = c.requires.within; allowed = c.requires.allowed; is = refl })) in
    cc some

pub after-whole-requires-clause-sound : goal.after-whole-requires-clause-sound
after-whole-requires-clause-sound g c = sound_after c.requires.kept.1.bodies c.args.node.now c.args.event.now (leads_in c.requires.kept.0 c.requires.kept.1.bodies c.args.node.now c.requires.kept.1.leads) c.requires.allowed c.requires.within c.requires.range

pub after-whole-requires-clause-fit : goal.after-whole-requires-clause-fit
after-whole-requires-clause-fit g c =
    (whole_fit c.requires.kept.1.bodies c.args.node.now c.args.event.now (leads_in c.requires.kept.0 c.requires.kept.1.bodies c.args.node.now c.requires.kept.1.leads) c.requires.allowed c.requires.within c.requires.range (blobs_of c.args.blobs) c.in-Some.agent
    c.requires.blobs).1

pub rewrite-requires-clause-size : goal.rewrite-requires-clause-size
rewrite-requires-clause-size g c = c.after-whole.ensures.ready.fit

pub rewrite-requires-clause-capacity : goal.rewrite-requires-clause-capacity
rewrite-requires-clause-capacity g c =
    omega (
      arith,
      (whole_fit c.requires.kept.1.bodies c.args.node.now c.args.event.now (leads_in c.requires.kept.0 c.requires.kept.1.bodies c.args.node.now c.requires.kept.1.leads) c.requires.allowed c.requires.within c.requires.range (blobs_of c.args.blobs) c.in-Some.agent
          c.requires.blobs).0,
      ap (λ (l : List (List ℕ)). length (cells l)) c.after-whole.ensures.rest,
    )

pub rewrite-requires-clause-kept : goal.rewrite-requires-clause-kept
rewrite-requires-clause-kept g c =
    (kept_as c.args.node.now c.requires.kept.0, kept_to g.D.Disk c.args.disk.now c.args.log.now c.args.node.now c.requires.kept.0 c.requires.kept.1)

pub returns-clause-answer : goal.returns-clause-answer
returns-clause-answer g c =
    let node = c.args.node.now in
    let event = c.args.event.now in
    let from = c.requires.kept.0 in
    let kept = c.requires.kept.1 in
    let new = kept_as (after node event) (blobs_of c.args.blobs) in
    wrote_in g.D.Disk c.args.disk.now c.rewrite.new.disk c.rewrite.new.log (after node event) (blobs_of c.args.blobs) c.rewrite.result
    (wrote_replaced node_shape LeadTo g.D.Disk c.args.disk.now c.rewrite.new.disk c.args.log.now c.rewrite.new.log _ new c.rewrite.result c.rewrite.ensures.answer
    (c.rewrite.ensures.kept (kept_as node from) new (kept_to g.D.Disk c.args.disk.now c.args.log.now node from kept)
    (anew kept.bodies node event (leads_in from kept.bodies node kept.leads) c.requires.allowed c.requires.within c.requires.range from (blobs_of c.args.blobs) c.in-Some.agent _ (sym c.agent_after.ensures ∙ c.in-Some.is) c.requires.blobs c.after-whole.ensures.rest)))

pub returns-clause-any_moment : goal.returns-clause-any_moment
returns-clause-any_moment g c =
    let node = c.args.node.now in
    let event = c.args.event.now in
    let from = c.requires.kept.0 in
    let kept = c.requires.kept.1 in
    stepped g.D.Disk c.args.disk.now c.rewrite.new.disk node event from (blobs_of c.args.blobs) c.requires.within c.requires.allowed
    (c.rewrite.ensures.any_moment (kept_as node from) (kept_as (after node event) (blobs_of c.args.blobs)) (kept_to g.D.Disk c.args.disk.now c.args.log.now node from kept)
    (anew kept.bodies node event (leads_in from kept.bodies node kept.leads) c.requires.allowed c.requires.within c.requires.range from (blobs_of c.args.blobs) c.in-Some.agent _ (sym c.agent_after.ensures ∙ c.in-Some.is) c.requires.blobs c.after-whole.ensures.rest))

pub returns-clause-rewrites : goal.returns-clause-rewrites
returns-clause-rewrites g c =
    let kept = c.requires.kept.1 in
    rewritten_to g.D.Disk c.args.disk.now c.rewrite.new.disk c.args.log.now c.rewrite.new.log (blobs_of c.args.blobs) (after c.args.node.now c.args.event.now) c.in-Some.agent kept.bodies _
    (sym c.agent_after.ensures ∙ c.in-Some.is) c.requires.blobs c.after-whole.ensures.rest c.rewrite.result c.rewrite.ensures.answer (c.rewrite.ensures.bodies kept.bodies kept.of)
