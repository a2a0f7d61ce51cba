use Rattle.std.proofs.Common.{List}
use Rattle.std.proofs.lemmas.Option.{MatchOption-at_some}
use Rattle.partial_merge.specs.declared.part.Part.{Part}
use Rattle.node_store.specs.Held.{StagesHeld}
use Rattle.node_store.proofs.HeldLists.{moved_again}
use Rattle.node_store.proofs.taking.Taking.take.Goals as goal

pub returns-in-Ok-Some : goal.returns-in-Ok-Some
returns-in-Ok-Some c =
    let old = c.args.self.now in
    let again = MatchOption-at_some _ (λ (parts : List Part). StagesHeld old.node c.args.body.now parts) c.in-Ok-Some.parts c.in-Ok-Some.field-0-is c.in-Ok-Some.ensures in
    moved_again old.node _ old.begun _ c.args.body.now c.in-Ok-Some.parts c.requires again c.stage_again.ensures.node c.stage_again.ensures.begun
