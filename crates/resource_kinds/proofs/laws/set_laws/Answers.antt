use Rattle.resource_kinds.proofs.ClearHosts.{clear_stays, keeps_clear}
use Rattle.resource_kinds.proofs.RunLaws.{succeeded, together, unset_hold}
use Rattle.resource_kinds.proofs.SetLaws.{failure_keeps, in_turn, keeps_apart, makes_hold}
use Rattle.resource_kinds.proofs.laws.set_laws.Goals as goal

pub returns : goal.returns
returns c =
    let makes = makes_hold c.entry_laws.ensures.present c.entry_laws.ensures.absent in
    record {
      makes_hold = makes;
      keeps_apart = keeps_apart;
      failure_keeps = failure_keeps;
      in_turn = in_turn;
      together = together makes;
      succeeded = succeeded makes;
      unset = unset_hold;
      keeps_clear = keeps_clear;
      clear_stays = clear_stays;
    }
