use Rattle.gate_log.proofs.Both.{one_list, never_both, front_given}
use Rattle.gate_log.proofs.Answer.{answer_exists}
use Rattle.gate_log.proofs.laws.image_laws.Goals as goal

pub returns : goal.returns
returns c = record { one_list = one_list; never_both = never_both; front_given = front_given; exists = answer_exists }
