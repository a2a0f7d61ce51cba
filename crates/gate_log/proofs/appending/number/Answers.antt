use Rattle.std.proofs.Common.{ℕ, ◌+◌, ◌-◌, length, ap, ◌∙◌}
use Rattle.gate_log.proofs.InPlace.{numbered}
use Rattle.gate_log.proofs.appending.number.Goals as goal

pub returns : goal.returns
returns c = λ tail same.
    numbered c.copy_from_slice.new.self c.args.head.now tail _ c.requires.whole (ap (λ (n : ℕ). length c.args.head.now - 4 + n) same) (c.copy_from_slice.ensures.after ∙ c.to_be_bytes.ensures)
