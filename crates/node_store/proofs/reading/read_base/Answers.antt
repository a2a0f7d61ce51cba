use Rattle.std.proofs.Common.{◌∙◌}
use Rattle.store_fields.specs.Fields.{bytes_of_flag, IsFlag}
use Rattle.store_fields.proofs.Composing.{exit}
use Rattle.node_store.specs.Bodies.{bytes_of_base, IsBase}
use Rattle.node_store.proofs.Heads.{base_opened}
use Rattle.node_store.proofs.reading.read_base.Goals as goal

pub returns-in_err-registered : goal.returns-in_err-registered
returns-in_err-registered c =
    exit bytes_of_base IsBase bytes_of_flag IsFlag _ _ _ _ _ _ c.from_residual-in_err-registered.ensures.1 c.in_err-registered.ensures.reads (λ base rest range is.
    let agent = c.in_ok-agent.ensures.reads.only base.0 _ range.0 (is ∙ base_opened base rest) in
    (base.1, (_, (tt, agent.1))))

pub returns-in_err-reboot : goal.returns-in_err-reboot
returns-in_err-reboot c =
    exit bytes_of_base IsBase bytes_of_flag IsFlag _ _ _ _ _ _ c.from_residual-in_err-reboot.ensures.1 c.in_err-reboot.ensures.reads (λ base rest range is.
    let agent = c.in_ok-agent.ensures.reads.only base.0 _ range.0 (is ∙ base_opened base rest) in
    let registered = c.in_ok-registered.ensures.reads.only base.1 _ tt agent.1 in
    (base.2, (_, (tt, registered.1))))
