use Rattle.std.proofs.Common.{List, ℕ, ◌++◌, ◌∙◌, ap, append_assoc, string_bytes}
use Rattle.std.specs.Prelude.{codes}
use Rattle.lcm_program.specs.PeerWords.{peer_words}
use Rattle.lcm_program.proofs.Results.{on_ok_weaker}
use Rattle.lcm_program.proofs.refusal.push_reason.Goals as goal

pub returns-in_ok-push_str-in-PeerRefused : goal.returns-in_ok-push_str-in-PeerRefused
returns-in_ok-push_str-in-PeerRefused c =
    let arguments = peer_words c.in-PeerRefused.fault in
    rw c.in-PeerRefused.is (on_ok_weaker c.push_peer_fault.result _ _
    (λ pushed.
    pushed ∙ ap (λ (t : List ℕ). t ++ arguments) c.in_ok-push_str-in-PeerRefused.ensures.bytes
    ∙ append_assoc (string_bytes c.args.out.now) (codes "PeerRefused ") arguments)
    c.push_peer_fault.ensures)
