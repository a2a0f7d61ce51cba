use Rattle.std.proofs.Common.{sym, ◌∙◌}
use Rattle.hex.proofs.HexLemmas.{IsOk-decode_sized}
use Rattle.shared_key.specs.Checksum.{checksum_of}
use Rattle.shared_key.proofs.HexDigits.{decoded-raised}
use Rattle.shared_key.proofs.checksum.read_checksum.Goals as goal

pub returns-clause-found : goal.returns-clause-found
returns-clause-found c =
    let digits = IsOk-decode_sized c.args.text.now 32 in
    let sized = c.from_hex.ensures in (
      λ h. digits.0 (rw sized at (sym c.ok.ensures.variant ∙ h)),
      λ h. c.ok.ensures.variant ∙ rw sized (digits.1 h),
    )

pub returns-clause-spelled : goal.returns-clause-spelled
unfolding checksum_of
returns-clause-spelled c = rw (c.ok.ensures.value, c.from_hex.ensures) (decoded-raised c.args.text.now 32)
