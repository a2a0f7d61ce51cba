use Rattle.std.proofs.Common.{◌≡◌, true, sym, ap, ◌∙◌}
use Rattle.std.specs.Option.{option_copied}
use Rattle.http_frames.specs.Framing.{are_lengths_sound}
use Rattle.http_frames.proofs.Digits.{lengths_are}
use Rattle.http_frames.proofs.framing.answer_framing.Goals as goal

pub sized-requires : goal.sized-requires
sized-requires c =
    let sound : are_lengths_sound c.args.headers.now ≡ true = sym c.are_lengths_sound.ensures ∙ c.if-not-are_lengths_sound.false in
    lengths_are c.args.headers.now c.in-Some.header.now sound (sym c.first_named.ensures ∙ ap option_copied c.in-Some.is)
