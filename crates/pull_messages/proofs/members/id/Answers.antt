use Rattle.std.proofs.Common.{◌≡◌, Some, None, option_map, refl, ap, ◌∙◌}
use Rattle.std.specs.Prelude.{IsOk}
use Rattle.std.specs.Int.{w128, from_be_bytes}
use Rattle.uuid.specs.Text.{parsed}
use Rattle.pull_messages.specs.Members.{id_of}
use Rattle.pull_messages.proofs.Options.{none_of}
use Rattle.pull_messages.proofs.members.id.Goals as goal

pub returns-in-Ok : goal.returns-in-Ok
unfolding id_of
returns-in-Ok c = ap Some c.as_u128.ensures ∙ ap (option_map (from_be_bytes w128)) c.in-Ok.ensures.bytes

pub returns-in-Err : goal.returns-in-Err
unfolding id_of
returns-in-Err c =
    let none : parsed c.args.text.now ≡ None =
    none_of _ (λ h. let ok : IsOk c.parse_str.result = c.parse_str.ensures.ok.1 h in let bad = rw c.in-Err.is at ok in cc bad) in
    rw none refl
