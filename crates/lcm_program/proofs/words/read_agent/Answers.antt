use Rattle.std.proofs.Common.{◌≡◌, ◌∙◌, Some, None, option_map, ap, sym}
use Rattle.std.specs.Prelude.{IsOk}
use Rattle.std.specs.Int.{w128, from_be_bytes}
use Rattle.uuid.specs.Text.{parsed}
use Rattle.lcm_program.specs.Words.{agent_of}
use Rattle.lcm_program.proofs.Results.{none_of}
use Rattle.lcm_program.proofs.words.read_agent.Goals as goal

pub returns-in-Ok-clause-some : goal.returns-in-Ok-clause-some
unfolding agent_of
returns-in-Ok-clause-some c = sym (ap Some c.as_u128.ensures ∙ ap (option_map (from_be_bytes w128)) c.in-Ok.ensures.bytes)

pub returns-in-Err-clause-none : goal.returns-in-Err-clause-none
unfolding agent_of
returns-in-Err-clause-none c = λ agent is.
    let none : parsed c.args.word.now ≡ None =
    none_of _ (λ h. let ok : IsOk c.parse_str.result = c.parse_str.ensures.ok.1 h in let bad = rw c.in-Err.is at ok in cc bad) in
    let never = rw none at is in cc never
