use Rattle.std.proofs.Common.{◌∙◌, sym, ap, Some}
use Rattle.std.proofs.lemmas.Str.{encodes-IsAscii}
use Rattle.uuid.specs.Text.{parsed_hyphenated}
use Rattle.pull_messages.proofs.Agents.{cells_parsed, cells_ascii, parsed_agent}
use Rattle.pull_messages.proofs.parts.hyphenated.Goals as goal

pub unwrap-requires : goal.unwrap-requires
unwrap-requires c =
    let found = cells_parsed c.args.chars.now c.requires in
    let text = c.deref.ensures ∙ c.in_ok-text.ensures ∙ encodes-IsAscii c.args.chars.now (cells_ascii c.args.chars.now c.requires.0) in
    c.hyphenated_id.ensures.found.1 (found.0, ap parsed_hyphenated text ∙ found.1)

pub returns : goal.returns
returns c =
    let text = c.deref.ensures ∙ c.in_ok-text.ensures ∙ encodes-IsAscii c.args.chars.now (cells_ascii c.args.chars.now c.requires.0) in
    let read = rw c.unwrap.ensures at c.hyphenated_id.ensures.some in
    parsed_agent c.args.chars.now read.0 (ap parsed_hyphenated (sym text) ∙ read.1) ∙ ap Some (sym read.2)
