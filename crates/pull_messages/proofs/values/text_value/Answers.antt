use Rattle.std.proofs.Common.{string_bytes, sym, ◌∙◌, ap}
use Rattle.std.specs.Str.{chars}
use Rattle.std.proofs.lemmas.Str.{IsUtf8-string_bytes, chars_from_encodes}
use Rattle.pull_messages.proofs.values.text_value.Goals as goal

pub returns-clause-recoded : goal.returns-clause-recoded
returns-clause-recoded c =
    let written = string_bytes c.in_ok-to_utf8.field-0 in
    let bytes = c.in_ok-to_utf8.ensures in
    ap chars (sym bytes) ∙ sym (chars_from_encodes c.args.text.now written (IsUtf8-string_bytes c.in_ok-to_utf8.field-0) (sym bytes))
