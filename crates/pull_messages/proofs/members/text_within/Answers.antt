use Rattle.std.proofs.Common.{◌≡◌, true, false, length, refl}
use Rattle.std.specs.Str.{chars}
use Rattle.std.proofs.lemmas.Str.{encodes-chars}
use Rattle.pull_messages.specs.Limits.{is_within}
use Rattle.pull_messages.specs.Members.{within}
use Rattle.pull_messages.proofs.members.text_within.Goals as goal

pub returns-in_ok-from_utf8 : goal.returns-in_ok-from_utf8
unfolding within
returns-in_ok-from_utf8 c =
    let size = encodes-chars c.args.text.now c.utf8.text in
    let allowed : is_within c.args.limit (length c.args.text.now) ≡ true = cc in
    let text : c.in_ok-from_utf8.field-0 ≡ chars c.args.text.now = c.in_ok-from_utf8.ensures.chars in
    rw (size, allowed, text) refl

pub returns-else-allows : goal.returns-else-allows
unfolding within
returns-else-allows c =
    let size = encodes-chars c.args.text.now c.utf8.text in
    let refused : is_within c.args.limit (length c.args.text.now) ≡ false = cc in
    rw (size, refused) refl
