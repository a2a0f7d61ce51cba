use Rattle.std.proofs.Common.{sym, subst}
use Rattle.std.proofs.lemmas.Result.{IfOk-weaker}
use Rattle.std.specs.Str.{IsValidUpTo}
use Rattle.pull_messages.specs.Decoding.{IsDecoded}
use Rattle.pull_messages.proofs.TargetLaws.{decoded_all, decoded_front}
use Rattle.pull_messages.proofs.targets.decoded.Goals as goal

pub returns-in-Ok : goal.returns-in-Ok
returns-in-Ok c =
    let bytes = c.args.bytes.now in
    let whole = c.in-Ok.ensures.cases in
    IfOk-weaker c.from_utf8-in-Ok.result _ _ (λ v is. subst (IsDecoded bytes) (sym is) (decoded_all bytes c.in-Ok.text.now whole.1 whole.0)) c.from_utf8-in-Ok.ensures.chars

pub returns-in-Ok-from_utf8 : goal.returns-in-Ok-from_utf8
returns-in-Ok-from_utf8 c =
    let bytes = c.args.bytes.now in
    let front = c.in-Ok-from_utf8.ensures.cases in
    let valid = c.in-Err.ensures.cases.1 in
    let size = c.valid_up_to.ensures in
    IfOk-weaker c.from_utf8-in-Ok-from_utf8.result _ _
    (λ v is. subst (IsDecoded bytes) (sym is) (decoded_front bytes c.in-Ok-from_utf8.text.now c.valid_up_to.result front.0 front.1 (subst (IsValidUpTo bytes) (sym size) valid)))
    c.from_utf8-in-Ok-from_utf8.ensures.chars
