use Rattle.std.proofs.Common.{ap, ◌∙◌, Some, ℕ, Bool, Option}
use Rattle.std.proofs.lemmas.Result.{IfOk-at_ok}
use Rattle.jiff.specs.Types.{Timestamp}
use Rattle.pull_client.proofs.Printed.{printed, to_z_small}
use Rattle.pull_client.proofs.moments.moment_text.Goals as goal

pub returns : goal.returns
returns c =
    let t = c.timestamp_text.ensures in
    let value = IfOk-at_ok _ c.unwrap-instant.ensures c.from_second.ensures.value in
    let plain = ap (λ (x : Timestamp). x.nanosecond) c.to_plain.ensures in
    let options = c.precision.ensures ∙ ap (λ (o : Bool × ℕ × Option ℕ). (o.0, o.1, Some c.args.places)) c.new.ensures in
    (t.0, t.1 ∙ plain ∙ value ∙ to_z_small c.args.moment c.requires.moment, t.2 ∙ ap (printed t.0) options)
