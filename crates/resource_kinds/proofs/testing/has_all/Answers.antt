use Rattle.std.proofs.Common.{Some, ap, sym, ◌∙◌}
use Rattle.std.specs.Prelude.{option_map}
use Rattle.resource_kinds.specs.Entries.{HasEntries}
use Rattle.resource_kinds.proofs.Looked.{has_answered}
use Rattle.resource_kinds.proofs.testing.has_all.Goals as goal

pub returns-in_ok-has_entries-in-Some-clause-answer : goal.returns-in_ok-has_entries-in-Some-clause-answer
returns-in_ok-has_entries-in-Some-clause-answer g c =
    has_answered (g.H.Host.shown c.args.host.now) c.in_ok-found.field-0 c.in_ok-has_entries-in-Some.field-0 c.args.name.now (λ x. option_map (λ v. v.items) x) (λ old value. HasEntries old value)
    c.as_slice.result.now c.args.value.now c.as_bytes.result.now (ap (option_map (λ v. v.items)) c.in-Some.is ∙ ap Some (sym c.as_slice.ensures.value)) c.as_bytes.ensures
    c.in_ok-found.ensures.answer c.in_ok-has_entries-in-Some.ensures
