use Rattle.std.proofs.Common.{◌≡◌, ◌∙◌, Some, ap, sym}
use Rattle.std.specs.Option.{option_copied, option_map}
use Rattle.resource_kinds.specs.Apart.{matter_of}
use Rattle.resource_kinds.specs.Subjects.{subject_matter}
use Rattle.mof_values.specs.Values.{text_named}
use Rattle.resource_kinds.proofs.SubjectsMeet.{wanted_by_key}
use Rattle.resource_kinds.proofs.subjects.named_subject.Goals as goal

pub returns-in-Some-text_named : goal.returns-in-Some-text_named
returns-in-Some-text_named c =
    wanted_by_key (λ wanted. option_map subject_matter c.by_key.result ≡ Some (matter_of wanted)) c.in-Some.kind c.args.resource.now c.in-Some-text_named.text.now
    (sym c.kind_of.ensures ∙ c.in-Some.is)
    (ap (λ name. text_named name c.args.resource.now.instance) (sym c.key_of.ensures) ∙ sym c.text_named.ensures ∙ ap option_copied c.in-Some-text_named.is) c.by_key.ensures
