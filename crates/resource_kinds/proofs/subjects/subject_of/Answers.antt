use Rattle.std.proofs.Common.{sym, ◌∙◌}
use Rattle.std.specs.Option.{option_map}
use Rattle.resource_kinds.specs.Subjects.{subject_matter}
use Rattle.resource_kinds.specs.Wanted.{wanted_of}
use Rattle.resource_kinds.proofs.SubjectsMeet.{sound_matter}
use Rattle.resource_kinds.proofs.subjects.subject_of.Goals as goal

pub returns : goal.returns
returns c =
    sound_matter (wanted_of c.args.resource.now) (option_map subject_matter c.named_subject.result) c.named_subject.ensures (sym c.has_fault.ensures ∙ c.if-has_fault.false)
