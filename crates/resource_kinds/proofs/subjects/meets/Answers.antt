use Rattle.std.proofs.Common.{ap}
use Rattle.std.specs.Option.{option_map}
use Rattle.resource_kinds.specs.Subjects.{subject_matter}
use Rattle.resource_kinds.specs.Wanted.{wanted_of}
use Rattle.resource_kinds.proofs.SubjectsMeet.{asks_if_sound, asks_nothing}
use Rattle.resource_kinds.proofs.subjects.meets.Goals as goal

pub returns-then-meet : goal.returns-then-meet
returns-then-meet c =
    asks_if_sound (subject_matter c.in-Some.own) (subject_matter c.args.subject) (option_map subject_matter c.named_subject.result) (ap (option_map subject_matter) c.in-Some.is)
    c.meet.result c.meet.ensures (wanted_of c.args.resource.now) c.has_fault.result c.named_subject.ensures c.if-meet.true c.has_fault.ensures

pub returns-else-meet : goal.returns-else-meet
returns-else-meet c =
    asks_nothing (subject_matter c.in-Some.own) (subject_matter c.args.subject) (option_map subject_matter c.named_subject.result) (ap (option_map subject_matter) c.in-Some.is)
    c.meet.result c.meet.ensures (wanted_of c.args.resource.now) c.named_subject.ensures c.if-meet.false
