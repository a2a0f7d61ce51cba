use Rattle.dsc_document.proofs.FirstUnknown.{unknown_unknown}
use Rattle.depend_order.specs.Repeats.{IsFirstRepeatedId}
use Rattle.depend_order.proofs.Repeated.{never_shared}
use Rattle.depend_order.proofs.names.known_places.Goals as goal

pub unreachable-requires : goal.unreachable-requires
unreachable-requires g c =
    let document = c.args.document.now in
    let first = c.in-Err-DuplicateId.field-0-0 in
    let second = c.in-Err-DuplicateId.field-0-1 in
    let repeats : IsFirstRepeatedId document.resources first second = rw c.in-Err-DuplicateId.field-0-is at c.in-Err-DuplicateId.ensures.refused in
    never_shared document.resources c.requires.distinct repeats.earlier repeats.later repeats.repeats.repeats

pub unreachable-requires-in-Err-DependsUnknown : goal.unreachable-requires-in-Err-DependsUnknown
unreachable-requires-in-Err-DependsUnknown g c =
    let document = c.args.document.now in
    let unknown = rw c.in-Err-DependsUnknown.field-0-is at c.in-Err-DependsUnknown.ensures.refused in
    unknown_unknown document _ _ unknown.1 c.requires.known
