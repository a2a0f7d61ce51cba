use Rattle.std.proofs.Common.{ap, sym, ◌∙◌}
use Rattle.std.specs.List.{join_with_byte}
use Rattle.std.specs.Option.{option_map}
use Rattle.resource_kinds.specs.PathOrder.{path_left}
use Rattle.resource_kinds.specs.Paths.{kept_segments, rooted}
use Rattle.resource_kinds.proofs.SubjectsMeet.{path_is_matter}
use Rattle.resource_kinds.proofs.subjects.on_path.Goals as goal

pub returns-in-Some : goal.returns-in-Some
returns-in-Some c =
    path_is_matter c.args.instance.now (path_left c.in-Some.path) c.args.text.now
    (ap (option_map path_left) (sym c.in-Some.is) ∙ c.path_in.ensures
    ∙ ap (λ text. option_map (λ all. join_with_byte 47 (kept_segments all)) (rooted text)) c.as_slice.ensures.value)
