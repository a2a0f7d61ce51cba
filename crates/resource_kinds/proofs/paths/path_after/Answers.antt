use Rattle.std.proofs.Common.{◌≡◌, ap, sym, ◌∙◌, arith}
use Rattle.std.specs.Option.{option_map}
use Rattle.std.specs.String.{string_bytes}
use Rattle.std.proofs.lemmas.Bool.Decides.{nat_tests}
use Rattle.resource_kinds.specs.Paths.{all_segments, joined_path, kept_segments, segments}
use Rattle.resource_kinds.proofs.JoinedPaths.{drive_no_parent, path_none, path_some}
use Rattle.resource_kinds.proofs.paths.path_after.Goals as goal
use Rattle.resource_kinds.proofs.paths.path_after.Goals.{then-is_empty, else-is_empty}

pub returns-clause-path : goal.returns-clause-path
returns-clause-path c =
    let none = drive_no_parent c.args.parts.now.drive (segments c.args.parts.now.rest.now) ∙ sym c.has_parent.ensures ∙ c.if-has_parent.false in
    let is : string_bytes c.in_ok-path.path ≡ joined_path (kept_segments (all_segments c.args.parts.now)) = c.in_ok-path.ensures.path in
    elim c.if-is_empty.branch [
      | then-is_empty w ↦ ap (option_map string_bytes) w.result-is
          ∙ sym (path_none (all_segments c.args.parts.now) _ none is (grind (arith, nat_tests, c.is_empty.ensures, w.if-is_empty.true)))
      | else-is_empty w ↦ ap (option_map string_bytes) w.result-is
          ∙ sym (path_some (all_segments c.args.parts.now) _ none is (grind (arith, nat_tests, c.is_empty.ensures, w.if-is_empty.false)))
    ]
