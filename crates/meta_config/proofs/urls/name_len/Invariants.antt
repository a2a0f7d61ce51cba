use Rattle.std.proofs.Common.{◌≡◌, ◌+◌, length}
use Rattle.std.specs.List.{prefix_len}
use Rattle.meta_config.specs.Urls.{is_in_name}
use Rattle.meta_config.proofs.urls.name_len.Given as goal

abbrev pub invariant-loop-left : goal.invariant-loop-left
invariant-loop-left l = (l.len + prefix_len is_in_name l.left ≡ prefix_len is_in_name l.chars) × (l.len + length l.left ≡ length l.chars)

abbrev pub decreases-loop-left : goal.decreases-loop-left
decreases-loop-left l = length l.left
