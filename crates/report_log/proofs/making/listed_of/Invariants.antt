use Rattle.std.proofs.Common.{◌≡◌, ◌≤◌, filter_map, length, take, vec_capacity}
use Rattle.dsc_terms.specs.Lists.{places_below}
use Rattle.report_log.specs.Marks.{listed_at}
use Rattle.report_log.specs.declared.limits.TheConstants.{LISTED_LIMIT}
use Rattle.report_log.proofs.making.listed_of.Given as goal

abbrev pub invariant-loop-place : goal.invariant-loop-place
invariant-loop-place l = record {
  listed : l.listed.items ≡ take LISTED_LIMIT (filter_map (listed_at l.rebooting l.fn.ids.items l.marks) (places_below (length l.yielded)));
  spare : LISTED_LIMIT ≤ vec_capacity l.listed;
}
