use Rattle.std.proofs.Common.{string_bytes}
use Rattle.lcm_program.proofs.starts.start_node.Goals as goal

pub returns-clause-starts : goal.returns-clause-starts
returns-clause-starts g c = record {
  ended = c.start_over.result.status;
  lines = string_bytes c.start_over.result.lines;
  start = c.start_over.ensures.start;
  headline = c.start_over.ensures.headline;
  more = tt;
  again = c.start_over.ensures.again;
  later = c.start_over.ensures.later;
  prints = c.print_start.ensures;
}
