use Rattle.std.proofs.Common.{rules}
use Rattle.mof_codec.proofs.CanonicalBytes.{canonical_reads}
use Rattle.mof_codec.proofs.writer.write.Goals as goal

pub returns-clause-reads_back : goal.returns-clause-reads_back
returns-clause-reads_back c limits within = canonical_reads _ _ (search rules) c.in_ok-push_instances.ensures.valid limits within
