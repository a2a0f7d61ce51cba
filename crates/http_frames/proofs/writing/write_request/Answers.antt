use Rattle.http_frames.proofs.SentRequests.{sent_request_if}
use Rattle.http_frames.proofs.writing.write_request.Goals as goal

pub returns-clause-reads_back : goal.returns-clause-reads_back
returns-clause-reads_back c = sent_request_if c.args.request.now c.args.host.now c.request_bytes.result c.request_bytes.ensures
