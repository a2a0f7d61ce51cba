use Rattle.http_frames.proofs.ReadBack.{replies_read_back, requests_read_back}
use Rattle.http_frames.proofs.laws.messages_read_back.Goals as goal

pub returns-clause-requests : goal.returns-clause-requests
returns-clause-requests c = requests_read_back

pub returns-clause-replies : goal.returns-clause-replies
returns-clause-replies c = replies_read_back
