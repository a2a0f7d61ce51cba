use Rattle.http_frames.proofs.OneRequest.{one_request, head_or_open}
use Rattle.http_frames.proofs.OneReply.{one_reply}
use Rattle.http_frames.proofs.laws.one_answer.Goals as goal

pub returns-clause-requests : goal.returns-clause-requests
returns-clause-requests c = one_request

pub returns-clause-inside_target : goal.returns-clause-inside_target
returns-clause-inside_target c = head_or_open

pub returns-clause-replies : goal.returns-clause-replies
returns-clause-replies c = one_reply
