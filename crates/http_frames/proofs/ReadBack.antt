-- A message that is written reads back as itself, and as nothing else.
use Rattle.std.proofs.Common.{[], sym, append-nil}
use Rattle.std.specs.Prelude.{Some, Ok}
use Rattle.http_frames.specs.OneAnswer.{EndsInWrongTarget}
use Rattle.http_frames.specs.ReadBack.{RepliesReadBack, RequestsReadBack}
use Rattle.http_frames.specs.Sending.{sent, sent_reply}
use Rattle.http_frames.specs.Writing.{answer_text, request_text}
use Rattle.http_frames.proofs.InTarget.{whole_not_in_target}
use Rattle.http_frames.proofs.OneReply.{one_reply}
use Rattle.http_frames.proofs.OneRequest.{one_request}
use Rattle.http_frames.proofs.SentAnswers.{sent_answer_reads}
use Rattle.http_frames.proofs.SentRequests.{sent_request_reads}

pub requests_read_back : RequestsReadBack
requests_read_back request host can =
    let text = request_text request host in
    let frame = sent_request_reads request host can in
    let whole : ¬ (EndsInWrongTarget text) = λ wrong. whole_not_in_target text frame.head frame.body frame.front wrong.0 in
    record {
      frame = frame;
      alone = λ x answer. one_request text x (Ok (Some (sent request host))) whole answer (text, [], sym (append-nil text), frame);
    }

pub replies_read_back : RepliesReadBack
replies_read_back reply can =
    let frame = sent_answer_reads reply can in
    record { frame = frame; alone = λ x answer. one_reply (answer_text reply) x (Ok (sent_reply reply)) answer frame }
