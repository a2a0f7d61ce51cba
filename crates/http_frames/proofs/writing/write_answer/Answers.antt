use Rattle.http_frames.proofs.SentAnswers.{sent_answer_if}
use Rattle.http_frames.proofs.writing.write_answer.Goals as goal

pub returns-clause-reads_back : goal.returns-clause-reads_back
returns-clause-reads_back c = sent_answer_if c.args.reply.now c.answer_bytes.result c.answer_bytes.ensures
