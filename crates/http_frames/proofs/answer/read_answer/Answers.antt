use Rattle.http_frames.proofs.FrameLaws.{answer_if, no_answer_if}
use Rattle.http_frames.proofs.answer.read_answer.Goals as goal

pub returns-clause-whole : goal.returns-clause-whole
returns-clause-whole c = answer_if c.args.bytes.items c.pass_heads.result c.pass_heads.ensures

pub returns-clause-refused : goal.returns-clause-refused
returns-clause-refused c = no_answer_if c.args.bytes.items c.pass_heads.result c.pass_heads.ensures
