use Rattle.http_frames.proofs.body.read_body.Goals as goal

pub returns-in-ToEnd : goal.returns-in-ToEnd
returns-in-ToEnd c = rw c.in-ToEnd.is (c.read_to_end.ensures c.args.front)
