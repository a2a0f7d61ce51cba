use Rattle.http_frames.proofs.Walking.{request_starts}
use Rattle.http_frames.proofs.reader.Started.go_on.Goals as goal

pub read_body-requires-clause-starts : goal.read_body-requires-clause-starts
read_body-requires-clause-starts c = request_starts
