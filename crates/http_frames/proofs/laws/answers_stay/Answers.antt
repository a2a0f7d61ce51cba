use Rattle.http_frames.proofs.Staying.{requests_stay, replies_stay}
use Rattle.http_frames.proofs.laws.answers_stay.Goals as goal

pub returns-clause-requests : goal.returns-clause-requests
returns-clause-requests c = requests_stay

pub returns-clause-replies : goal.returns-clause-replies
returns-clause-replies c = replies_stay
