use Rattle.std.proofs.Common.{refl}
use Rattle.limit_laws.proofs.laws.limits_are.Goals as goal

pub returns-clause-documents : goal.returns-clause-documents
returns-clause-documents c = record { document = refl; instances = refl; properties = refl; elements = refl; identifier = refl; name = refl; resources = refl; id = refl; version = refl }

pub returns-clause-scripts : goal.returns-clause-scripts
returns-clause-scripts c = record { configuration = refl; rehearsal = refl }

pub returns-clause-metas : goal.returns-clause-metas
returns-clause-metas c = record { text = refl; url = refl; names = refl; partials = refl }

pub returns-clause-nodes : goal.returns-clause-nodes
returns-clause-nodes c = record { parts = refl; reports = refl; older_reports = refl; listed = refl; report_parts = refl; bank = refl; body = refl }

pub returns-clause-messages : goal.returns-clause-messages
returns-clause-messages c = record { body = refl; text = refl; items = refl; item = refl }

pub returns-clause-outside : goal.returns-clause-outside
returns-clause-outside c = record { moment = refl; answer = refl }

pub returns-clause-frames : goal.returns-clause-frames
returns-clause-frames c = record { lines = refl; head = refl; request = refl; request_in_chunks = refl; answer = refl; answer_in_chunks = refl }

pub returns-clause-servers : goal.returns-clause-servers
returns-clause-servers c = record { agents = refl; reports = refl; keys = refl; message = refl; bank = refl; body = refl; connections = refl }
