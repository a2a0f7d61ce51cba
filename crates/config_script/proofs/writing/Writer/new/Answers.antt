use Rattle.std.proofs.lemmas.Str.{chars-nil}
use Rattle.config_script.proofs.writing.Writer.new.Goals as goal

pub returns-clause-title : goal.returns-clause-title
returns-clause-title c = chars-nil
