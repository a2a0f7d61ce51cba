use Rattle.meta_config.proofs.ReadBack.{means_one, reads_back, text_fits, texts_tell_apart}
use Rattle.meta_config.proofs.laws.metas_read_back.Goals as goal

pub returns-clause-read_back : goal.returns-clause-read_back
returns-clause-read_back c = reads_back

pub returns-clause-fit : goal.returns-clause-fit
returns-clause-fit c = text_fits

pub returns-clause-tell_apart : goal.returns-clause-tell_apart
returns-clause-tell_apart c = texts_tell_apart

pub returns-clause-one : goal.returns-clause-one
returns-clause-one c = means_one
