use Rattle.store_fields.proofs.Texts.{scalars_of}
use Rattle.store_fields.proofs.writing.utf8_length.Goals as goal

pub returns-clause-scalars : goal.returns-clause-scalars
returns-clause-scalars c = scalars_of _ c.as_slice-chars.ensures.scalars
