use Rattle.http_frames.proofs.FrameLaws.{whole_if, more_if, refused_if}
use Rattle.http_frames.proofs.RequestFramings.{small_if, few_if, not_torn_if}
use Rattle.http_frames.proofs.reader.RequestReader.feed.Goals as goal

pub returns-clause-whole : goal.returns-clause-whole
returns-clause-whole c = whole_if _ _ c.take_in.ensures.whole

pub returns-clause-more : goal.returns-clause-more
returns-clause-more c = more_if _ _ c.take_in.ensures.more

pub returns-clause-refused : goal.returns-clause-refused
returns-clause-refused c = refused_if _ _ c.take_in.ensures.refused

pub returns-clause-small : goal.returns-clause-small
returns-clause-small c = small_if _ _ (whole_if _ _ c.take_in.ensures.whole)

pub returns-clause-few : goal.returns-clause-few
returns-clause-few c = few_if _ _ (more_if _ _ c.take_in.ensures.more)

pub returns-clause-not_torn : goal.returns-clause-not_torn
returns-clause-not_torn c = not_torn_if _ _ (refused_if _ _ c.take_in.ensures.refused)
