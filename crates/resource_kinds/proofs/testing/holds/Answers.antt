use Rattle.resource_kinds.proofs.testing.holds.Goals as goal

pub returns-in-Entries-clause-answer : goal.returns-in-Entries-clause-answer
returns-in-Entries-clause-answer g c = rw c.in-Entries.is c.has_all.ensures.answer

pub returns-in-NoEntries-clause-answer : goal.returns-in-NoEntries-clause-answer
returns-in-NoEntries-clause-answer g c = rw c.in-NoEntries.is c.has_none.ensures.answer

pub returns-in-File-clause-answer : goal.returns-in-File-clause-answer
returns-in-File-clause-answer g c = rw c.in-File.is c.has_file_of.ensures.answer
