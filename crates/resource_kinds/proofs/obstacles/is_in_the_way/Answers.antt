use Rattle.resource_kinds.proofs.obstacles.is_in_the_way.Goals as goal

pub returns-in-File-clause-answer : goal.returns-in-File-clause-answer
returns-in-File-clause-answer g c = rw c.in-File.is c.bars_file.ensures.answer

pub returns-in-NoFile-clause-answer : goal.returns-in-NoFile-clause-answer
returns-in-NoFile-clause-answer g c = rw c.in-NoFile.is c.bars_file-in-NoFile.ensures.answer

pub returns-in-Folder-clause-answer : goal.returns-in-Folder-clause-answer
returns-in-Folder-clause-answer g c = rw c.in-Folder.is c.bars_folder.ensures.answer

pub returns-in-NoFolder-clause-answer : goal.returns-in-NoFolder-clause-answer
returns-in-NoFolder-clause-answer g c = rw c.in-NoFolder.is c.bars_removal.ensures.answer
