use Rattle.resource_kinds.proofs.overlap.encloses_one.Goals as goal

pub returns-in-File : goal.returns-in-File
returns-in-File c = rw c.in-File.is c.has_below.ensures

pub returns-in-NoFile : goal.returns-in-NoFile
returns-in-NoFile c = rw c.in-NoFile.is c.has_below-in-NoFile.ensures

pub returns-in-NoFolder : goal.returns-in-NoFolder
returns-in-NoFolder c = rw c.in-NoFolder.is c.has_below-in-NoFolder.ensures
