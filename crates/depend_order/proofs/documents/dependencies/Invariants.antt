use Rattle.depend_order.proofs.documents.dependencies.Given as goal

abbrev pub ghosts-dependencies_uncounted : goal.ghosts-dependencies_uncounted
ghosts-dependencies_uncounted a = record { name = a.blank.name; parts = a.blank.parts }
