use Rattle.depend_order.proofs.names.places_of_names.Given as goal

abbrev pub ghosts-places_uncounted : goal.ghosts-places_uncounted
ghosts-places_uncounted a = record { name = a.blank.name; parts = a.blank.parts }
