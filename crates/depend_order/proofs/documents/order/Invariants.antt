use Rattle.depend_order.proofs.documents.order.Given as goal

abbrev pub ghosts-order_uncounted : goal.ghosts-order_uncounted
ghosts-order_uncounted a = record { name = a.blank.name; parts = a.blank.parts }
