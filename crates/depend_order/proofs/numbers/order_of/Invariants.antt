use Rattle.depend_order.proofs.numbers.order_of.Given as goal

abbrev pub ghosts-order_of_uncounted : goal.ghosts-order_of_uncounted
ghosts-order_of_uncounted a = record { name = a.blank.name; parts = a.blank.parts }
