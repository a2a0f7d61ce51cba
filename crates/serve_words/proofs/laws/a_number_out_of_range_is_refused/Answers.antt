use Rattle.serve_words.proofs.Numbers.{out_of_range}
use Rattle.serve_words.proofs.laws.a_number_out_of_range_is_refused.Goals as goal

pub returns : goal.returns
returns c = λ text before after none. out_of_range text before after none
