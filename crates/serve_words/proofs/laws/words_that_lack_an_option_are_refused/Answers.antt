use Rattle.serve_words.proofs.Lacking.{without_an_option}
use Rattle.serve_words.proofs.laws.words_that_lack_an_option_are_refused.Goals as goal

pub returns : goal.returns
returns c = λ name arguments is all. without_an_option name arguments is all
