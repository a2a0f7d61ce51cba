use Rattle.serve_words.proofs.Eight.{eight_taken}
use Rattle.serve_words.proofs.laws.eight_words_are_taken.Goals as goal

pub returns : goal.returns
returns c = λ store shelf listen count hs hf hl least most. eight_taken store shelf listen count hs hf hl least most
