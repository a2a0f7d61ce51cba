use Rattle.std.proofs.Common.{◌≡◌, drop}
use Rattle.std.specs.List.{list_all}
use Rattle.rehearsal.specs.Script.{is_start_word}
use Rattle.rehearsal.proofs.start_line.are_start_words.Given as goal

abbrev pub invariant-loop-word : goal.invariant-loop-word
invariant-loop-word l = list_all is_start_word (drop l.word-index l.all) ≡ list_all is_start_word l.all
