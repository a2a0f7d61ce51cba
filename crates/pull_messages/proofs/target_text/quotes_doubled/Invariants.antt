use Rattle.std.proofs.Common.{◌≡◌, take, string_bytes}
use Rattle.std.specs.Prelude.{encode_utf8_all}
use Rattle.pull_messages.specs.Targets.{doubled}
use Rattle.pull_messages.proofs.target_text.quotes_doubled.Given as goal

abbrev pub invariant-loop-c : goal.invariant-loop-c
invariant-loop-c l = string_bytes l.text ≡ encode_utf8_all (doubled (take l.c-index l.chars))
