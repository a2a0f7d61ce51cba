use Rattle.std.proofs.Common.{◌≡◌, drop}
use Rattle.rehearsal.specs.Script.{latest, text_named}
use Rattle.rehearsal.proofs.texts.find_text.Given as goal

abbrev pub invariant-loop-text : goal.invariant-loop-text
invariant-loop-text l = latest l.name l.found (drop l.text-index l.texts) ≡ text_named l.name l.texts
