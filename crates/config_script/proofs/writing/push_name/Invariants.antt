use Rattle.std.proofs.Common.{◌≡◌, ◌++◌, length, string_bytes, encode_utf8_all}
use Rattle.std.specs.List.{flat_map}
use Rattle.mof_syntax.specs.Canonical.{literal_char}
use Rattle.config_script.specs.Named.{name_chars}
use Rattle.config_script.proofs.writing.push_name.Given as goal

abbrev pub invariant-loop-c : goal.invariant-loop-c
invariant-loop-c l = string_bytes l.out ++ encode_utf8_all (flat_map literal_char (name_chars l.left))
    ≡ string_bytes l.fn.out ++ encode_utf8_all (flat_map literal_char (name_chars l.name))

abbrev pub decreases-loop-c : goal.decreases-loop-c
decreases-loop-c l = length (name_chars l.left)
