use Rattle.std.proofs.Common.{◌-◌, length}
use Rattle.std.specs.Str.{chars}
use denote.Shadow.{shadow}
use denote.Text.{Utf8}
use Rattle.mof_syntax.specs.Limits.{properties_limit}
use Rattle.mof_codec.proofs.PropertiesRead.{BodySoFar}
use Rattle.mof_codec.proofs.values.properties.properties.Given as goal

abbrev pub invariant-properties : goal.invariant-properties
invariant-properties l = shadow (Utf8 l.left) × BodySoFar (chars l.text) l.properties.items (chars l.left)

abbrev pub decreases-properties : goal.decreases-properties
decreases-properties l = properties_limit - length l.properties.items
