use Rattle.std.proofs.Common.{◌-◌, length}
use Rattle.std.specs.Str.{chars}
use denote.Shadow.{shadow}
use denote.Text.{Utf8}
use Rattle.mof_syntax.specs.Limits.{instances_limit}
use Rattle.mof_codec.proofs.DeclarationsRead.{TextSoFar}
use Rattle.mof_codec.proofs.values.declarations.instances_of.Given as goal

abbrev pub invariant-declarations : goal.invariant-declarations
invariant-declarations l = shadow (Utf8 l.left) × TextSoFar (chars l.text) l.instances.items (chars l.left)

abbrev pub decreases-declarations : goal.decreases-declarations
decreases-declarations l = instances_limit - length l.instances.items
