use Rattle.std.proofs.Common.{◌∙◌, Ok, Err, ap, refl, sym}
use Rattle.std.specs.Prelude.{option_copied}
use Rattle.meta_config.proofs.NamedPartials.{found_is_named}
use Rattle.dsc_node.proofs.bringing.pushed.Goals as goal

pub laid-requires-clause-declared : goal.laid-requires-clause-declared
laid-requires-clause-declared c =
    found_is_named c.args.node.now.meta.partials c.args.name.now c.in-Some.partial.now (sym c.partial_named.ensures ∙ ap option_copied c.in-Some.is)

pub returns-in-Ok-clause-brought : goal.returns-in-Ok-clause-brought
returns-in-Ok-clause-brought c = record {
  partial = c.in-Some.partial.now;
  is_partial = sym c.partial_named.ensures ∙ ap option_copied c.in-Some.is;
  answer = Ok c.in-Ok.staged;
  lays = c.in-Ok.ensures.laid;
  is = refl;
}

pub returns-in-Err-clause-brought : goal.returns-in-Err-clause-brought
returns-in-Err-clause-brought c = record {
  partial = c.in-Some.partial.now;
  is_partial = sym c.partial_named.ensures ∙ ap option_copied c.in-Some.is;
  answer = Err c.in-Err.error;
  lays = c.in-Err.ensures.laid;
  is = refl;
}
