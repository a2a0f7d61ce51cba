use Rattle.std.proofs.Common.{◌≡◌, ℕ, List, Option, ap, codes, ◌∙◌}
use Rattle.std.specs.Option.{option_or}
use Rattle.mof_values.specs.declared.instance.Property.{Property}
use Rattle.meta_config.specs.declared.tables.Domain.{Domain}
use Rattle.meta_config.specs.declared.tables.Domain.TheVariants as domains
use Rattle.meta_config.specs.Tables.{row, wrong_in_row}
use Rattle.meta_config.proofs.tables.wrong_in_parts.Goals as goal

also : (ps : List Property) (name : List ℕ) (domain : Domain) {a b : Option (List ℕ)} → a ≡ b
    → option_or a (wrong_in_row (row name domain) ps) ≡ option_or b (wrong_in_row (row name domain) ps)
also ps name domain e = ap (λ o. option_or o (wrong_in_row (row name domain) ps)) e

pub returns : goal.returns
returns c =
    c.or_wrong.ensures
    ∙ also c.args.properties.now (codes "RefreshMode") domains.Refresh (c.or_wrong-found-2.ensures
    ∙ also c.args.properties.now (codes "ExclusiveResources") domains.Texts (c.or_wrong-found.ensures
    ∙ also c.args.properties.now (codes "DependsOn") domains.References (c.wrong_in_row-found.ensures)))
