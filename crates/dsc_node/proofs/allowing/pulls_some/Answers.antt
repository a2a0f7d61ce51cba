use Rattle.std.proofs.Common.{◌≡◌, ◌==◌, false, List, [], ◌∷◌, length, refl, sym, ap, ◌∙◌}
use Rattle.std.specs.List.{list_any}
use Rattle.meta_config.specs.declared.meta.Meta.{Meta}
use Rattle.meta_config.specs.declared.meta.Partial.{Partial}
use Rattle.meta_config.specs.Parts.{is_pulled}
use Rattle.dsc_node.specs.Commands.{pulls_of}
use Rattle.dsc_node.proofs.allowing.pulls_some.Goals as goal

-- where some are declared, each is asked
some_declared : (meta : Meta) (partials : List Partial) → (length partials == 0) ≡ false → list_any (is_pulled meta) partials ≡ pulls_of meta partials
some_declared meta [] is = absurd (cc is)
some_declared meta (partial ∷ partials) is = refl

pub returns-else-is_empty : goal.returns-else-is_empty
returns-else-is_empty c =
    let declared = sym c.is_empty.ensures ∙ c.if-is_empty.false in
    c.any_pulled.ensures ∙ rw c.as_slice-partials.ensures (some_declared c.args.meta.now c.args.meta.now.partials (ap (λ (ps : List Partial). length ps == 0) (sym c.as_slice-partials.ensures) ∙ declared))
