use Rattle.std.proofs.Common.{◌≡◌, ℕ, ◌+◌, ◌<◌, List, [], ◌∷◌, ◌++◌, length, take, get_or, Some, None, filter_map, option_to_list, refl, sym, ap, ◌∙◌}
use Rattle.std.specs.List.{cons_option}
use Rattle.std.proofs.lemmas.List.{take_more}
use Rattle.std.proofs.lemmas.List.Elements.{filter_map-append}
use Rattle.mof_values.specs.declared.value.Scalar.{Scalar}
use Rattle.mof_values.specs.Values.{text_of_scalar}
use Rattle.command_kind.proofs.program.texts_among.Goals as goal

one : (scalar : Scalar) → filter_map text_of_scalar (scalar ∷ []) ≡ option_to_list (text_of_scalar scalar)
one scalar = elim (text_of_scalar scalar) as (λ o. cons_option o [] ≡ option_to_list o) [ None ↦ refl | (Some x) ↦ refl ]

texts_more : (scalars : List Scalar) (i : ℕ) (scalar : Scalar) → i < length scalars → scalar ≡ get_or scalars i scalar
    → filter_map text_of_scalar (take i scalars) ++ option_to_list (text_of_scalar scalar) ≡ filter_map text_of_scalar (take (i + 1) scalars)
texts_more scalars i scalar within is =
    ap (λ l. filter_map text_of_scalar (take i scalars) ++ l) (sym (one scalar))
    ∙ sym (filter_map-append text_of_scalar (take i scalars) (scalar ∷ []))
    ∙ ap (λ s. filter_map text_of_scalar (take i scalars ++ s ∷ [])) is
    ∙ ap (filter_map text_of_scalar) (sym (take_more scalars i scalar within))

pub loop-scalar-preserved : goal.loop-scalar-preserved
loop-scalar-preserved c =
    c.in_ok-push_text.ensures
    ∙ ap (λ l. l ++ option_to_list (text_of_scalar c.scalar-item.result)) c.loop-scalar.invariant
    ∙ texts_more c.args.scalars.now c.loop-scalar.scalar-index c.scalar-item.result c.loop-scalar-test.true c.scalar-item.is
