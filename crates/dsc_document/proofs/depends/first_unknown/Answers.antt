use Rattle.std.proofs.Common.{◌≡◌, ℕ, ◌-◌, List, [], ◌∷◌, ◌++◌, All, IsTrue, is_some, length, take, drop, filter_map, sym, ap, ◌∙◌, append_assoc}
use Rattle.std.proofs.lemmas.List.Elements.{All-push}
use Rattle.mof_values.specs.declared.value.Scalar.{Scalar}
use Rattle.mof_values.specs.declared.value.Scalar.TheVariants.{Text}
use Rattle.mof_values.specs.Values.{text_of_scalar}
use Rattle.dsc_document.specs.Places.{place_of}
use Rattle.dsc_document.specs.declared.places.Places.{Places}
use Rattle.dsc_document.proofs.Passing.{front_of}
use Rattle.dsc_document.proofs.depends.first_unknown.Goals as goal

-- a name that has a place joins those that were passed
passed : (ids : Places) (all left rest : List Scalar) (known : List (List ℕ)) (name : List ℕ)
    → filter_map text_of_scalar all ≡ known ++ filter_map text_of_scalar left → left ≡ Text name ∷ rest
    → All (λ n. IsTrue (is_some (place_of ids n))) known → IsTrue (is_some (place_of ids name))
    → (more : List (List ℕ)) × (filter_map text_of_scalar all ≡ more ++ filter_map text_of_scalar rest) × All (λ n. IsTrue (is_some (place_of ids n))) more
passed ids all left rest known name split is placed has = (
  known ++ name ∷ [],
  split ∙ ap (λ l. known ++ filter_map text_of_scalar l) is ∙ sym (append_assoc known (name ∷ []) (filter_map text_of_scalar rest)),
  All-push (λ n. IsTrue (is_some (place_of ids n))) known name placed has,
)

pub loop-left-preserved-else-is_none : goal.loop-left-preserved-else-is_none
loop-left-preserved-else-is_none c =
    let left = front_of c.loop-left.left.now c.scalar-item.result c.in-len1-up.len_at_least c.scalar-item.is in
    let rest : List Scalar = take (length c.loop-left.left.now - 1) (drop 1 c.loop-left.left.now) in
    passed c.args.ids.now c.args.scalars.now c.loop-left.left.now rest c.loop-left.invariant.0 c.in-Text.name
    c.loop-left.invariant.1 (left ∙ ap (λ s. s ∷ rest) c.in-Text.is) c.loop-left.invariant.2
    (ap (λ o. is_some o) (ap (place_of c.args.ids.now) (sym c.as_slice.ensures.value) ∙ sym c.in_ok-find.ensures) ∙ c.if-is_none.ensures)
